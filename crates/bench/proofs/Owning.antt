-- Cells that are their own origins: registers, then local slots, then unknown cells. Assumes nothing.
use Rattle.std.proofs.Common.{◌≡◌, ℕ, ◌+◌, ◌-◌, ◌<◌, ◌≤◌, ◌++◌, List, length, get_or, replicate, Ok, sym, ap, ◌∙◌, inl, inr, zero-add, arith}
use Rattle.std.proofs.Math.Path.{fun_ext}
use Rattle.std.proofs.lemmas.List.{get_or-append-add, get_or-map, get_or-replicate, get_or_append_left, get_or_past, length-append, length-replicate}
use Rattle.std.proofs.lemmas.Bool.{cases_lt}
use Rattle.std.proofs.lemmas.Bool.Decides.{nat_tests}
use Rattle.machine.specs.Limits.{local_slots, registers}
use Rattle.machine.specs.States.{below, blank}
use Rattle.machine.specs.Words.{Start}
use Rattle.machine.specs.declared.turns.Turn.TheVariants.{Bare}
use Rattle.machine.specs.declared.words.Word.{Word}
use Rattle.machine.specs.declared.words.Word.TheVariants.{Unknown as no_word}
use Rattle.bench.specs.Cells.{area, cell_count, first_local, first_outgoing, judged_cells, words}
use Rattle.bench.specs.Origins.{Own, origin_stands}
use Rattle.bench.specs.declared.origins.Origin.{Origin}
use Rattle.bench.specs.declared.origins.Origin.TheVariants.{Unknown, Register, Local}

-- cells that passed the check are as many as a bench takes
pub count_passed : (n : ℕ) → Ok tt ≡ judged_cells n → n ≡ cell_count
count_passed n e = grind (arith, nat_tests, e)

-- origins stand for the words of their start
own_area : (cells : List Origin) (s : Start) (first n : ℕ) (f : ℕ → Word) → first + n ≤ length cells → ((i : ℕ) → i < n → origin_stands (get_or cells (first + i) Unknown) s ≡ f i) → area (words (λ c. origin_stands c s) cells) first n ≡ below n f
own_area cells s first n f inside stand =
    let word : (k : ℕ) → k < n → words (λ c. origin_stands c s) cells (first + k) ≡ f k =
    λ k l. get_or-map (λ c. origin_stands c s) cells (first + k) Unknown no_word (omega arith) ∙ stand k l in
    fun_ext (λ k. grind (arith, nat_tests, word k))

module _
    (rs ls others : List Origin) (registers_whole : length rs ≡ registers) (locals_whole : length ls ≡ local_slots)
    (own_registers : (r : ℕ) → r < registers → get_or rs r Unknown ≡ Register (record { 0 = r }))
    (own_locals : (n : ℕ) → n < local_slots → get_or ls n Unknown ≡ Local (record { 0 = n })) (n : ℕ) (unknown : others ≡ replicate n Unknown) where
  abbrev cells : List Origin
  cells = rs ++ (ls ++ others)

  register_at : (r : ℕ) → r < registers → get_or cells r Unknown ≡ Register (record { 0 = r })
  register_at r h = get_or_append_left rs (ls ++ others) Unknown r (omega arith) ∙ own_registers r h

  past_registers : (k : ℕ) → get_or cells (first_local + k) Unknown ≡ get_or (ls ++ others) k Unknown
  past_registers k = rw (sym registers_whole) (get_or-append-add rs (ls ++ others) k Unknown)

  local_at : (k : ℕ) → k < local_slots → get_or cells (first_local + k) Unknown ≡ Local (record { 0 = k })
  local_at k h = past_registers k ∙ get_or_append_left ls others Unknown k (omega arith) ∙ own_locals k h

  unknown_at : (k : ℕ) → get_or others k Unknown ≡ Unknown
  unknown_at k =
      elim (cases_lt k n) [
        | inl l ↦ rw unknown (get_or-replicate n k Unknown Unknown l)
        | inr l ↦ get_or_past others k Unknown (rw unknown (omega (arith, length-replicate n Unknown)))
      ]

  rest_at : (i : ℕ) → first_outgoing ≤ i → get_or cells i Unknown ≡ Unknown
  rest_at i h =
      let k = i - first_outgoing in
      let at : i ≡ first_local + (local_slots + k) = omega arith in
      let past_locals : get_or (ls ++ others) (local_slots + k) Unknown ≡ get_or others k Unknown = rw (sym locals_whole) (get_or-append-add ls others k Unknown) in
      ap (λ j. get_or cells j Unknown) at ∙ past_registers (local_slots + k) ∙ past_locals ∙ unknown_at k

  pub own_cells : Own cells
  own_cells =
      let whole : length cells ≡ registers + (local_slots + length others) = simp length-append (omega arith) in
      record {
        register = register_at;
        local = local_at;
        rest = rest_at;
        state = λ s i. record {
          register = own_area cells s 0 registers s.register (omega (arith, whole)) (λ r h. rw zero-add (ap (λ c. origin_stands c s) (register_at r h))) i;
          local = own_area cells s first_local local_slots s.local (omega (arith, whole)) (λ k h. ap (λ c. origin_stands c s) (local_at k h)) i;
          outgoing = blank;
          turn = Bare;
          calls = 0;
          seen = record { routine = 0; register = blank; outgoing = blank };
        };
      }
