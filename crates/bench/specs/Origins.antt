-- The word that an origin stands for. Assumes nothing.
use Rattle.std.specs.Prelude.{◌≡◌, ℕ, ◌+◌, ◌<◌, ◌≤◌, ◌++◌, codes, List, Ok, Err, Result, slice_index_or}
use Rattle.std.specs.Fmt.{decimal}
use Rattle.machine.specs.Limits.{registers, local_slots}
use Rattle.machine.specs.Words.{Start}
use Rattle.machine.specs.declared.refusals.Refusal.{Refusal}
use Rattle.bench.specs.Cells.{first_local, first_outgoing, loaded, words}
use Rattle.machine.specs.States.{begin}
use Rattle.machine.specs.declared.words.Word.{Word}
use Rattle.machine.specs.declared.words.Word.TheVariants.{Unknown as unknown_word, Number as number_word}
use Rattle.bench.specs.declared.origins.Origin.{Origin}
use Rattle.bench.specs.declared.origins.Origin.TheVariants.{Unknown, Register, Local, Number}

abbrev pub origin_stands : Origin → Start → Word
origin_stands Unknown s = unknown_word
origin_stands (Register r) s = s.register r.0
origin_stands (Local n) s = s.local n.0
origin_stands (Number k) s = number_word k

-- what an origin prints
abbrev pub origin_text : Origin → List ℕ
origin_text Unknown = codes "?"
origin_text (Register r) = codes "r" ++ decimal r.0
origin_text (Local n) = codes "l" ++ decimal n.0
origin_text (Number k) = codes "k" ++ decimal k

-- every register and local slot is its own origin, and every other cell is unknown
pub record Own (cells : List Origin) : Type 0 where
  pub register : (r : ℕ) → r < registers → slice_index_or cells r Unknown ≡ Register (record { 0 = r })
  pub local : (n : ℕ) → n < local_slots → slice_index_or cells (first_local + n) Unknown ≡ Local (record { 0 = n })
  pub rest : (i : ℕ) → first_outgoing ≤ i → slice_index_or cells i Unknown ≡ Unknown
  -- so a new bench on them is, from every start, at that start
  pub state : (s : Start) → loaded (words (λ c. origin_stands c s) cells) ≡ begin s

-- what the request for own origins did: all of it, or nothing
abbrev pub OwnOrigins : Result (Unit {0}) Refusal → List Origin → List Origin → Type 0
OwnOrigins (Ok _) before after = Own after
OwnOrigins (Err _) before after = after ≡ before
