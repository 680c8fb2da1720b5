-- Marking the registers that are read. Assumes nothing.
use Rattle.std.proofs.Common.{◌≡◌, ℕ, zero, suc, ◌+◌, ◌<◌, Bool, true, false, not, ◌&&◌, eqb, ltb, List, length, get_or, set, replicate, Some, None, sym, refl, ap, ◌∙◌, inl, inr, arith, length-set}
use Rattle.std.proofs.lemmas.List.{get_or-set_other, get_or-set_same}
use Rattle.std.proofs.lemmas.Bool.{cases_Bool, cases_eq}
use Rattle.std.proofs.lemmas.Bool.Decides.{nat_tests}
use Rattle.machine.specs.Limits.{registers}
use Rattle.conventions.specs.Arguments.{in_register, same_place}
use Rattle.conventions.specs.declared.arguments.Place.{Place}
use Rattle.conventions.specs.declared.arguments.Place.TheVariants.{Register, Outgoing}
use Rattle.order.specs.Indices.{first}
use Rattle.order.specs.Order.{is_index}
use Rattle.order.specs.Tables.{Table, reads}
use Rattle.order.proofs.Indices.{some_more}
use Rattle.moves.specs.Tables.{Marked, named_register, read_by}

-- register e reads d exactly if it is the one that it names
reads_named : (t : Table) (e d : ℕ) → d < registers → reads t d e ≡ is_index (read_by t e) d
reads_named t e d below = named (t e)
  where
    named : (p : Place) → (not (same_place p (in_register e)) && same_place p (in_register d)) ≡ is_index (named_register e p) d
    named (Register q) =
        elim (cases_eq q.0 d) [
          | inl same ↦ grind (arith, nat_tests, same, below)
          | inr other ↦ elim (cases_Bool (not (eqb q.0 e) && ltb q.0 registers)) [ inl yes' ↦ grind (arith, nat_tests, other, yes') | inr no' ↦ grind (arith, nat_tests, other, no') ]
        ]
    named (Outgoing o) = refl

unmarked : (n d : ℕ) → get_or (replicate n false) d false ≡ false
unmarked zero d = refl
unmarked (suc n) zero = refl
unmarked (suc n) (suc d) = unmarked n d

pub marked_none : (t : Table) → Marked t 0 (replicate registers false)
unfolding first
marked_none t = record { marks_read = λ d h. unmarked registers d; whole = refl }

module _ (t : Table) (e : ℕ) (marks : List Bool) (before : Marked t e marks) where
  pub marked_pass : read_by t e ≡ None → Marked t (e + 1) marks
  marked_pass none = record {
    marks_read = λ d h.
        let none_read : reads t d e ≡ false = reads_named t e d h ∙ ap (λ o. is_index o d) none in
        before.marks_read d h ∙ sym (some_more (reads t d) e ∙ grind (arith, none_read));
    whole = before.whole;
  }

  pub marked_more : (q : ℕ) → read_by t e ≡ Some q → q < registers → Marked t (e + 1) (set marks q true)
  marked_more q named below = record {
    marks_read = λ d h. elim (cases_eq d q) [
      | inl same ↦
          let there : q < length marks = omega (arith, before.whole) in
          let is_read : reads t d e ≡ true = reads_named t e d h ∙ ap (λ o. is_index o d) named ∙ grind (arith, nat_tests, same) in
          ap (λ k. get_or (set marks q true) k false) same ∙ get_or-set_same marks q true false there ∙ sym (some_more (reads t d) e ∙ grind (arith, is_read))
      | inr other ↦
          let unread : reads t d e ≡ false = reads_named t e d h ∙ ap (λ o. is_index o d) named ∙ grind (arith, nat_tests, other) in
          get_or-set_other marks q d true false other ∙ before.marks_read d h ∙ sym (some_more (reads t d) e ∙ grind (arith, unread))
    ];
    whole = simp length-set before.whole;
  }

-- the register that is named is in the table
pub named_there : (e q : ℕ) (p : Place) → named_register e p ≡ Some q → q < registers
named_there e q (Register r) h =
    elim (cases_Bool (not (eqb r.0 e) && ltb r.0 registers)) [ inl yes' ↦ grind (arith, nat_tests, h, yes') | inr no' ↦ absurd (grind (arith, h, no')) ]
named_there e q (Outgoing o) h = absurd (grind (arith, h))
