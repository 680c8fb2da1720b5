-- The lowest number that passes a test, found by a search through a range or a list. Assumes nothing.
use Rattle.std.proofs.Common.{◌≡◌, ℕ, ◌<◌, ◌≤◌, Bool, true, false, List, length, get_or, is_some, Some, None, Option, sym, refl, ap, ◌∙◌, inl, inr, arith}
use Rattle.std.specs.List.{AllWithin, HoldsAt}
use Rattle.std.specs.Option.{MatchOption}
use Rattle.std.proofs.lemmas.Bool.{and_parts}
use Rattle.machine.specs.Limits.{registers}
use Rattle.machine.specs.declared.places.OutgoingSlot.{OutgoingSlot}
use Rattle.conventions.specs.Arguments.{from_register}
use Rattle.order.specs.Indices.{first}
use Rattle.order.proofs.Indices.{cases_option, first_hit, first_some}
use Rattle.order.specs.Tables.{Table, pending}
use Rattle.order.specs.Wants.{Wants, lowest_slot}
use Rattle.moves.specs.Tables.{held}
use Rattle.moves.specs.Wants.{slot_number}

-- a slot was found exactly if its number was
pub slot_there : (o : Option OutgoingSlot) → is_some (slot_number o) ≡ is_some o
slot_there None = refl
slot_there (Some o) = refl

-- the lowest register that is held has a slot that holds it
pub slot_found : (w : Wants) (t : Table) (d : ℕ) (o : Option OutgoingSlot) → Some d ≡ first (held w t) registers → slot_number o ≡ lowest_slot w (from_register d) → is_some o ≡ true
slot_found w t d o found is =
    let low = first_some (held w t) registers d (sym found) in
    sym (slot_there o) ∙ ap is_some is ∙ (and_parts (pending t d) (is_some (lowest_slot w (from_register d))) low.passes).1

none_passes : (p : ℕ → Bool) (n : ℕ) → ((k : ℕ) → k < n → p k ≡ false) → first p n ≡ None
none_passes p n none =
    elim (cases_option (first p n)) [
      | inl s ↦ let low = first_some p n s.0 s.1 in absurd (grind (arith, low.passes, none s.0 low.below))
      | inr e ↦ e
    ]

-- what a search through the numbers below n tells of its result
pub first_is : (p : ℕ → Bool) (n : ℕ) (r : Option ℕ) → MatchOption r ((k : ℕ) → 0 ≤ k → k < n → p k ≡ false) (λ i. (0 ≤ i) × (i < n) × (p i ≡ true) × ((k : ℕ) → 0 ≤ k → k < i → p k ≡ false)) → r ≡ first p n
first_is p n None none = sym (none_passes p n (λ k h. none k (omega arith) h))
first_is p n (Some i) found = sym (first_hit p n i found.1 (none_passes p i (λ k h. found.3 k (omega arith) h)) found.2)

-- what a search through a list tells of its result
pub first_in : {A : Type 0} (p : A → Bool) (xs : List A) (d : A) (n : ℕ) (r : Option ℕ) → length xs ≡ n → MatchOption r (AllWithin (λ x. p x ≡ false) xs 0 (length xs)) (λ i. (i < length xs) × HoldsAt (λ x. p x ≡ true) xs i × AllWithin (λ x. p x ≡ false) xs 0 i) → r ≡ first (λ i. p (get_or xs i d)) n
first_in p xs d n None whole none = first_is (λ i. p (get_or xs i d)) n None (λ k low high. none k d low (omega arith))
first_in p xs d n (Some i) whole found = first_is (λ i. p (get_or xs i d)) n (Some i) (omega arith, omega (arith, found.0), found.1 d, λ k low high. found.2 k d low high)
