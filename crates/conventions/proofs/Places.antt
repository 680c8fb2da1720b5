-- Places and sources compared. Assumes nothing.
use Rattle.std.proofs.Common.{◌≡◌, ℕ, true, sym, ap, ◌∙◌, arith}
use Rattle.std.proofs.lemmas.Bool.Decides.{nat_tests}
use Rattle.conventions.specs.Arguments.{in_register, in_slot, same_place, same_source, from_register}
use Rattle.conventions.specs.declared.arguments.Place.{Place}
use Rattle.conventions.specs.declared.arguments.Place.TheVariants.{Register, Outgoing}
use Rattle.conventions.specs.declared.arguments.Source.{Source}
use Rattle.conventions.specs.declared.arguments.Source.TheVariants.{Number, Register as Held, Local}

pub place_same : (p q : Place) → same_place p q ≡ true → p ≡ q
place_same (Register a) (Register b) e = ap in_register (grind (arith, nat_tests, e))
place_same (Register a) (Outgoing b) e = absurd (grind (arith, e))
place_same (Outgoing a) (Register b) e = absurd (grind (arith, e))
place_same (Outgoing a) (Outgoing b) e = ap in_slot (grind (arith, nat_tests, e))

pub place_refl : (p : Place) → same_place p p ≡ true
place_refl (Register a) = grind (arith, nat_tests)
place_refl (Outgoing a) = grind (arith, nat_tests)

pub same_places : (p q : Place) → p ≡ q → same_place p q ≡ true
same_places p q e = ap (same_place p) (sym e) ∙ place_refl p

pub register_same : (a b : ℕ) → in_register a ≡ in_register b → a ≡ b
register_same a b e = grind (arith, nat_tests, same_places (in_register a) (in_register b) e)

pub source_same : (a b : Source) → same_source a b ≡ true → a ≡ b
source_same (Number a) (Number b) e = ap (λ k. Number k) (grind (arith, nat_tests, e))
source_same (Number a) (Held b) e = absurd (grind (arith, e))
source_same (Number a) (Local b) e = absurd (grind (arith, e))
source_same (Held a) (Number b) e = absurd (grind (arith, e))
source_same (Held a) (Held b) e = ap from_register (grind (arith, nat_tests, e))
source_same (Held a) (Local b) e = absurd (grind (arith, e))
source_same (Local a) (Number b) e = absurd (grind (arith, e))
source_same (Local a) (Held b) e = absurd (grind (arith, e))
source_same (Local a) (Local b) e = ap (λ n. Local (record { 0 = n })) (grind (arith, nat_tests, e))

pub source_refl : (a : Source) → same_source a a ≡ true
source_refl (Number a) = grind (arith, nat_tests)
source_refl (Held a) = grind (arith, nat_tests)
source_refl (Local a) = grind (arith, nat_tests)
