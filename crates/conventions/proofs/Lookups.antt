-- What is known of an argument that is looked up. Assumes nothing.
use Rattle.std.proofs.Common.{◌≡◌, List, [], ◌∷◌, Some, ap, subst, inl, inr, arith}
use Rattle.std.proofs.lemmas.Bool.{cases_Bool}
use Rattle.std.specs.List.{AllByRecursion}
use Rattle.conventions.specs.Arguments.{Separate, same_place, source_at}
use Rattle.conventions.specs.declared.arguments.Argument.{Argument}
use Rattle.conventions.specs.declared.arguments.Place.{Place}
use Rattle.conventions.specs.declared.arguments.Source.{Source}
use Rattle.conventions.proofs.Places.{place_refl, place_same}

-- what holds of all arguments holds of the one looked up
pub looked_up : (P : Argument → Type 0) (xs : List Argument) (p : Place) (s : Source)
    → AllByRecursion P xs → source_at xs p ≡ Some s → P (record { place = p; source = s })
looked_up P [] p s all e = absurd (grind (arith, e))
looked_up P (a ∷ xs) p s all e =
    elim (cases_Bool (same_place a.place p)) [
      | inl here ↦
          let place = place_same a.place p here in
          let source : a.source ≡ s = grind (arith, e, here) in
          subst P (λ i. record { place = place i; source = source i }) all.0
      | inr not-here ↦ looked_up P xs p s all.1 (grind (arith, e, not-here))
    ]

-- what holds of each argument that is found at its place holds of all
pub all_looked_up : (P : Argument → Type 0) (xs : List Argument)
    → Separate xs → ((p : Place) (s : Source) → source_at xs p ≡ Some s → P (record { place = p; source = s })) → AllByRecursion P xs
all_looked_up P [] separate h = tt
all_looked_up P (a ∷ xs) separate h = (
  h a.place a.source (grind (arith, place_refl a.place)),
  all_looked_up P xs separate.1 (λ p s e. h p s (later p s e)),
)
  where
    later : (p : Place) (s : Source) → source_at xs p ≡ Some s → source_at (a ∷ xs) p ≡ Some s
    later p s e = elim (cases_Bool (same_place a.place p)) [
      | inl here ↦ absurd (grind (arith, e, separate.0, ap (source_at xs) (place_same a.place p here)))
      | inr not-here ↦ grind (arith, e, not-here)
    ]
