-- One more hidden argument keeps a convention's laws. Assumes nothing.
use Rattle.std.specs.Prelude.{◌≡◌, ℕ, ◌+◌, ◌-◌, ◌<◌, ◌≤◌, true}
use Rattle.std.proofs.Common.{sym, ap, ◌∙◌, inl, inr, arith}
use Rattle.std.proofs.lemmas.Bool.{cases_order, cases_eq}
use Rattle.std.proofs.lemmas.Bool.Decides.{nat_tests}
use Rattle.machine.specs.Limits.{outgoing_slots}
use Rattle.conventions.specs.Handles.{handle_first, next}
use Rattle.conventions.specs.Conventions.{Answers, Lawful, argument_limit, place_of, place_lawful, source_lawful}

module _ (a : Answers) (n : ℕ) (fits : (handle_first a).hidden + n ≤ argument_limit) where
  -- a call with n arguments given has n + 1 below
  slots_below : (handle_first a).slots n ≡ a.slots (n + 1)
  slots_below = let few : next n ≡ n + 1 = omega arith in ap a.slots few

  -- an argument has the same place below, where the last hidden one is argument 0
  place_below : (i : ℕ) → i < (handle_first a).hidden + n → place_of (handle_first a) i ≡ place_of a i
  place_below i below =
      let one : (handle_first a).hidden ≡ a.hidden + 1 = omega arith in
      let past : next (i - (handle_first a).hidden) ≡ i - (handle_first a).hidden + 1 = omega arith in
      elim (cases_order i a.hidden) [
        | inl same ↦ let none : i - a.hidden ≡ 0 = omega arith in grind (arith, nat_tests, one, none)
        | inr apart ↦ elim apart [
          | inl less ↦ grind (arith, nat_tests, one)
          | inr more ↦
              let there : next (i - (handle_first a).hidden) ≡ i - a.hidden = omega arith in
              grind (arith, nat_tests, one, there, ap a.place there)
        ]
      ]

  module _ (lawful : Lawful a) where
    places_below : (i : ℕ) → i < (handle_first a).hidden + n → place_lawful a.usable.0 ((handle_first a).slots n) (place_of (handle_first a) i) ≡ true
    places_below i below =
        let law : place_lawful a.usable.0 (a.slots (n + 1)) (place_of a i) ≡ true = lawful.places (n + 1) i (omega arith) (omega arith) in
        ap (place_lawful a.usable.0 ((handle_first a).slots n)) (place_below i below)
        ∙ ap (λ s. place_lawful a.usable.0 s (place_of a i)) slots_below ∙ law

    different_below : (i j : ℕ) → i < (handle_first a).hidden + n → j < (handle_first a).hidden + n → place_of (handle_first a) i ≡ place_of (handle_first a) j → i ≡ j
    different_below i j i-below j-below same =
        lawful.different (n + 1) i j (omega arith) (omega arith) (omega arith) (sym (place_below i i-below) ∙ same ∙ place_below j j-below)

    slots_few_below : (handle_first a).slots n ≤ outgoing_slots
    slots_few_below = omega (arith, slots_below, lawful.slots_few (n + 1) (omega arith))

    sources_below : (i : ℕ) → i < (handle_first a).hidden → source_lawful a.usable.0 ((handle_first a).hidden_source i) ≡ true
    sources_below i below =
        elim (cases_eq i a.hidden) [
          | inl same ↦ grind (arith, nat_tests)
          | inr other ↦ grind (arith, nat_tests, lawful.sources (n + 1) i (omega arith) (omega arith))
        ]

pub handle_first_lawful : (a : Answers) → Lawful a → Lawful (handle_first a)
handle_first_lawful a lawful = record {
  hidden_few = omega arith;
  different = λ n i j fits. different_below a n fits lawful i j;
  places = λ n i fits. places_below a n fits lawful i;
  slots_few = λ n fits. slots_few_below a n fits lawful;
  scratch_in_range = lawful.scratch_in_range;
  scratch_reserved = lawful.scratch_reserved;
  sources = λ n i fits. sources_below a n fits lawful i;
}
