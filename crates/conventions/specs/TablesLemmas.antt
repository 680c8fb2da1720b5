-- Any table of argument registers makes a lawful convention. Assumes nothing.
use Rattle.std.specs.Prelude.{◌≡◌, ℕ, zero, suc, ◌-◌, ◌<◌, ◌≤◌, true, false, not, List, [], ◌∷◌, length, take, ◌==◌, ◌≢◌, slice_index, slice_index_or, refl}
use Rattle.std.proofs.Common.{sym, ap, ◌∙◌, inl, inr, arith, eq-eqb}
use Rattle.std.proofs.lemmas.List.{get_or-map, get_or-take, length-map, length-take-le}
use Rattle.std.proofs.lemmas.List.Folds.{list_any_at}
use Rattle.std.proofs.lemmas.List.Sums.{AllPass-from_list_all}
use Rattle.std.proofs.lemmas.Bool.{and_parts, cases_lt, not-true}
use Rattle.std.proofs.lemmas.Bool.Decides.{nat_tests}
use Rattle.machine.specs.Limits.{registers}
use Rattle.machine.specs.Places.{holds}
use Rattle.machine.specs.declared.places.Register.{Register}
use Rattle.conventions.specs.Boards.{in_order, registers_first}
use Rattle.conventions.specs.Conventions.{Lawful, place_lawful, place_of}
use Rattle.conventions.specs.Tables.{all_held, distinct, has, numbers}

pub length-numbers : (n : ℕ) (rs : List Register) → n ≤ length rs → length (numbers n rs) ≡ n
length-numbers n rs whole = length-map (take n rs) (λ r. r.0) ∙ length-take-le n rs whole

pub get_or-numbers : (n : ℕ) (rs : List Register) (i : ℕ) → n ≤ length rs → i < n → slice_index (numbers n rs) i ≡ (slice_index_or rs i (record { 0 = 0 })).0
get_or-numbers n rs i whole below =
    let count = length-take-le n rs whole in
    get_or-map (λ (r : Register). r.0) (take n rs) i (record { 0 = 0 }) 0 (omega arith) ∙ ap (λ r. r.0) (get_or-take n rs i (record { 0 = 0 }) below)

absent_at : (r : ℕ) (rs : List ℕ) (j : ℕ) → has r rs ≡ false → j < length rs → r ≢ slice_index rs j
absent_at r rs j none below same =
    let found = list_any_at (λ x. r == x) rs j 0 below (eq-eqb r (slice_index rs j) same) in
    cc (none, found)

first_apart : (r : ℕ) (rs : List ℕ) (j : ℕ) → distinct (r ∷ rs) ≡ true → j < length rs → r ≢ slice_index rs j
first_apart r rs j apart = absent_at r rs j (not-true (has r rs) (and_parts (not (has r rs)) (distinct rs) apart).0)

distinct_at : (rs : List ℕ) (i j : ℕ) → distinct rs ≡ true → i < length rs → j < length rs → slice_index rs i ≡ slice_index rs j → i ≡ j
distinct_at [] i j apart i-below j-below same = absurd (omega arith)
distinct_at (r ∷ rs) zero zero apart i-below j-below same = refl
distinct_at (r ∷ rs) zero (suc j) apart i-below j-below same = absurd (first_apart r rs j apart (omega arith) same)
distinct_at (r ∷ rs) (suc i) zero apart i-below j-below same = absurd (first_apart r rs i apart (omega arith) (sym same))
distinct_at (r ∷ rs) (suc i) (suc j) apart i-below j-below same =
    ap suc (distinct_at rs i j (and_parts (not (has r rs)) (distinct rs) apart).1 (omega arith) (omega arith) same)

held_at : (usable : ℕ) (rs : List ℕ) (i : ℕ) → all_held usable rs ≡ true → i < length rs → holds usable (slice_index rs i) ≡ true
held_at usable rs i held = AllPass-from_list_all (holds usable) rs held i 0

module _
    (rs : List ℕ) (scratch usable lost : ℕ) (different : distinct rs ≡ true) (held : all_held usable rs ≡ true)
    (in_range : scratch < registers) (reserved : holds usable scratch ≡ false) where
  place_is : (i : ℕ) → place_of (registers_first rs scratch usable lost) i ≡ in_order rs i
  place_is i = let none : i - 0 ≡ i = omega arith in grind (arith, nat_tests, ap (in_order rs) none)

  in_order_different : (i j : ℕ) → in_order rs i ≡ in_order rs j → i ≡ j
  in_order_different i j same =
      elim (cases_lt i (length rs)) [
        | inl i-in ↦ elim (cases_lt j (length rs)) [
          | inl j-in ↦ distinct_at rs i j different i-in j-in (grind (arith, nat_tests, same))
          | inr j-out ↦ absurd (grind (arith, nat_tests, same))
        ]
        | inr i-out ↦ elim (cases_lt j (length rs)) [
          | inl j-in ↦ absurd (grind (arith, nat_tests, same))
          | inr j-out ↦ grind (arith, nat_tests, same)
        ]
      ]

  in_order_lawful : (n i : ℕ) → i < n → place_lawful usable (n - length rs) (in_order rs i) ≡ true
  in_order_lawful n i below =
      elim (cases_lt i (length rs)) [
        | inl in_table ↦ grind (arith, nat_tests, held_at usable rs i held in_table)
        | inr past ↦ grind (arith, nat_tests)
      ]

  pub registers_first_lawful : Lawful (registers_first rs scratch usable lost)
  registers_first_lawful = record {
    hidden_few = omega arith;
    different = λ n i j fits i-below j-below same. in_order_different i j (sym (place_is i) ∙ same ∙ place_is j);
    places = λ n i fits below. ap (place_lawful usable (n - length rs)) (place_is i) ∙ in_order_lawful n i (omega arith);
    slots_few = λ n fits. omega arith;
    scratch_in_range = in_range;
    scratch_reserved = reserved;
    sources = λ n i fits below. absurd (omega arith);
  }
