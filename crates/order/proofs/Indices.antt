-- The lowest index that passes a test, and what is given at each index. Assumes nothing.
use Rattle.std.proofs.Common.{◌≡◌, ℕ, zero, suc, ◌+◌, ◌<◌, Bool, true, false, ◌||◌, ◌⊎◌, List, ◌++◌, is_some, Some, None, Option, sym, refl, ap, ◌∙◌, subst, inl, inr, add-one, arith}
use Rattle.std.proofs.ByRecursion.{All-append}
use Rattle.std.proofs.lemmas.Bool.{cases_Bool, cases_eq, cases_order}
use Rattle.std.specs.List.{AllByRecursion}
use Rattle.machine.specs.States.{State}
use Rattle.machine.specs.Effects.{run}
use Rattle.machine.specs.declared.steps.Step.{Step}
use Rattle.machine.proofs.Runs.{run_append}
use Rattle.order.specs.Indices.{each, first}

-- an option that is there, or not
pub cases_option : {A : Type 0} (o : Option A) → ((x : A) × (o ≡ Some x)) ⊎ (o ≡ None)
cases_option None = inr refl
cases_option (Some x) = inl (x, refl)

pub some_same : (a b : ℕ) → Some a ≡ Some b → a ≡ b
some_same a b e = cc

-- what is known of the index found
pub record Lowest (p : ℕ → Bool) (n i : ℕ) : Type 0 where
  pub below : i < n
  pub passes : p i ≡ true
  pub lower : (j : ℕ) → j < i → p j ≡ false

pub first_none : (p : ℕ → Bool) (n : ℕ) → first p n ≡ None → (j : ℕ) → j < n → p j ≡ false
unfolding first
first_none p zero e j h = absurd (omega arith)
first_none p (suc n) e j h =
    elim (cases_option (first p n)) [
      | inl s ↦ absurd (grind (arith, e, s.1))
      | inr none ↦ elim (cases_Bool (p n)) [
        | inl yes' ↦ absurd (grind (arith, e, none, yes'))
        | inr no' ↦ elim (cases_eq j n) [
          | inl same ↦ ap p same ∙ no'
          | inr other ↦ first_none p n none j (omega arith)
        ]
      ]
    ]

pub first_some : (p : ℕ → Bool) (n i : ℕ) → first p n ≡ Some i → Lowest p n i
unfolding first
first_some p zero i e = absurd (grind (arith, e))
first_some p (suc n) i e =
    elim (cases_option (first p n)) [
      | inl s ↦
          let same : s.0 ≡ i = grind (arith, e, s.1) in
          let below = first_some p n i (s.1 ∙ ap (λ k. Some k) same) in
          record { below = omega arith; passes = below.passes; lower = below.lower }
      | inr none ↦ elim (cases_Bool (p n)) [
        | inl yes' ↦
            let same : n ≡ i = grind (arith, e, none, yes') in
            record { below = omega arith; passes = ap p (sym same) ∙ yes'; lower = λ j h. first_none p n none j (omega arith) }
        | inr no' ↦ absurd (grind (arith, e, none, no'))
      ]
    ]

-- where an index passes, one is found
pub first_found : (p : ℕ → Bool) (n j : ℕ) → j < n → p j ≡ true → (i : ℕ) × (first p n ≡ Some i)
first_found p n j h yes' =
    elim (cases_option (first p n)) [ inl s ↦ s | inr none ↦ absurd (grind (arith, first_none p n none j h, yes')) ]

pub some_more : (p : ℕ → Bool) (i : ℕ) → is_some (first p (i + 1)) ≡ (is_some (first p i) || p i)
unfolding first
some_more p i =
    rw add-one
    (elim (cases_option (first p i)) [
      | inl s ↦ grind (arith, s.1)
      | inr none ↦ elim (cases_Bool (p i)) [ inl yes' ↦ grind (arith, none, yes') | inr no' ↦ grind (arith, none, no') ]
    ])

-- the first index that passes is found
pub first_hit : (p : ℕ → Bool) (n i : ℕ) → i < n → first p i ≡ None → p i ≡ true → first p n ≡ Some i
first_hit p n i h none yes' =
    let found = first_found p n i h yes' in
    let low = first_some p n found.0 found.1 in
    let not-above : found.0 < i → ⊥ = λ below. grind (arith, low.passes, first_none p i none found.0 below) in
    let not-below : i < found.0 → ⊥ = λ below. grind (arith, yes', low.lower i below) in
    found.1 ∙ ap (λ k. Some k) (level found.0 i not-below not-above)
  where
    level : (a b : ℕ) → (b < a → ⊥) → (a < b → ⊥) → a ≡ b
    level a b up down = elim (cases_order a b) [ inl e ↦ e | inr o ↦ elim o [ inl l ↦ absurd (down l) | inr g ↦ absurd (up g) ] ]

pub first_same : (p q : ℕ → Bool) (n : ℕ) → ((j : ℕ) → j < n → p j ≡ q j) → first p n ≡ first q n
unfolding first
first_same p q zero h = refl
first_same p q (suc n) h =
    let before = first_same p q n (λ j k. h j (omega arith)) in
    let here = h n (omega arith) in
    grind (arith, before, here)

-- a property that each block of steps carries on
pub run_each : (P : ℕ → State → Type 0) (f : ℕ → List Step) (n : ℕ) (σ : State) → P 0 σ → ((i : ℕ) (τ : State) → i < n → P i τ → P (suc i) (run (f i) τ)) → P n (run (each f n) σ)
unfolding each
run_each P f zero σ start step = start
run_each P f (suc n) σ start step =
    let before = run_each P f n σ start (λ i τ h. step i τ (omega arith)) in
    subst (P (suc n)) (sym (run_append (each f n) (f n) σ)) (step n (run (each f n) σ) (omega arith) before)

pub all_each : {A : Type 0} (P : A → Type 0) (f : ℕ → List A) (n : ℕ) → ((i : ℕ) → i < n → AllByRecursion P (f i)) → AllByRecursion P (each f n)
unfolding each
all_each P f zero h = tt
all_each P f (suc n) h = All-append P (each f n) (f n) (all_each P f n (λ i k. h i (omega arith))) (h n (omega arith))

pub each_same : {A : Type 0} (f g : ℕ → List A) (n : ℕ) → ((i : ℕ) → i < n → f i ≡ g i) → each f n ≡ each g n
unfolding each
each_same f g zero h = refl
each_same f g (suc n) h = λ i. each_same f g n (λ j k. h j (omega arith)) i ++ h n (omega arith) i
