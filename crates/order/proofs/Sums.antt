-- Sums over the indices below a number, and counts of those that pass a test. Assumes nothing.
use Rattle.std.proofs.Common.{◌≡◌, ℕ, zero, suc, ◌+◌, ◌<◌, ◌≤◌, Bool, true, false, cond, sym, refl, ap, ◌∙◌, inl, inr, arith}
use Rattle.std.proofs.lemmas.Bool.{cases_eq}

unfoldable pub sum : (ℕ → ℕ) → ℕ → ℕ
sum f zero = 0
sum f (suc n) = sum f n + f n

-- 1 for a test that is passed
abbrev pub bit : Bool → ℕ
bit b = cond b 1 0

abbrev pub count : (ℕ → Bool) → ℕ → ℕ
count p n = sum (λ i. bit (p i)) n

pub bit_most : (b : Bool) → bit b ≤ 1
bit_most true = omega arith
bit_most false = omega arith

pub sum_same : (f g : ℕ → ℕ) (n : ℕ) → ((i : ℕ) → i < n → f i ≡ g i) → sum f n ≡ sum g n
unfolding sum
sum_same f g zero h = refl
sum_same f g (suc n) h = omega (arith, sum_same f g n (λ i k. h i (omega arith)), h n (omega arith))

pub sum_most : (f g : ℕ → ℕ) (n : ℕ) → ((i : ℕ) → i < n → f i ≤ g i) → sum f n ≤ sum g n
unfolding sum
sum_most f g zero h = omega arith
sum_most f g (suc n) h = omega (arith, sum_most f g n (λ i k. h i (omega arith)), h n (omega arith))

-- where no term is larger and the sums are equal, the terms are
pub sum_tight : (f g : ℕ → ℕ) (n : ℕ) → ((i : ℕ) → i < n → f i ≤ g i) → sum g n ≤ sum f n → (i : ℕ) → i < n → f i ≡ g i
unfolding sum
sum_tight f g zero h e i k = absurd (omega arith)
sum_tight f g (suc n) h e i k =
    let most = sum_most f g n (λ j l. h j (omega arith)) in
    let here = h n (omega arith) in
    elim (cases_eq i n) [
      | inl same ↦ let at : f n ≡ g n = omega arith in ap f same ∙ at ∙ ap g (sym same)
      | inr other ↦ sum_tight f g n (λ j l. h j (omega arith)) (omega arith) i (omega arith)
    ]

pub sum_none : (f : ℕ → ℕ) (n : ℕ) → ((i : ℕ) → i < n → f i ≡ 0) → sum f n ≡ 0
unfolding sum
sum_none f zero h = refl
sum_none f (suc n) h = omega (arith, sum_none f n (λ i k. h i (omega arith)), h n (omega arith))

pub sum_ones : (f : ℕ → ℕ) (n : ℕ) → ((i : ℕ) → i < n → f i ≤ 1) → sum f n ≤ n
unfolding sum
sum_ones f zero h = omega arith
sum_ones f (suc n) h = omega (arith, sum_ones f n (λ i k. h i (omega arith)), h n (omega arith))

pub sum_add : (f g : ℕ → ℕ) (n : ℕ) → sum (λ i. f i + g i) n ≡ sum f n + sum g n
unfolding sum
sum_add f g zero = refl
sum_add f g (suc n) = omega (arith, sum_add f g n)

pub sum_swap : (f : ℕ → ℕ → ℕ) (m n : ℕ) → sum (λ i. sum (f i) m) n ≡ sum (λ j. sum (λ i. f i j) n) m
unfolding sum
sum_swap f m zero = sym (sum_none (λ j. 0) m (λ i k. refl))
sum_swap f m (suc n) = ap (λ k. k + sum (f n) m) (sum_swap f m n) ∙ sym (sum_add (λ j. sum (λ i. f i j) n) (f n) m)

-- two sums whose terms differ at one index only
pub sum_change : (f g : ℕ → ℕ) (n k : ℕ) → k < n → ((i : ℕ) → i < n → (i ≡ k → ⊥) → f i ≡ g i) → sum f n + g k ≡ sum g n + f k
unfolding sum
sum_change f g zero k h same = absurd (omega arith)
sum_change f g (suc n) k h same =
    elim (cases_eq k n) [
      | inl e ↦
          let before = sum_same f g n (λ i l. same i (omega arith) (λ at. absurd (omega arith))) in
          let left = ap f e in
          let right = ap g e in
          omega arith
      | inr ne ↦
          let before = sum_change f g n k (omega arith) (λ i l. same i (omega arith)) in
          let here = same n (omega arith) (λ at. ne (sym at)) in
          omega arith
    ]

-- a sum of which one term is 1 and the others are 0
pub sum_one : (f : ℕ → ℕ) (n k : ℕ) → k < n → f k ≡ 1 → ((i : ℕ) → i < n → (i ≡ k → ⊥) → f i ≡ 0) → sum f n ≡ 1
sum_one f n k h one others =
    let change = sum_change f (λ i. 0) n k h others in
    let none = sum_none (λ i. 0) n (λ i l. refl) in
    omega arith

pub sum_at : (f : ℕ → ℕ) (n k : ℕ) → k < n → f k ≤ sum f n
unfolding sum
sum_at f zero k h = absurd (omega arith)
sum_at f (suc n) k h =
    elim (cases_eq k n) [
      | inl e ↦ let at = ap f e in omega arith
      | inr ne ↦ let before = sum_at f n k (omega arith) in omega arith
    ]

-- two terms of a sum
pub sum_two : (f : ℕ → ℕ) (n i j : ℕ) → i < n → j < n → (i ≡ j → ⊥) → f i + f j ≤ sum f n
unfolding sum
sum_two f zero i j h k ne = absurd (omega arith)
sum_two f (suc n) i j h k ne =
    elim (cases_eq i n) [
      | inl e ↦ let at = ap f e in let other = sum_at f n j (omega arith) in omega arith
      | inr no-i ↦ elim (cases_eq j n) [
        | inl e ↦ let at = ap f e in let other = sum_at f n i (omega arith) in omega arith
        | inr no-j ↦ let both = sum_two f n i j (omega arith) (omega arith) ne in omega arith
      ]
    ]

-- a sum that is not 0 has a term that is not
pub sum_some : (f : ℕ → ℕ) (n : ℕ) → 0 < sum f n → (i : ℕ) × (i < n) × (0 < f i)
unfolding sum
sum_some f zero h = absurd (omega arith)
sum_some f (suc n) h =
    elim (cases_eq (f n) 0) [
      | inl e ↦ let before = sum_some f n (omega arith) in (before.0, omega arith, before.2)
      | inr ne ↦ (n, omega arith, omega arith)
    ]

-- a sum of terms of at most 1 of which no two are 1
pub sum_once : (f : ℕ → ℕ) (n : ℕ) → ((i : ℕ) → f i ≤ 1) → ((i j : ℕ) → i < n → j < n → 0 < f i → 0 < f j → i ≡ j) → sum f n ≤ 1
unfolding sum
sum_once f zero most once = omega arith
sum_once f (suc n) most once =
    elim (cases_eq (f n) 0) [
      | inl e ↦ let before = sum_once f n most (λ i j k l. once i j (omega arith) (omega arith)) in omega arith
      | inr ne ↦
          let none : (i : ℕ) → i < n → f i ≡ 0 =
          λ i k. elim (cases_eq (f i) 0) [ inl zero' ↦ zero' | inr more ↦ let same = once i n (omega arith) (omega arith) (omega arith) (omega arith) in absurd (omega arith) ] in
          let before = sum_none f n none in
          let here = most n in
          omega arith
    ]
