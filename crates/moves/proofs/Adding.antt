-- Steps added for one index after the other. Assumes nothing.
use Rattle.std.proofs.Common.{◌≡◌, ℕ, zero, suc, ◌+◌, ◌<◌, ◌≤◌, List, ◌++◌, length, sym, refl, ap, ◌∙◌, inl, inr, append_assoc, append-nil, add-one, arith, length-append}
use Rattle.std.proofs.lemmas.Bool.{cases_eq}
use Rattle.order.specs.Indices.{each}

module _ {A : Type 0} (f : ℕ → List A) where
  -- what is given below one index is no longer than what is given below a later one
  pub each_most : (n i : ℕ) → i ≤ n → length (each f i) ≤ length (each f n)
  unfolding each
  each_most zero i h = let none : i ≡ 0 = omega arith in omega (arith, ap (λ k. length (each f k)) none)
  each_most (suc n) i h =
      let split = length-append (each f n) (f n) in
      elim (cases_eq i (suc n)) [
        | inl same ↦ omega (arith, ap (λ k. length (each f k)) same)
        | inr other ↦ omega (arith, each_most n i (omega arith), split)
      ]

  pub each_next : (i : ℕ) → each f i ++ f i ≡ each f (i + 1)
  unfolding each
  each_next i = rw add-one refl

module _ {A : Type 0} (f : ℕ → List A) (before : List A) where
  pub adding_none : before ≡ before ++ each f 0
  unfolding each
  adding_none = sym (append-nil before)

  pub adding_more : (i : ℕ) (now more after : List A) → now ≡ before ++ each f i → more ≡ f i → after ≡ now ++ more → after ≡ before ++ each f (i + 1)
  adding_more i now more after h is e =
      e ∙ (λ j. h j ++ is j) ∙ append_assoc before (each f i) (f i) ∙ ap (λ ps. before ++ ps) (each_next f i)

  -- there is room for the next
  pub adding_room : (n i limit : ℕ) (now more : List A) → i < n → now ≡ before ++ each f i → more ≡ f i → length before + length (each f n) ≤ limit → length now + length more ≤ limit
  adding_room n i limit now more h so is room =
      let here = ap length so in
      let one = ap length is in
      let split = length-append before (each f i) in
      let next = ap length (each_next f i) in
      let joined = length-append (each f i) (f i) in
      let most = each_most f n (i + 1) (omega arith) in
      omega arith
