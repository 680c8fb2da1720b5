-- Elements of a list added one after the other. Assumes nothing.
use Rattle.std.proofs.Common.{◌≡◌, ℕ, ◌+◌, ◌<◌, ◌≤◌, List, [], ◌∷◌, ◌++◌, length, get_or, take, sym, ap, ◌∙◌, append_assoc, take_all}
use Rattle.std.proofs.lemmas.List.{take_more}

module _ {A : Type 0} (xs before now : List A) (i : ℕ) where
  pub added_more : (after : List A) (d : A) → i < length xs → now ≡ before ++ take i xs → after ≡ now ++ (get_or xs i d ∷ []) → after ≡ before ++ take (i + 1) xs
  added_more after d more so_far adds =
      adds ∙ ap (λ ys. ys ++ (get_or xs i d ∷ [])) so_far ∙ append_assoc before (take i xs) (get_or xs i d ∷ []) ∙ ap (before ++◌) (sym (take_more xs i d more))

  pub added_all : length xs ≤ i → now ≡ before ++ take i xs → now ≡ before ++ xs
  added_all all so_far = so_far ∙ ap (before ++◌) (take_all i xs all)
