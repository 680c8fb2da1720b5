-- The words of cells: after one is written, after many are, and one register on in a loop that loses many. Assumes nothing.
use Rattle.std.proofs.Common.{◌≡◌, ℕ, ◌+◌, ◌-◌, ◌<◌, ◌≤◌, Bool, true, false, cond, ◌&&◌, eqb, ltb, List, [], ◌∷◌, ◌++◌, map, length, get_or, take, drop, set, zero, suc, refl, sym, ap, ◌∙◌, inl, inr, arith}
use Rattle.std.proofs.Math.Path.{fun_ext}
use borrow.Rule.Slice.PartMut.{put_mid}
use Rattle.std.specs.List.{copy_within}
use Rattle.std.proofs.lemmas.List.{append_assoc, drop-drop, drop-map, get_or-append_right, get_or-drop, get_or-map, get_or-set_other, get_or-set_same, get_or-take, get_or_past, length-map, map-append, map-set, places, take-map}
use Rattle.std.proofs.lemmas.Bool.{cases_eq, cases_lt}
use Rattle.std.proofs.lemmas.Bool.Decides.{nat_tests}
use Rattle.machine.specs.States.{put}
use Rattle.machine.specs.declared.words.Word.{Word}
use Rattle.machine.specs.declared.words.Word.TheVariants.{Unknown}
use Rattle.bench.specs.Cells.{area, copied, in_area, wiped, words}

set_at : {A : Type 0} (xs : List A) (j : ℕ) (x d : A) → j < length xs → (k : ℕ) → get_or (set xs j x) k d ≡ cond (eqb k j) x (get_or xs k d)
set_at xs j x d h k = grind (arith, nat_tests, cases_eq k j, get_or-set_same xs j x d h, get_or-set_other xs j k x d)

-- every one of the cells stands for unknown
abbrev pub NoWords : {W : Type 0} → (W → Word) → List W → Type 0
NoWords f cells = (k : ℕ) → words f cells k ≡ Unknown

one_unknown : (x : Word) → x ≡ Unknown → (k : ℕ) → get_or (x ∷ []) k Unknown ≡ Unknown
one_unknown x e zero = e
one_unknown x e (suc k) = refl

-- the words ys put over those of xs from an index on
at_pasted : (xs ys : List Word) (at n k : ℕ) → length ys ≡ n → at + n ≤ length xs → get_or (take at xs ++ (ys ++ drop (at + n) xs)) k Unknown ≡ cond (in_area at n k) (get_or ys (k - at) Unknown) (get_or xs k Unknown)
at_pasted xs ys at n k e h = grind (arith, nat_tests, places)

module _ {W : Type 0} (f : W → Word) (cells : List W) where
  pub words_set : (j : ℕ) (x : W) → j < length cells → words f (set cells j x) ≡ put j (f x) (words f cells)
  words_set j x h = fun_ext (λ k. rw map-set (set_at (map f cells) j (f x) Unknown (rw length-map h) k))

  pub words_past : (i : ℕ) → length cells ≤ i → words f cells i ≡ Unknown
  words_past i h = get_or_past (map f cells) i Unknown (rw length-map h)

  pub no_words_more : (x : W) → NoWords f cells → f x ≡ Unknown → NoWords f (cells ++ x ∷ [])
  no_words_more x h e k =
      let past : length (map f cells) ≡ length cells = length-map cells f in
      rw map-append (elim (cases_lt k (length cells)) [
        | inl l ↦ grind (arith, places, h k)
        | inr l ↦ get_or-append_right (map f cells) (f x ∷ []) (length cells) k Unknown past l ∙ one_unknown (f x) e (k - length cells)
      ])

  -- the cells ys put over those from an index on
  words_pasted : (ys : List W) (at n : ℕ) → length ys ≡ n → at + n ≤ length cells → (k : ℕ) → words f (take at cells ++ (ys ++ drop (at + n) cells)) k ≡ cond (in_area at n k) (words f ys (k - at)) (words f cells k)
  words_pasted ys at n e h k =
      rw (map-append, map-append, ← take-map, ← drop-map) (at_pasted (map f cells) (map f ys) at n k (rw length-map e) (rw length-map h))

  pub words_wiped : (ys : List W) (first n : ℕ) → length ys ≡ n → first + n ≤ length cells → NoWords f ys → words f (put_mid first n cells ys) ≡ wiped first n (words f cells)
  words_wiped ys first n e h unknown =
      fun_ext (λ k. rw drop-drop (words_pasted ys first n e h k ∙ grind (arith, nat_tests, unknown (k - first))))

  -- the words of some cells are the words from their first on
  words_between : (from n k : ℕ) → k < n → words f (take n (drop from cells)) k ≡ words f cells (from + k)
  words_between from n k h = rw (← take-map, ← drop-map) (get_or-take n (drop from (map f cells)) k Unknown h ∙ get_or-drop from (map f cells) k Unknown)

  pub words_copied : (from stop to : ℕ) → from ≤ stop → stop ≤ length cells → to + (stop - from) ≤ length cells → words f (copy_within cells from stop to) ≡ copied from to (stop - from) (words f cells)
  words_copied from stop to ordered source target =
      let n : ℕ = stop - from in
      let whole : length (take n (drop from cells)) ≡ n = grind (arith, places) in
      fun_ext (λ k. rw append_assoc (words_pasted (take n (drop from cells)) to n whole target k ∙ grind (arith, nat_tests, words_between from n (k - to))))

-- the lost places below n made unknown
abbrev pub lost_below : (ℕ → Bool) → ℕ → (ℕ → Word) → ℕ → Word
lost_below lost n w i = cond (ltb i n && lost i) Unknown (w i)

module _ (lost : ℕ → Bool) (w : ℕ → Word) (n : ℕ) where
  pub lost_more : lost n ≡ true → put n Unknown (lost_below lost n w) ≡ lost_below lost (n + 1) w
  lost_more e = fun_ext (λ k. grind (arith, nat_tests, e))

  pub lost_not : lost n ≡ false → lost_below lost n w ≡ lost_below lost (n + 1) w
  lost_not e = fun_ext (λ k. grind (arith, nat_tests, e))

  pub lost_all : ((k : ℕ) → n ≤ k → lost k ≡ false) → lost_below lost n w ≡ (λ k. cond (lost k) Unknown (w k))
  lost_all h = fun_ext (λ k. elim (cases_lt k n) [ inl l ↦ grind (arith, nat_tests) | inr l ↦ grind (arith, nat_tests, h k l) ])

area_at : (w : ℕ → Word) (first n i : ℕ) → i < n → area w first n i ≡ w (first + i)
area_at w first n i h = grind (arith, nat_tests)

-- what a cell stands for, as a word of its area
pub cell_word : {W : Type 0} (f : W → Word) (cells : List W) (first n i j : ℕ) (d : W) → j ≡ first + i → i < n → j < length cells → f (get_or cells j d) ≡ area (words f cells) first n i
cell_word f cells first n i j d e h inside =
    sym (get_or-map f cells j d Unknown inside) ∙ ap (words f cells) e ∙ sym (area_at (words f cells) first n i h)
