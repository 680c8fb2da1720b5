-- How many arguments are not in their places, and what one write does to that. Assumes nothing.
use Rattle.std.proofs.Common.{◌≡◌, ℕ, ◌+◌, ◌≤◌, Bool, true, false, cond, List, [], ◌∷◌, None, sym, refl, ap, ◌∙◌, inl, inr, arith}
use Rattle.std.specs.List.{AllByRecursion}
use Rattle.std.proofs.lemmas.Bool.{cases_Bool, cond-false, cond-true}
use Rattle.conventions.specs.Arguments.{Separate, at_home, same_place, source_at}
use Rattle.conventions.specs.declared.arguments.Argument.{Argument}
use Rattle.conventions.specs.declared.arguments.Place.{Place}
use Rattle.conventions.specs.declared.arguments.Place.TheVariants.{Register, Outgoing}
use Rattle.conventions.specs.declared.arguments.Source.{Source}
use Rattle.conventions.specs.declared.arguments.Source.TheVariants.{Number, Register as Held, Local}
use Rattle.least.specs.Counts.{needed}
use Rattle.least.proofs.Origins.{Cell, Origin, Map, cells_equal, is_home, origins_equal, own, same_cell, same_origin, same_origin_refl, write}
use Rattle.least.proofs.Places.{Right, SourcesInRange, cell_of, origin_of, sits_at_first}

-- the argument's place holds its source's origin
abbrev is_right : Map → Place → Source → Bool
is_right f p v = same_origin (f (cell_of p)) (origin_of v)

-- the arguments whose place does not
abbrev pub wrong : Map → List Argument → ℕ
wrong f [] = 0
wrong f (a ∷ xs) = cond (is_right f a.place a.source) 0 1 + wrong f xs

pub none_wrong : (f : Map) (xs : List Argument) → Right f xs → wrong f xs ≡ 0
none_wrong f [] h = refl
none_wrong f (a ∷ xs) h =
    let is : is_right f a.place a.source ≡ true = rw h.0 (same_origin_refl (origin_of a.source)) in
    let rest = none_wrong f xs h.1 in
    grind (arith, is, rest)

at_most_one : (t : Bool) → cond {A = ℕ} t 0 1 ≤ 1
at_most_one true = omega arith
at_most_one false = omega arith

fewer : (t u : Bool) → (u ≡ true → t ≡ true) → cond {A = ℕ} t 0 1 ≤ cond u 0 1
fewer t true h = rw (h refl) (omega arith)
fewer t false h = at_most_one t

cells_apart : (p q : Place) → same_place p q ≡ false → same_cell (cell_of p) (cell_of q) ≡ false
cells_apart (Register a) (Register b) e = e
cells_apart (Register a) (Outgoing b) e = refl
cells_apart (Outgoing a) (Register b) e = refl
cells_apart (Outgoing a) (Outgoing b) e = e

-- a write of the origin w into cell c
module _ (f : Map) (c : Cell) (w : Origin) where
  kept : (p : Place) (v : Source) → same_cell (cell_of p) c ≡ false → is_right (write c w f) p v ≡ is_right f p v
  kept p v e = ap (λ o. same_origin o (origin_of v)) (cond-false _ _ _ e)

  -- the cell is a place that no argument has
  wrong_elsewhere : (q : Place) (xs : List Argument) → same_cell (cell_of q) c ≡ true → source_at xs q ≡ None → wrong (write c w f) xs ≡ wrong f xs
  wrong_elsewhere q [] m e = refl
  wrong_elsewhere q (a ∷ xs) m e =
      let apart : same_place a.place q ≡ false = grind (arith, e, cases_Bool (same_place a.place q)) in
      let elsewhere : same_cell (cell_of a.place) c ≡ false = rw (← cells_equal (cell_of q) c m) (cells_apart a.place q apart) in
      let rest = wrong_elsewhere q xs m (grind (arith, e, apart)) in
      rw (kept a.place a.source elsewhere, rest) refl

  -- it mends at most one place
  pub mends_one : (xs : List Argument) → Separate xs → wrong f xs ≤ wrong (write c w f) xs + 1
  mends_one [] sep = omega arith
  mends_one (a ∷ xs) sep =
      elim (cases_Bool (same_cell (cell_of a.place) c)) [
        | inl m ↦ omega (arith, wrong_elsewhere a.place xs m sep.0, at_most_one (is_right f a.place a.source))
        | inr m ↦ rw (kept a.place a.source m) (omega (arith, mends_one xs sep.1))
      ]

  -- an argument that is right after it at the cell wants what was written
  right_new : (p : Place) (v : Source) → same_cell (cell_of p) c ≡ true → is_right (write c w f) p v ≡ true → origin_of v ≡ w
  right_new p v m e = sym (origins_equal _ _ e) ∙ cond-true _ _ _ m

  -- it mends no place if no argument wants the origin there
  pub mends_none : (xs : List Argument) → AllByRecursion (λ a. cell_of a.place ≡ c → origin_of a.source ≡ w → ⊥) xs → wrong f xs ≤ wrong (write c w f) xs
  mends_none [] h = omega arith
  mends_none (a ∷ xs) h =
      let rest = mends_none xs h.1 in
      elim (cases_Bool (same_cell (cell_of a.place) c)) [
        | inl m ↦
            let never = λ (e : is_right (write c w f) a.place a.source ≡ true). h.0 (cells_equal _ c m) (right_new a.place a.source m e) in
            omega (arith, rest, fewer (is_right f a.place a.source) _ (λ e. absurd (never e)))
        | inr m ↦ rw (kept a.place a.source m) (omega (arith, rest))
      ]

home_tells : (p : Place) (v : Source) → is_home (origin_of v) (cell_of p) ≡ at_home (record { place = p; source = v })
home_tells (Register q) (Number k) = refl
home_tells (Register q) (Held r) = refl
home_tells (Register q) (Local n) = refl
home_tells (Outgoing o) (Number k) = refl
home_tells (Outgoing o) (Held r) = refl
home_tells (Outgoing o) (Local n) = refl

-- at first an argument is right exactly if its source is its place
pub wrong_at_first : (xs : List Argument) → SourcesInRange xs → wrong own xs ≡ needed xs
wrong_at_first [] es = refl
wrong_at_first (a ∷ xs) es =
    rw (sits_at_first a.source es.0 (cell_of a.place), home_tells a.place a.source, wrong_at_first xs es.1) refl
