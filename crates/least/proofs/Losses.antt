-- What one write does to tokens that are alive. Assumes nothing.
use Rattle.std.proofs.Common.{◌≡◌, true, false, not, List, [], ◌∷◌, sym, refl, ap, ◌∙◌, subst, inl, inr, arith}
use Rattle.std.specs.List.{AllByRecursion}
use Rattle.std.proofs.lemmas.Bool.{both_ways, cases_Bool, cond_both, not-true}
use Rattle.machine.specs.declared.steps.Step.{Step}
use Rattle.conventions.specs.declared.arguments.Argument.{Argument}
use Rattle.conventions.specs.declared.arguments.Place.{Place}
use Rattle.conventions.specs.declared.arguments.Source.{Source}
use Rattle.least.proofs.Origins.{Cell, register, local, Origin, of_register, of_local, number, unknown, Map, Moves, after_all, cells_equal, is_home, origins_equal, same_cell, same_origin, same_origin_refl, write}
use Rattle.least.proofs.Places.{Right, Wants, cell_of, origin_of, right_at}
use Rattle.least.proofs.Tokens.{Alive, Intact, Token}
use Rattle.least.proofs.Writes.{Absent, Through, gone_for_good, is_number}

-- an origin has one own cell
one_home : (o : Origin) (c x : Cell) → is_home o c ≡ true → same_cell x c ≡ false → is_home o x ≡ false
one_home (of_register a) c x h e = subst (λ d. same_cell x d ≡ false) (cells_equal c (register a) h) e
one_home (of_local a) c x h e = subst (λ d. same_cell x d ≡ false) (cells_equal c (local a) h) e
one_home (number a) c x h e = refl
one_home unknown c x h e = refl

home_no_number : (o : Origin) (c : Cell) → is_home o c ≡ true → is_number o ≡ false
home_no_number (of_register a) c h = refl
home_no_number (of_local a) c h = refl
home_no_number (number a) c h = absurd (grind (arith, h))
home_no_number unknown c h = refl

pub same_true : (o q : Origin) → o ≡ q → same_origin o q ≡ true
same_true o q e = rw e (same_origin_refl q)

-- origins told apart by a token
same_false : (t : Token) (o q : Origin) → t o ≡ false → t q ≡ true → same_origin o q ≡ false
same_false t o q e h =
    elim (cases_Bool (same_origin o q)) [
      | inl s ↦ absurd (both_ways (t o) e (rw (origins_equal o q s) h))
      | inr s ↦ s
    ]

-- no origin of the token has cell c for its own
abbrev pub Clear : Cell → Token → Type 0
Clear c t = (o : Origin) → t o ≡ true → is_home o c ≡ false

-- a write of the origin w into cell c
module _ (xs : List Argument) (f : Map) (c : Cell) (w : Origin) where
  -- of what the cell holds already
  pub idle : same_origin (f c) w ≡ true → f ≡ write c w f
  idle e i x = cond_both (same_cell x c) w (f x) (λ q. f x ≡ q) (λ s. ap f (cells_equal x c s) ∙ origins_equal (f c) w e) (λ _. refl) i

  -- over another origin of an intact token: that origin is lost
  lost : (t : Token) (o : Origin) → same_origin (f c) w ≡ false → Intact f t → t o ≡ true → is_home o c ≡ true → Absent o (write c w f)
  lost t o differs intact has home x =
      let old : same_origin (f c) o ≡ true = intact o has c ∙ home in
      let new : same_origin w o ≡ false = same_false (same_origin (f c)) w o differs old in
      cond_both (same_cell x c) w (f x) (λ q. same_origin q o ≡ false) (λ _. new) (λ e. intact o has x ∙ one_home o c x home e)

  -- so it is over none, if all arguments are right in the end
  pub clear : (ps : List Step) (t : Token) → same_origin (f c) w ≡ false → Moves ps → Right (after_all ps (write c w f)) xs → Alive xs f t → Clear c t
  clear ps t differs moves right alive o has =
      elim (cases_Bool (is_home o c)) [
        | inl home ↦
            let (p, v, found, same) = alive.good.wanted o has in
            let gone = gone_for_good o ps (write c w f) (home_no_number o c home) moves (lost t o differs alive.intact has home) in
            let there = right_at (after_all ps (write c w f)) xs right p v found in
            absurd (both_ways _ (gone (cell_of p)) (same_true _ o (there ∙ same)))
        | inr e ↦ e
      ]

  -- a token without the origin written stays alive
  stays : (t : Token) → Intact f t → Clear c t → t w ≡ false → Intact (write c w f) t
  stays t intact clear lacks o has x =
      cond_both (same_cell x c) w (f x) (λ q. same_origin q o ≡ is_home o x)
      (λ e. same_false t w o lacks has ∙ sym (rw (cells_equal x c e) (clear o has)))
      (λ _. intact o has x)

  pub all_stay : (ts : List Token) → AllByRecursion (Alive xs f) ts → AllByRecursion (Clear c) ts → AllByRecursion (λ t. not (t w) ≡ true) ts → AllByRecursion (Alive xs (write c w f)) ts
  all_stay [] alive clear lack = tt
  all_stay (t ∷ ts) alive clear lack = (
    record { good = alive.0.good; intact = stays t alive.0.intact clear.0 (not-true (t w) lack.0) },
    all_stay ts alive.1 clear.1 lack.1,
  )

  -- an origin of a token is wanted at no cell but the token's own and, if it has no register, at outgoing slots
  pub spends : Through f c w → (t : Token) → t w ≡ true → Alive xs f t → Clear c t → (p : Place) (v : Source) → Wants xs p v → cell_of p ≡ c → origin_of v ≡ w → ⊥
  spends through t has alive clear p v found here is =
      elim (alive.good.kept p v found (rw is has)) [
        | inl inside ↦ both_ways (is_home inside.0 c) (clear inside.0 inside.1) (rw here at inside.2)
        | inr slotted ↦
            let (r, from) = through (rw here at slotted.0) in
            both_ways (is_home w (register r)) (rw is at (slotted.1 r)) (sym (alive.intact w has (register r)) ∙ same_true _ w (sym from))
      ]
