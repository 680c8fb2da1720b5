-- A move on origins is one write; an origin that is in no cell is gone for good. Assumes nothing.
use Rattle.std.proofs.Common.{◌≡◌, ℕ, Bool, true, false, ◌⊎◌, List, [], ◌∷◌, refl, inl, inr, arith}
use Rattle.std.proofs.lemmas.Bool.{cond_both}
use Rattle.machine.specs.declared.steps.Step.{Step}
use Rattle.machine.specs.declared.steps.Step.TheVariants.{Copy, Set, Fetch, Back, Store, Keep, Reserve, Call, Pop}
use Rattle.least.specs.Rivals.{is_move}
use Rattle.least.proofs.Origins.{Cell, register, local, outgoing, Origin, of_register, of_local, number, unknown, Map, Moves, after, after_all, same_cell, same_origin, write}

abbrev pub is_outgoing : Cell → Bool
is_outgoing (register r) = false
is_outgoing (local n) = false
is_outgoing (outgoing o) = true

abbrev pub is_number : Origin → Bool
is_number (of_register r) = false
is_number (of_local n) = false
is_number (number k) = true
is_number unknown = false

-- what is written into an outgoing slot comes from a register
abbrev pub Through : Map → Cell → Origin → Type 0
Through f c w = is_outgoing c ≡ true → (r : ℕ) × (w ≡ f (register r))

-- from f to g one cell was written: with what another cell held, or with a number, and an outgoing slot from a register
pub record Write (f g : Map) : Type 0 where
  pub cell : Cell
  pub origin : Origin
  pub result : g ≡ write cell origin f
  pub taken : ((x : Cell) × (origin ≡ f x)) ⊎ ((k : ℕ) × (origin ≡ number k))
  pub through : Through f cell origin

-- what cell x held is written into cell c
carried : (f : Map) (c x : Cell) → Through f c (f x) → Write f (write c (f x) f)
carried f c x h = record { cell = c; origin = f x; result = refl; taken = inl (x, refl); through = h }

pub writes : (p : Step) (f : Map) → is_move p ≡ true → Write f (after p f)
writes (Copy d s) f m = carried f (register d.0) (register s.0) (λ _. (s.0, refl))
writes (Set d k) f m =
    record { cell = register d.0; origin = number k; result = refl; taken = inr (k, refl); through = λ e. absurd (grind (arith, e)) }
writes (Fetch d n) f m = carried f (register d.0) (local n.0) (λ e. absurd (grind (arith, e)))
writes (Back d o) f m = carried f (register d.0) (outgoing o.0) (λ e. absurd (grind (arith, e)))
writes (Store o s) f m = carried f (outgoing o.0) (register s.0) (λ _. (s.0, refl))
writes (Keep n s) f m = carried f (local n.0) (register s.0) (λ _. (s.0, refl))
writes (Reserve c) f m = absurd (grind (arith, m))
writes (Call r l) f m = absurd (grind (arith, m))
writes (Pop c) f m = absurd (grind (arith, m))

-- the origin is in no cell
abbrev pub Absent : Origin → Map → Type 0
Absent o f = (x : Cell) → same_origin (f x) o ≡ false

not_number : (o : Origin) (k : ℕ) → is_number o ≡ false → same_origin (number k) o ≡ false
not_number (of_register r) k e = refl
not_number (of_local n) k e = refl
not_number (number j) k e = absurd (grind (arith, e))
not_number unknown k e = refl

absent_after : (o : Origin) (f g : Map) → is_number o ≡ false → Absent o f → Write f g → Absent o g
absent_after o f g e absent w x =
    let new : same_origin w.origin o ≡ false = elim w.taken [ inl t ↦ rw t.1 (absent t.0) | inr t ↦ rw t.1 (not_number o t.0 e) ] in
    rw w.result (cond_both (same_cell x w.cell) w.origin (f x) (λ q. same_origin q o ≡ false) (λ _. new) (λ _. absent x))

pub gone_for_good : (o : Origin) (ps : List Step) (f : Map) → is_number o ≡ false → Moves ps → Absent o f → Absent o (after_all ps f)
gone_for_good o [] f e ms absent = absent
gone_for_good o (p ∷ ps) f e ms absent =
    gone_for_good o ps (after p f) e ms.1 (absent_after o f (after p f) e absent (writes p f ms.0))
