-- Moves on origins: where the word in each cell came from. Assumes nothing.
use Rattle.std.proofs.Common.{◌≡◌, ℕ, Bool, true, false, cond, eqb, ltb, List, [], ◌∷◌, refl, ap, arith}
use Rattle.std.specs.List.{AllByRecursion}
use Rattle.std.proofs.lemmas.Bool.{and_parts, eqb-true}
use Rattle.std.proofs.lemmas.Bool.Decides.{nat_tests}
use Rattle.machine.specs.Limits.{registers, local_slots}
use Rattle.machine.specs.Turns.{in_range}
use Rattle.machine.specs.declared.steps.Step.{Step}
use Rattle.machine.specs.declared.steps.Step.TheVariants.{Copy, Set, Fetch, Back, Store, Keep, Reserve, Call, Pop}
use Rattle.least.specs.Rivals.{allowed, is_move, reserved_turn}

pub data Cell : Type 0 where
  register : ℕ → Cell
  local : ℕ → Cell
  outgoing : ℕ → Cell

-- the start's register or local slot that a word came from, or the number that it is
pub data Origin : Type 0 where
  of_register : ℕ → Origin
  of_local : ℕ → Origin
  number : ℕ → Origin
  unknown : Origin

-- the origin in each cell
abbrev pub Map : Type 0
Map = Cell → Origin

abbrev pub same_cell : Cell → Cell → Bool
same_cell (register a) (register b) = eqb a b
same_cell (register a) (local b) = false
same_cell (register a) (outgoing b) = false
same_cell (local a) (register b) = false
same_cell (local a) (local b) = eqb a b
same_cell (local a) (outgoing b) = false
same_cell (outgoing a) (register b) = false
same_cell (outgoing a) (local b) = false
same_cell (outgoing a) (outgoing b) = eqb a b

abbrev pub same_origin : Origin → Origin → Bool
same_origin (of_register a) (of_register b) = eqb a b
same_origin (of_register a) (of_local b) = false
same_origin (of_register a) (number b) = false
same_origin (of_register a) unknown = false
same_origin (of_local a) (of_register b) = false
same_origin (of_local a) (of_local b) = eqb a b
same_origin (of_local a) (number b) = false
same_origin (of_local a) unknown = false
same_origin (number a) (of_register b) = false
same_origin (number a) (of_local b) = false
same_origin (number a) (number b) = eqb a b
same_origin (number a) unknown = false
same_origin unknown (of_register b) = false
same_origin unknown (of_local b) = false
same_origin unknown (number b) = false
same_origin unknown unknown = true

pub same_cell_refl : (c : Cell) → same_cell c c ≡ true
same_cell_refl (register a) = grind (arith, nat_tests)
same_cell_refl (local a) = grind (arith, nat_tests)
same_cell_refl (outgoing a) = grind (arith, nat_tests)

pub cells_equal : (c d : Cell) → same_cell c d ≡ true → c ≡ d
cells_equal (register a) (register b) e = ap register (eqb-true a b e)
cells_equal (register a) (local b) e = absurd (grind (arith, e))
cells_equal (register a) (outgoing b) e = absurd (grind (arith, e))
cells_equal (local a) (register b) e = absurd (grind (arith, e))
cells_equal (local a) (local b) e = ap local (eqb-true a b e)
cells_equal (local a) (outgoing b) e = absurd (grind (arith, e))
cells_equal (outgoing a) (register b) e = absurd (grind (arith, e))
cells_equal (outgoing a) (local b) e = absurd (grind (arith, e))
cells_equal (outgoing a) (outgoing b) e = ap outgoing (eqb-true a b e)

pub same_origin_refl : (o : Origin) → same_origin o o ≡ true
same_origin_refl (of_register a) = grind (arith, nat_tests)
same_origin_refl (of_local a) = grind (arith, nat_tests)
same_origin_refl (number a) = grind (arith, nat_tests)
same_origin_refl unknown = refl

pub origins_equal : (o q : Origin) → same_origin o q ≡ true → o ≡ q
origins_equal (of_register a) (of_register b) e = ap of_register (eqb-true a b e)
origins_equal (of_register a) (of_local b) e = absurd (grind (arith, e))
origins_equal (of_register a) (number b) e = absurd (grind (arith, e))
origins_equal (of_register a) unknown e = absurd (grind (arith, e))
origins_equal (of_local a) (of_register b) e = absurd (grind (arith, e))
origins_equal (of_local a) (of_local b) e = ap of_local (eqb-true a b e)
origins_equal (of_local a) (number b) e = absurd (grind (arith, e))
origins_equal (of_local a) unknown e = absurd (grind (arith, e))
origins_equal (number a) (of_register b) e = absurd (grind (arith, e))
origins_equal (number a) (of_local b) e = absurd (grind (arith, e))
origins_equal (number a) (number b) e = ap number (eqb-true a b e)
origins_equal (number a) unknown e = absurd (grind (arith, e))
origins_equal unknown (of_register b) e = absurd (grind (arith, e))
origins_equal unknown (of_local b) e = absurd (grind (arith, e))
origins_equal unknown (number b) e = absurd (grind (arith, e))
origins_equal unknown unknown e = refl

-- f with the origin o in cell c
abbrev pub write : Cell → Origin → Map → Map
write c o f x = cond (same_cell x c) o (f x)

-- what a move leaves; a step that is no move is not looked at
abbrev pub after : Step → Map → Map
after (Copy d s) f = write (register d.0) (f (register s.0)) f
after (Set d k) f = write (register d.0) (number k) f
after (Fetch d n) f = write (register d.0) (f (local n.0)) f
after (Back d o) f = write (register d.0) (f (outgoing o.0)) f
after (Store o s) f = write (outgoing o.0) (f (register s.0)) f
after (Keep n s) f = write (local n.0) (f (register s.0)) f
after (Reserve b) f = f
after (Call r m) f = f
after (Pop b) f = f

abbrev pub Moves : List Step → Type 0
Moves ps = AllByRecursion (λ p. is_move p ≡ true) ps

pub allowed_moves : (b : ℕ) (ps : List Step) → AllByRecursion (λ p. allowed b p ≡ true) ps → Moves ps
allowed_moves b [] h = tt
allowed_moves b (p ∷ ps) h = ((and_parts (is_move p) (in_range p (reserved_turn b)) h.0).0, allowed_moves b ps h.1)

-- the moves one after another
abbrev pub after_all : List Step → Map → Map
after_all [] f = f
after_all (p ∷ ps) f = after_all ps (after p f)

-- at first each register and local slot holds its own origin, and every outgoing slot is unknown
abbrev pub own : Map
own (register r) = cond (ltb r registers) (of_register r) unknown
own (local n) = cond (ltb n local_slots) (of_local n) unknown
own (outgoing o) = unknown

-- the cell is the origin's own
abbrev pub is_home : Origin → Cell → Bool
is_home (of_register a) c = same_cell c (register a)
is_home (of_local a) c = same_cell c (local a)
is_home (number a) c = false
is_home unknown c = false
