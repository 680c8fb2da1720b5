-- Rivals: other lists of moves that place a call's arguments. Assumes nothing.
use Rattle.std.specs.Prelude.{◌≡◌, ℕ, ◌^◌, ◌<◌, Bool, true, false, cond, ◌&&◌, List, ◌==◌}
use Rattle.std.specs.List.{AllByRecursion}
use Rattle.machine.specs.Words.{Start}
use Rattle.machine.specs.States.{begin}
use Rattle.machine.specs.Turns.{in_range}
use Rattle.machine.specs.Effects.{run}
use Rattle.machine.specs.declared.steps.Step.{Step}
use Rattle.machine.specs.declared.steps.Step.TheVariants.{Copy, Set, Fetch, Back, Store, Keep, Reserve, Call, Pop}
use Rattle.machine.specs.declared.turns.Turn.{Turn}
use Rattle.machine.specs.declared.turns.Turn.TheVariants.{Bare, Reserved}
use Rattle.machine.specs.declared.words.Word.{Word}
use Rattle.machine.specs.declared.words.Word.TheVariants.{Unknown, Number}
use Rattle.conventions.specs.declared.arguments.Argument.{Argument}
use Rattle.least.specs.Assignments.{Placed, reserved}

-- the first six kinds of step
abbrev pub is_move : Step → Bool
is_move (Copy d s) = true
is_move (Set d k) = true
is_move (Fetch d n) = true
is_move (Back d o) = true
is_move (Store o s) = true
is_move (Keep n s) = true
is_move (Reserve b) = false
is_move (Call r m) = false
is_move (Pop b) = false

-- the turn after the reservation of so many bytes
abbrev pub reserved_turn : ℕ → Turn
reserved_turn b = cond (b == 0) Bare (Reserved b)

-- a move that names only registers, slots and reserved slots that are there
abbrev pub allowed : ℕ → Step → Bool
allowed b p = is_move p && in_range p (reserved_turn b)

-- a word that a 64-bit register can hold, or unknown
abbrev pub Storable : Word → Type 0
Storable Unknown = Unit {0}
Storable (Number k) = k < 2 ^ 64

-- a start of such words
pub record Ordinary (s : Start) : Type 0 where
  pub register : (r : ℕ) → Storable (s.register r)
  pub local : (n : ℕ) → Storable (s.local n)

-- A rival: a list of moves in range that, after the same reservation and from every start of 64-bit words, leaves each
-- argument's place with what its source held in that start, or its number. It may spoil everything else.
pub record Rival (xs : List Argument) (b : ℕ) (ps : List Step) : Type 0 where
  pub moves : AllByRecursion (λ p. allowed b p ≡ true) ps
  pub places : (s : Start) → Ordinary s → Placed xs (begin s) (run ps (reserved b (begin s)))
