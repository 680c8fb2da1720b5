-- What an emitter means, and what it is to take steps. Assumes nothing.
use Rattle.std.specs.Prelude.{◌≡◌, ℕ, ◌+◌, ◌≤◌, cond, List, [], ◌∷◌, ◌++◌, length, Ok, Err, Result, nat_lt}
use Rattle.machine.specs.Words.{Start}
use Rattle.machine.specs.States.{State}
use Rattle.machine.specs.Turns.{verdict, walked}
use Rattle.machine.specs.Effects.{run}
use Rattle.machine.specs.declared.refusals.Refusal.{Refusal}
use Rattle.machine.specs.declared.refusals.Refusal.TheVariants.{NoRoom}
use Rattle.machine.specs.declared.turns.Turn.{Turn}
use Rattle.machine.specs.declared.steps.Step.{Step}

-- The meaning of an emitter of type E. What it has taken so far gives a state for every start, and one
-- turn, one number of steps taken and one room for all starts.
pub record Meaning (E : Type 0) : Type 1 where
  pub state : E → Start → State
  pub turn : E → Turn
  pub taken : E → ℕ
  pub room : E → ℕ
  -- what taking these steps does to the memory under the emitter: which bytes or cells it then holds
  pub gains : E → List Step → E → Type 0
  pub one_turn : (e : E) (s : Start) → (state e s).turn ≡ turn e
  pub gains_none : (e : E) → gains e [] e
  pub gains_more : (a b c : E) (ps qs : List Step) → gains a ps b → gains b qs c → gains a (ps ++ qs) c

-- from a to b the emitter has taken just these steps
pub record Ran {E : Type 0} (m : Meaning E) (ps : List Step) (a b : E) : Type 0 where
  pub state : (s : Start) → m.state b s ≡ run ps (m.state a s)
  pub taken : m.taken b ≡ m.taken a + length ps
  pub room_left : m.room a ≤ m.room b + length ps
  pub gains : m.gains a ps b

-- what a request did to the emitter: all of the steps, or nothing at all
abbrev pub Did : {E : Type 0} → Meaning E → List Step → Result (Unit {0}) Refusal → E → E → Type 0
Did m ps (Ok _) a b = Ran m ps a b
Did m ps (Err _) a b = b ≡ a

-- the answer to one step, and what it did
pub record Took {E : Type 0} (m : Meaning E) (step : Step) (r : Result (Unit {0}) Refusal) (a b : E) : Type 0 where
  pub answer : r ≡ verdict step (m.turn a) (m.room a)
  pub did : Did m (step ∷ []) r a b

-- the answer to a list of steps: the first step's refusal that is out of range or out of turn, then no room
abbrev pub list_verdict : List Step → Turn → ℕ → Result (Unit {0}) Refusal
list_verdict ps t room = elim (walked ps t) [ Ok _ ↦ cond (nat_lt room (length ps)) (Err NoRoom) (Ok tt) | Err f ↦ Err f ]

-- the answer to a list of steps, and what it did
pub record Gave {E : Type 0} (m : Meaning E) (ps : List Step) (r : Result (Unit {0}) Refusal) (a b : E) : Type 0 where
  pub answer : r ≡ list_verdict ps (m.turn a) (m.room a)
  pub did : Did m ps r a b
