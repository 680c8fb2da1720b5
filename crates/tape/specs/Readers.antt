-- What a reader answers. Assumes nothing.
use Rattle.std.specs.Prelude.{◌≡◌, ℕ, ◌+◌, cond, List, [], ◌∷◌, length, take, drop, Some, None, Ok, Err, Option, Result, nat_lt}
use Rattle.std.specs.Borrow.{Bor}
use Rattle.machine.specs.Turns.{is_bare, moved}
use Rattle.machine.specs.declared.refusals.Refusal.{Refusal}
use Rattle.machine.specs.declared.refusals.Refusal.TheVariants.{OutOfTurn, TooLong}
use Rattle.machine.specs.declared.steps.Step.{Step}
use Rattle.machine.specs.declared.turns.Turn.{Turn}
use Rattle.machine.specs.declared.turns.Turn.TheVariants.{Bare}
use Rattle.tape.specs.Limits.{tape_limit}
use Rattle.tape.specs.Commands.{encode, first_step}
use Rattle.tape.specs.declared.readers.Fault.{Fault}
use Rattle.tape.specs.declared.readers.Part.{Part}
use Rattle.tape.specs.declared.readers.Reader.{Reader}

-- a reader at the first byte of a tape
pub record Began (bytes : Bor (List ℕ)) (r : Reader) : Type 0 where
  pub tape : r.tape ≡ bytes
  pub place : r.place ≡ 0
  pub turn : r.turn ≡ Bare

-- the first command of bytes was read, and its step's command is what stands there
pub record Commanded (bs : List ℕ) (r : Result Step Refusal) : Type 0 where
  pub answer : r ≡ first_step bs
  pub bytes : (p : Step) → r ≡ Ok p → take (length (encode p)) bs ≡ encode p

abbrev pub fault : Refusal → ℕ → Fault
fault f place = record { refusal = f; place = place }

-- the answer for what is left of a tape from a place on: at its end nothing more, if that is bare, and
-- otherwise the step of the next command, if there is one and it may be taken
abbrev pub next_step : Turn → ℕ → List ℕ → Result (Option Step) Fault
next_step t place [] = cond (is_bare t) (Ok None) (Err (fault OutOfTurn place))
next_step t place (b ∷ bs) =
    elim (first_step (b ∷ bs)) [ Ok p ↦ elim (moved p t) [ Ok u ↦ Ok (Some p) | Err f ↦ Err (fault f place) ] | Err f ↦ Err (fault f place) ]

-- a reader's answer: too long a tape, and then the next step
abbrev pub answer_at : List ℕ → ℕ → Turn → Result (Option Step) Fault
answer_at tape place t = cond (nat_lt tape_limit (length tape)) (Err (fault TooLong 0)) (next_step t place (drop place tape))

-- the step in an answer
abbrev pub step_in : Result (Option Part) Fault → Result (Option Step) Fault
step_in (Ok None) = Ok None
step_in (Ok (Some part)) = Ok (Some part.step)
step_in (Err e) = Err e

-- the reader has passed the part, which is its step's command
pub record Passed (a : Reader) (part : Part) (b : Reader) : Type 0 where
  pub place : part.place ≡ a.place
  pub bytes : part.bytes.now ≡ encode part.step
  pub there : part.bytes.now ≡ take (length (encode part.step)) (drop a.place a.tape.now)
  pub tape : b.tape ≡ a.tape
  pub next : b.place ≡ a.place + length (encode part.step)
  pub turn : moved part.step a.turn ≡ Ok b.turn

-- what asking did: it passed the part handed out, or nothing has changed
abbrev pub Went : Reader → Result (Option Part) Fault → Reader → Type 0
Went a (Ok (Some part)) b = Passed a part b
Went a (Ok None) b = b ≡ a
Went a (Err e) b = b ≡ a

-- the answer to a question, and what asking did
pub record Asked (a : Reader) (r : Result (Option Part) Fault) (b : Reader) : Type 0 where
  pub answer : step_in r ≡ answer_at a.tape.now a.place a.turn
  pub went : Went a r b
