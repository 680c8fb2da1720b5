-- The sources and the steps of a call. Assumes nothing.
use Rattle.std.specs.Prelude.{◌≡◌, ℕ, cond, List, [], ◌∷◌, ◌++◌, Ok, Err, Result, ◌==◌}
use Rattle.machine.specs.declared.places.Register.{Register}
use Rattle.machine.specs.declared.places.RegisterSet.{RegisterSet}
use Rattle.machine.specs.declared.refusals.Refusal.{Refusal}
use Rattle.machine.specs.declared.refusals.Refusal.TheVariants.{NoSuchRegister}
use Rattle.machine.specs.declared.steps.Step.{Step}
use Rattle.machine.specs.declared.steps.Step.TheVariants.{Call, Pop, Reserve}
use Rattle.conventions.specs.Conventions.{Answers}
use Rattle.conventions.specs.declared.arguments.Place.{Place}
use Rattle.conventions.specs.declared.arguments.Place.TheVariants.{Register as at_register, Outgoing}
use Rattle.conventions.specs.declared.arguments.Source.{Source}
use Rattle.conventions.specs.declared.arguments.Source.TheVariants.{Register as Held}
use Rattle.moves.specs.Lists.{moves_in}
use Rattle.moves.specs.Plans.{Accepted}
use Rattle.moves.specs.declared.lists.MoveList.{MoveList}
use Rattle.moves.specs.declared.plans.Plan.{Plan}

-- the register that a place is; an outgoing slot is refused
abbrev pub argument_register : Place → Result Register Refusal
argument_register (at_register r) = Ok r
argument_register (Outgoing o) = Err NoSuchRegister

-- the first two arguments go to registers, and each comes from the other's
abbrev pub Exchanged : Answers → List Source → Type 0
Exchanged a ss = (first second : Register) × (a.place 0 ≡ at_register first) × (a.place 1 ≡ at_register second) × (ss ≡ Held second ∷ Held first ∷ [])

-- the moves and the call, between a reservation of the bytes and its pop where there are any
abbrev pub call_steps : ℕ → List Step → ℕ → RegisterSet → List Step
call_steps bytes moves routine lost =
    cond (bytes == 0) (moves ++ (Call routine lost ∷ [])) (Reserve bytes ∷ (moves ++ (Call routine lost ∷ Pop bytes ∷ [])))

-- these steps call the routine with its first two arguments exchanged, and the moves are the best list for that
pub record ExchangeCall (a : Answers) (routine : ℕ) (steps : List Step) : Type 0 where
  pub sources : List Source
  pub plan : Plan
  pub moves : MoveList
  pub exchanged : Exchanged a sources
  pub accepted : Accepted a sources plan moves
  pub are : steps ≡ call_steps plan.bytes (moves_in moves) routine a.lost
