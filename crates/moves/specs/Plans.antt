-- What the plan of a call says. Assumes nothing.
use Rattle.std.specs.Prelude.{◌≡◌, List, length, Ok, Err, Result}
use Rattle.machine.specs.declared.refusals.Refusal.{Refusal}
use Rattle.conventions.specs.Calls.{arguments_of, bytes_for, call_verdict}
use Rattle.conventions.specs.Conventions.{Answers}
use Rattle.conventions.specs.declared.arguments.Source.{Source}
use Rattle.order.specs.Best.{Best}
use Rattle.order.specs.Order.{order}
use Rattle.moves.specs.Lists.{moves_in}
use Rattle.moves.specs.declared.lists.MoveList.{MoveList}
use Rattle.moves.specs.declared.plans.Plan.{Plan}

-- A call under the convention a with the sources ss given is not refused. Its moves are the order's, the best list for its
-- arguments after p.bytes are reserved, and p has its counts.
pub record Accepted (a : Answers) (ss : List Source) (p : Plan) (moves : MoveList) : Type 0 where
  pub answer : call_verdict a ss ≡ Ok tt
  pub bytes : p.bytes ≡ bytes_for (a.slots (length ss))
  pub list : moves_in moves ≡ order (arguments_of a ss) a.scratch.0
  pub best : Best (arguments_of a ss) a.scratch.0 p.bytes (moves_in moves) p.needed p.rings p.values

-- the answer to a call, and the moves after it: refused, they are as they were
abbrev pub Planned : Answers → List Source → Result Plan Refusal → MoveList → MoveList → Type 0
Planned a ss (Ok p) before after = Accepted a ss p after
Planned a ss (Err f) before after = (call_verdict a ss ≡ Err f) × (after ≡ before)
