use Rattle.order.proofs.Working.{worked}
use Rattle.order.proofs.theorems.worked_calls.Goals as goal

pub returns : goal.returns
returns c = worked
