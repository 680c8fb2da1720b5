use Rattle.least.proofs.Bound.{no_fewer}
use Rattle.least.proofs.theorems.no_rival_is_shorter.Goals as goal

pub returns : goal.returns
returns c = no_fewer
