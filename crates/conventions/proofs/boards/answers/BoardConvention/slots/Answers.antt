use Rattle.std.proofs.Common.{arith}
use Rattle.conventions.specs.TablesLemmas.{length-numbers}
use Rattle.conventions.proofs.boards.answers.BoardConvention.slots.Goals as goal

pub returns : goal.returns
returns c = let b = c.args.self.now in omega (arith, length-numbers b.count b.registers (omega arith))
