use Rattle.std.proofs.Common.{arith}
use Rattle.std.proofs.lemmas.Bool.Decides.{nat_tests}
use Rattle.conventions.specs.TablesLemmas.{get_or-numbers, length-numbers}
use Rattle.conventions.proofs.boards.answers.BoardConvention.place.Goals as goal

pub returns-then-i-self : goal.returns-then-i-self
returns-then-i-self c =
    let b = c.args.self.now in
    let count = length-numbers b.count b.registers (omega arith) in
    grind (arith, nat_tests, count, get_or-numbers b.count b.registers c.args.i (omega arith) (omega arith))

pub returns-else-i-self : goal.returns-else-i-self
returns-else-i-self c = let b = c.args.self.now in grind (arith, nat_tests, length-numbers b.count b.registers (omega arith))
