use Rattle.std.proofs.Common.{◌-◌, List, length}
use Rattle.machine.specs.declared.steps.Step.{Step}
use Rattle.tape.proofs.Through.{Through}
use Rattle.tape.proofs.whole.check_tape.Given as goal

abbrev pub invariant-loop : goal.invariant-loop
invariant-loop l = (done : List Step) × Through l.tape done l.reader

abbrev pub decreases-loop : goal.decreases-loop
decreases-loop l = length l.reader.tape.now - l.reader.place
