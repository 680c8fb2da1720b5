use Rattle.std.proofs.Common.{◌-◌, length, vec_items}
use Rattle.tape.proofs.Through.{Through}
use Rattle.tape.proofs.whole.read_tape.Given as goal

abbrev pub invariant-loop-steps : goal.invariant-loop-steps
invariant-loop-steps l = Through l.tape (vec_items l.steps) l.reader

abbrev pub decreases-loop-steps : goal.decreases-loop-steps
decreases-loop-steps l = length l.reader.tape.now - l.reader.place
