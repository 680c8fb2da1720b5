use Rattle.std.proofs.Common.{◌-◌, length}
use Rattle.tape.proofs.Copying.{Copying}
use Rattle.tape.proofs.whole.rewrite_tape.Given as goal

abbrev pub invariant-loop-part : goal.invariant-loop-part
invariant-loop-part l = Copying l.tape l.initial.copy l.reader l.copy

abbrev pub decreases-loop-part : goal.decreases-loop-part
decreases-loop-part l = length l.reader.tape.now - l.reader.place
