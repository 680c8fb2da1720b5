use Rattle.std.proofs.Common.{refl, arith}
use Rattle.tape.specs.Readings.{read}
use Rattle.tape.proofs.tapes.Tape.open.Goals as goal

pub invariant_of-result : goal.invariant_of-result
unfolding read
invariant_of-result c = record { within = omega arith; whole = refl; fit = refl; walks = refl }

pub returns : goal.returns
unfolding read
returns c = record { opened = record { bytes = refl; used = refl; steps = refl; turn = refl }; lent = refl }
