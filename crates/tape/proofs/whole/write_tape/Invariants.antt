use Rattle.std.proofs.Common.{length, drop}
use Rattle.std.specs.List.{flat_map}
use Rattle.machine.proofs.Giving.{Giving}
use Rattle.tape.specs.Commands.{encode}
use Rattle.tape.specs.Meanings.{tape_meaning}
use Rattle.tape.proofs.Filling.{Spare}
use Rattle.tape.proofs.whole.write_tape.Given as goal

abbrev pub invariant-loop-step : goal.invariant-loop-step
invariant-loop-step l =
    Giving tape_meaning l.steps l.step-index l.initial.tape l.tape
    × Spare l.tape (length (flat_map encode (drop l.step-index l.steps)))
