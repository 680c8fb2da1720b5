use Rattle.std.proofs.Common.{◌+◌, ◌≤◌, length}
use Rattle.machine.proofs.Giving.{Giving}
use Rattle.machine.proofs.emitters.give.Given as goal

abbrev pub invariant-loop-step : goal.invariant-loop-step
invariant-loop-step g l =
    let m = g.E.Emitter.meaning in
    Giving m l.steps l.step-index l.initial.emitter l.emitter × (length l.steps ≤ m.room l.emitter + l.step-index)
