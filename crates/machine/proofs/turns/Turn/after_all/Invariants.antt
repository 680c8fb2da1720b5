use Rattle.std.proofs.Common.{◌≡◌, drop}
use Rattle.machine.specs.Turns.{walked}
use Rattle.machine.proofs.turns.Turn.after_all.Given as goal

-- the steps still to come decide as all of them did
abbrev pub invariant-loop-step : goal.invariant-loop-step
invariant-loop-step l = walked (drop l.step-index l.steps) l.turn ≡ walked l.steps l.initial.turn
