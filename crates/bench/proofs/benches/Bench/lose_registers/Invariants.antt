use Rattle.machine.specs.Places.{holds}
use Rattle.bench.specs.Benches.{Rewritten}
use Rattle.bench.proofs.Words.{lost_below}
use Rattle.bench.proofs.benches.Bench.lose_registers.Given as goal

abbrev pub invariant-loop-r : goal.invariant-loop-r
invariant-loop-r g l = Rewritten g.W.WordKind.stands (lost_below (holds l.lost.0) l.r) l.initial.self l.self
