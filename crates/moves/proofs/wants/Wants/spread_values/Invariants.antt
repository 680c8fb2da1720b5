use Rattle.moves.specs.Lists.{moves_in}
use Rattle.moves.specs.Wants.{wants_in}
use Rattle.moves.proofs.Spreading.{Spreading}
use Rattle.moves.proofs.wants.Wants.spread_values.Given as goal

abbrev pub invariant-loop-o : goal.invariant-loop-o
invariant-loop-o l = Spreading (wants_in l.self) l.self.scratch.0 (moves_in l.initial.moves) l.o (moves_in l.moves) l.values
