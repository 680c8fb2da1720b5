use Rattle.moves.specs.Tables.{Marked, table_in}
use Rattle.moves.proofs.pendings.PendingMoves.read_registers.Given as goal

abbrev pub invariant-loop-e : goal.invariant-loop-e
invariant-loop-e l = Marked (table_in l.self) l.e l.read
