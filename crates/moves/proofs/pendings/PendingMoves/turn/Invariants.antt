use Rattle.order.specs.Tables.{turned}
use Rattle.moves.specs.Tables.{table_in}
use Rattle.moves.proofs.Entries.{Rewriting}
use Rattle.moves.proofs.pendings.PendingMoves.turn.Given as goal

-- the readers below r are turned
abbrev pub invariant-loop-r : goal.invariant-loop-r
invariant-loop-r l = Rewriting (table_in l.initial.self) (turned l.from l.to (table_in l.initial.self)) l.r (table_in l.self)
