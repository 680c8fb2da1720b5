use Rattle.order.specs.Order.{choices}
use Rattle.moves.specs.Lists.{moves_in}
use Rattle.moves.specs.Tables.{table_in}
use Rattle.moves.specs.Wants.{wants_in}
use Rattle.moves.proofs.Carrying.{Carrying}
use Rattle.moves.proofs.pendings.PendingMoves.settle.Given as goal

abbrev pub invariant-loop : goal.invariant-loop
invariant-loop l =
    Carrying (wants_in l.wants) l.wants.scratch.0 choices (table_in l.initial.self) (moves_in l.initial.moves) l.counter (table_in l.self) (moves_in l.moves) l.rings
