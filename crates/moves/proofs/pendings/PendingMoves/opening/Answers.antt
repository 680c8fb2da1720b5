use Rattle.moves.specs.Tables.{table_in}
use Rattle.moves.specs.Wants.{wants_in}
use Rattle.moves.proofs.Searching.{slot_found}
use Rattle.moves.proofs.pendings.PendingMoves.opening.Goals as goal

pub unwrap-slot-requires : goal.unwrap-slot-requires
unwrap-slot-requires c =
    slot_found (wants_in c.args.wants.now) (table_in c.args.self.now) c.in-Some.register.0 c.lowest_slot.result c.in-Some.ensures c.lowest_slot.ensures
