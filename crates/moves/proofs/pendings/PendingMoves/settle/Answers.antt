use Rattle.std.proofs.Common.{◌+◌, sym}
use mathlib.Core.Path.{subst₃}
use Rattle.order.specs.Order.{choices}
use Rattle.moves.specs.Limits.{move_limit}
use Rattle.moves.specs.Lists.{moves_in}
use Rattle.moves.specs.Tables.{table_in}
use Rattle.moves.specs.Wants.{wants_in}
use Rattle.moves.proofs.Carrying.{Carrying, carrying_all, carrying_finished, carrying_more, carrying_room}
use Rattle.moves.proofs.pendings.PendingMoves.settle.Goals as goal

pub carry_out-requires : goal.carry_out-requires
carry_out-requires c =
    carrying_room (wants_in c.args.wants.now) c.args.wants.now.scratch.0 choices (table_in c.args.self.now) (moves_in c.args.moves.now)
    c.loop.counter move_limit (table_in c.loop.self) (moves_in c.loop.moves) c.loop.rings _ c.loop-test.true c.in-Some.ensures c.loop.invariant c.requires

pub loop-preserved : goal.loop-preserved
loop-preserved c =
    let next = carrying_more (wants_in c.args.wants.now) c.args.wants.now.scratch.0 choices (table_in c.args.self.now) (moves_in c.args.moves.now)
    c.loop.counter (table_in c.loop.self) (moves_in c.loop.moves) c.loop.rings _ c.loop-test.true c.in-Some.ensures c.loop.invariant in
    subst₃ (λ u ps r. Carrying (wants_in c.args.wants.now) c.args.wants.now.scratch.0 choices (table_in c.args.self.now) (moves_in c.args.moves.now) (c.loop.counter + 1) u ps (c.loop.rings + r))
    (sym c.carry_out.ensures.table) (sym c.carry_out.ensures.moves) (sym c.rings_spilled-rings.ensures) next

pub returns-after-loop : goal.returns-after-loop
returns-after-loop c =
    carrying_all (wants_in c.args.wants.now) c.args.wants.now.scratch.0 choices (table_in c.args.self.now) (moves_in c.args.moves.now)
    c.loop.counter (table_in c.loop.self) (moves_in c.loop.moves) c.loop.rings c.loop-test.false c.loop.invariant

pub returns-in_default : goal.returns-in_default
returns-in_default c =
    carrying_finished (wants_in c.args.wants.now) c.args.wants.now.scratch.0 choices (table_in c.args.self.now) (moves_in c.args.moves.now)
    c.loop.counter (table_in c.loop.self) (moves_in c.loop.moves) c.loop.rings c.in_default.ensures c.loop.invariant
