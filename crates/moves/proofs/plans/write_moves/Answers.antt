use Rattle.std.proofs.Common.{◌++◌, length, ap, arith, length-append}
use Rattle.order.specs.Order.{loaded_registers, settled, spread_values, stored_registers}
use Rattle.moves.specs.Lists.{moves_in}
use Rattle.moves.specs.Wants.{wants_in}
use Rattle.moves.proofs.Joining.{added_length, order_joined, order_length}
use Rattle.moves.proofs.plans.write_moves.Goals as goal

pub store_registers-requires : goal.store_registers-requires
store_registers-requires c =
    let all = order_length (wants_in c.args.wants.now) c.args.wants.now.scratch.0 in
    let none = ap length c.clear.ensures in
    omega (arith, c.requires, all, none)

pub spread_values-values-requires : goal.spread_values-values-requires
spread_values-values-requires c =
    let all = order_length (wants_in c.args.wants.now) c.args.wants.now.scratch.0 in
    let one = added_length (stored_registers (wants_in c.args.wants.now)) (moves_in c.clear.new.self) _ c.store_registers.ensures in
    let none = ap length c.clear.ensures in
    omega (arith, c.requires, all, none, one)

pub fill_registers-rings-requires : goal.fill_registers-rings-requires
fill_registers-rings-requires c =
    let w = wants_in c.args.wants.now in
    let all = order_length w c.args.wants.now.scratch.0 in
    let none = ap length c.clear.ensures in
    let one = added_length (stored_registers w) (moves_in c.clear.new.self) _ c.store_registers.ensures in
    let two = added_length (spread_values w c.args.wants.now.scratch.0) (moves_in c.store_registers.new.moves) _ c.spread_values-values.ensures.moves in
    omega (arith, c.requires, all, none, one, two, length-append (settled w c.args.wants.now.scratch.0) (loaded_registers w))

pub store_values-requires : goal.store_values-requires
store_values-requires c =
    let w = wants_in c.args.wants.now in
    let all = order_length w c.args.wants.now.scratch.0 in
    let none = ap length c.clear.ensures in
    let one = added_length (stored_registers w) (moves_in c.clear.new.self) _ c.store_registers.ensures in
    let two = added_length (spread_values w c.args.wants.now.scratch.0) (moves_in c.store_registers.new.moves) _ c.spread_values-values.ensures.moves in
    let three = added_length (settled w c.args.wants.now.scratch.0 ++ loaded_registers w) (moves_in c.spread_values-values.new.moves) _ c.fill_registers-rings.ensures.moves in
    omega (arith, c.requires, all, none, one, two, three, length-append (settled w c.args.wants.now.scratch.0) (loaded_registers w))

pub returns-clause-moves : goal.returns-clause-moves
returns-clause-moves c =
    order_joined (wants_in c.args.wants.now) c.args.wants.now.scratch.0 _ _ _ _ _
    c.clear.ensures c.store_registers.ensures c.spread_values-values.ensures.moves c.fill_registers-rings.ensures.moves c.store_values.ensures
