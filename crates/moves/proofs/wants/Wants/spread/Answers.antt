use Rattle.std.proofs.Common.{[], ◌∷◌, ◌++◌, length, ap, ◌∙◌, append_assoc, arith, length-append}
use Rattle.machine.specs.Limits.{outgoing_slots}
use Rattle.order.specs.Indices.{each}
use Rattle.order.specs.Order.{store_scratch}
use Rattle.moves.specs.Lists.{moves_in}
use Rattle.moves.specs.Wants.{wants_in}
use Rattle.moves.proofs.wants.Wants.spread.Goals as goal

pub store_all-requires : goal.store_all-requires
store_all-requires c =
    let one = ap length c.push.ensures in
    let split = length-append (moves_in c.args.moves.now) (c.bring.result ∷ []) in
    omega (arith, c.requires)

pub returns : goal.returns
returns c =
    let stores = each (store_scratch (wants_in c.args.self.now) c.args.self.now.scratch.0 c.args.source) outgoing_slots in
    c.store_all.ensures ∙ ap (λ ps. ps ++ stores) c.push.ensures ∙ append_assoc (moves_in c.args.moves.now) (c.bring.result ∷ []) stores
    ∙ ap (λ p. moves_in c.args.moves.now ++ (p ∷ stores)) c.bring.ensures
