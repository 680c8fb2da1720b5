use Rattle.std.proofs.Common.{◌≡◌, ◌+◌, ◌*◌, sym, ap, subst, ◌∙◌, arith}
use Rattle.tape.proofs.Numbers.{WritesFrom, byte_next, room_for_more, writes_earlier, writes_from_end, writes_whole}
use Rattle.tape.proofs.commands.number.Goals as goal

pub loop-byte-init : goal.loop-byte-init
loop-byte-init c =
    let whole : c.into_iter-byte-iterator.result.iter.rest.now ≡ c.args.bytes.now =
    ap (λ i. i.iter.rest.now) c.into_iter-byte-iterator.ensures.into_iter_gives ∙ ap (λ i. i.rest.now) c.rev-byte-items.ensures.source ∙ c.iter.ensures.rest in
    subst (λ left. WritesFrom c.args.bytes.now left 0) (sym whole) (writes_from_end c.args.bytes.now)

pub overflow_mul-number : goal.overflow_mul-number
overflow_mul-number c = omega (arith, room_for_more c.args.bytes.now _ _ _ _ c.in-Some.ensures.steps c.loop-byte.invariant c.requires)

pub overflow_add-number : goal.overflow_add-number
overflow_add-number c =
    let byte = byte_next c.args.bytes.now _ _ _ _ c.in-Some.ensures.steps c.loop-byte.invariant (λ i. (c.type_inv.bytes i).fits) in
    omega (arith, room_for_more c.args.bytes.now _ _ _ _ c.in-Some.ensures.steps c.loop-byte.invariant c.requires, byte, c.from.ensures)

pub loop-byte-preserved : goal.loop-byte-preserved
loop-byte-preserved c =
    subst (λ b. WritesFrom c.args.bytes.now c.next.new.self.iter.rest.now (c.loop-byte.number * 256 + b)) (sym c.from.ensures)
    (writes_earlier c.args.bytes.now _ _ _ _ c.in-Some.ensures.steps c.loop-byte.invariant (λ i. (c.type_inv.bytes i).fits))

pub returns : goal.returns
returns c =
    let w = writes_whole c.args.bytes.now _ _ c.in-None.ensures.steps.0 c.loop-byte.invariant in
    record { is = w.value_is; again = w.again; fit = w.fit }
