use Rattle.std.proofs.Common.{refl, sym, ap, ◌∙◌, arith}
use Rattle.conventions.specs.Calls.{bytes_for}
use Rattle.conventions.specs.Lists.{listed}
use Rattle.least.specs.Counts.{needed}
use Rattle.machine.specs.declared.places.Register.{Register}
use Rattle.order.specs.Wants.{wants}
use Rattle.moves.proofs.Planning.{accepted, entries_placed, needed_few, order_fits}
use Rattle.moves.proofs.plans.plan_call.Goals as goal

pub write_call-rings-requires : goal.write_call-rings-requires
write_call-rings-requires g c =
    let entries = c.entries.result.now in
    record {
      places = entries_placed _ _ _ c.in_ok-arguments.ensures entries c.entries.ensures;
      room = order_fits _ _ _ c.in_ok-arguments.ensures entries c.entries.ensures
          (wants entries) refl c.scratch.result.0 (ap (λ (r : Register). r.0) c.scratch.ensures);
    }

pub overflow_cast-result : goal.overflow_cast-result
overflow_cast-result g c =
    let few = needed_few _ _ _ c.in_ok-arguments.ensures c.entries-2.result.now c.entries-2.ensures in
    omega (arith, c.count_needed.ensures, few)

pub returns : goal.returns
returns g c =
    let a = g.C.Convention.answers c.args.convention.now in
    let same = ap needed (c.entries-2.ensures ∙ sym c.entries.ensures) in
    accepted a (listed c.args.list.now) _ c.in_ok-arguments.ensures c.entries.result.now c.entries.ensures
    (wants c.entries.result.now) refl c.scratch.result.0 (ap (λ (r : Register). r.0) c.scratch.ensures) _ _
    (c.bytes_for.ensures ∙ ap bytes_for (c.slots.ensures ∙ ap a.slots c.len.ensures))
    (c.count_needed.ensures ∙ same)
    c.write_call-rings.ensures.rings c.write_call-rings.ensures.values c.write_call-rings.ensures.moves
