use Rattle.std.proofs.Common.{refl, arith}
use Rattle.std.proofs.lemmas.Result.{err_from_is_err_and}
use Rattle.machine.proofs.Giving.{giving_none, giving_more, giving_takes, gave_all, gave_no_room, gave_refused}
use Rattle.machine.proofs.emitters.give.Goals as goal

pub returns-in_err-after_all : goal.returns-in_err-after_all
returns-in_err-after_all g c =
    let p = err_from_is_err_and c.from_residual.result c.from_residual.ensures.1 in
    rw (p.1, p.2) (gave_refused g.E.Emitter.meaning c.args.steps.now _ _ c.turn.ensures _ c.in_err-after_all.ensures)

pub returns-then-room-steps : goal.returns-then-room-steps
returns-then-room-steps g c =
    gave_no_room g.E.Emitter.meaning c.args.steps.now _ _ c.turn.ensures _ c.in_ok-after_all.ensures (omega arith)

pub loop-step-init : goal.loop-step-init
loop-step-init g c =
    (giving_none g.E.Emitter.meaning c.args.steps.now _ _ c.turn.ensures _ c.in_ok-after_all.ensures, omega arith)

pub unwrap-requires : goal.unwrap-requires
unwrap-requires g c =
    let taken = giving_takes g.E.Emitter.meaning c.args.steps.now _ _ _ _ _ _ c.loop-step.invariant.0 c.loop-step-test.true (omega arith) c.take.ensures in
    rw taken refl

pub loop-step-preserved : goal.loop-step-preserved
loop-step-preserved g c =
    let more = giving_more g.E.Emitter.meaning c.args.steps.now _ _ _ _ _ _ c.loop-step.invariant.0 c.loop-step-test.true (omega arith) c.take.ensures in
    (more.0, omega (arith, more.1))

pub returns : goal.returns
returns g c =
    gave_all g.E.Emitter.meaning c.args.steps.now _ _ c.turn.ensures _ c.in_ok-after_all.ensures _ _ c.loop-step.invariant.0 c.loop-step-test.false (omega arith)
