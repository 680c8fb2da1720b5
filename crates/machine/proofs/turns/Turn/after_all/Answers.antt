use Rattle.std.proofs.Common.{sym, ◌∙◌}
use Rattle.std.proofs.lemmas.List.{at_drop_all}
use Rattle.std.proofs.lemmas.Result.{err_from_is_err_and}
use Rattle.machine.specs.Turns.{walked}
use Rattle.machine.proofs.Walks.{walked_more, walked_stop}
use Rattle.machine.proofs.turns.Turn.after_all.Goals as goal

pub loop-step-preserved : goal.loop-step-preserved
loop-step-preserved c =
    let ok = c.in_ok-turn.ensures in
    sym (walked_more c.args.steps.now _ _ _ _ c.loop-step-test.true (sym ok)) ∙ c.loop-step.invariant

pub returns-in_err-turn : goal.returns-in_err-turn
returns-in_err-turn c =
    let p = err_from_is_err_and c.from_residual.result c.from_residual.ensures.1 in
    let refused = c.in_err-turn.ensures in
    rw (p.1, p.2) (sym (walked_stop c.args.steps.now _ _ _ _ c.loop-step-test.true (sym refused)) ∙ c.loop-step.invariant)

pub returns : goal.returns
returns c =
    sym (at_drop_all (λ ps. walked ps c.loop-step.turn) c.args.steps.now _ c.loop-step-test.false) ∙ c.loop-step.invariant
