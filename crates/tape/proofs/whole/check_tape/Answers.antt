use Rattle.std.proofs.Common.{sym, ap}
use Rattle.std.proofs.lemmas.Result.{err_from_is_err_and}
use Rattle.tape.specs.Whole.{checked}
use Rattle.tape.proofs.Through.{asked_as, part_falls, through_end, through_fault, through_more}
use Rattle.tape.proofs.whole.check_tape.Goals as goal

pub returns-in_err-next_command : goal.returns-in_err-next_command
returns-in_err-next_command c =
    let p = err_from_is_err_and c.from_residual.result c.from_residual.ensures.1 in
    let fault = through_fault c.args.tape.now _ _ c.loop.invariant.1 _ _ c.in_err-next_command.ensures in
    rw (p.1, p.2) (sym (ap checked fault))

pub loop-smaller : goal.loop-smaller
loop-smaller c = part_falls _ _ _ (asked_as _ _ _ _ c.in-Some.is c.in_ok-next_command.ensures)

pub loop-preserved : goal.loop-preserved
loop-preserved c = (_, through_more c.args.tape.now _ _ _ _ c.loop.invariant.1 (asked_as _ _ _ _ c.in-Some.is c.in_ok-next_command.ensures))

pub returns : goal.returns
returns c =
    let end = through_end c.args.tape.now _ _ c.loop.invariant.1 _ (asked_as _ _ _ _ c.in_default.is c.in_ok-next_command.ensures) in
    sym (ap checked end)
