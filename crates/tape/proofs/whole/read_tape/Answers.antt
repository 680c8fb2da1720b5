use Rattle.std.proofs.Common.{Ok, Err, sym, subst}
use Rattle.std.proofs.lemmas.Result.{err_from_is_err_and}
use Rattle.tape.specs.Whole.{tape_reads}
use Rattle.tape.specs.declared.errors.ReadError.TheVariants.{Refused}
use Rattle.tape.proofs.Rounds.{read_as, refused}
use Rattle.tape.proofs.Through.{Through, asked_as, part_falls, through_end, through_fault, through_more}
use Rattle.tape.proofs.whole.read_tape.Goals as goal

pub returns-in_err-check_tape : goal.returns-in_err-check_tape
returns-in_err-check_tape c =
    let p = err_from_is_err_and c.from_residual.result c.from_residual.ensures.1 in
    let fault = refused (tape_reads c.args.tape.now) _ c.in_err-check_tape.ensures in
    rw (p.1, p.2) (record { answer = fault; round = λ ps. read_as c.args.tape.now (Err (Refused _)) fault ps })

pub returns-in_err-part : goal.returns-in_err-part
returns-in_err-part c =
    let p = err_from_is_err_and c.from_residual-in_err-part.result c.from_residual-in_err-part.ensures.1 in
    let fault = through_fault c.args.tape.now _ _ c.loop-steps.invariant _ _ c.in_err-part.ensures in
    rw (p.1, p.2) (record { answer = fault; round = λ ps. read_as c.args.tape.now (Err (Refused _)) fault ps })

pub loop-steps-smaller : goal.loop-steps-smaller
loop-steps-smaller c = part_falls _ _ _ (asked_as _ _ _ _ c.in-Some.is c.in_ok-part.ensures)

pub loop-steps-preserved : goal.loop-steps-preserved
loop-steps-preserved c =
    let more = through_more c.args.tape.now _ _ _ _ c.loop-steps.invariant (asked_as _ _ _ _ c.in-Some.is c.in_ok-part.ensures) in
    subst (λ ps. Through c.args.tape.now ps c.next_command.new.self) (sym c.in_ok-push.ensures.items) more

pub returns : goal.returns
returns c =
    let end = through_end c.args.tape.now _ _ c.loop-steps.invariant _ (asked_as _ _ _ _ c.in_default.is c.in_ok-part.ensures) in
    record { answer = end; round = λ ps. read_as c.args.tape.now (Ok c.loop-steps.steps) end ps }
