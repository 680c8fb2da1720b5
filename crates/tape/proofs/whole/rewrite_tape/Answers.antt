use Rattle.tape.specs.Whole.{tape_reads}
use Rattle.tape.proofs.Copying.{copying_more}
use Rattle.tape.proofs.Rounds.{not_both}
use Rattle.tape.proofs.Through.{asked_as, through_fault}
use Rattle.tape.proofs.whole.rewrite_tape.Goals as goal

pub returns-in_err-part : goal.returns-in_err-part
returns-in_err-part c =
    let fault = through_fault c.args.tape.now _ _ c.loop-part.invariant.through _ _ c.in_err-part.ensures in
    absurd (not_both (tape_reads c.args.tape.now) _ c.in_ok-check_tape.ensures fault)

pub loop-part-preserved : goal.loop-part-preserved
loop-part-preserved c =
    copying_more c.args.tape.now _ _ _ c.loop-part.invariant _ _ (asked_as _ _ _ _ c.in-Some.is c.in_ok-part.ensures) _
    (rw c.unwrap.ensures at c.take.ensures.did)
