use Rattle.std.proofs.Common.{◌≡◌, length, Ok, sym, refl, ap, ◌∙◌, subst, arith, rules}
use Rattle.std.proofs.lemmas.List.{length-take-le}
use Rattle.std.proofs.lemmas.Bool.{leb-true}
use Rattle.std.specs.List.{flat_map}
use Rattle.machine.proofs.Giving.{giving_all, giving_more, giving_takes}
use Rattle.tape.specs.Commands.{encode}
use Rattle.tape.specs.Meanings.{tape_meaning}
use Rattle.tape.proofs.Encoding.{left_more}
use Rattle.tape.proofs.Filling.{Spare, filled_bytes, filled_length, filled_reads, spare_more, spare_room, written_answer}
use Rattle.tape.proofs.whole.write_tape.Goals as goal

pub unwrap-requires : goal.unwrap-requires
unwrap-requires c =
    let some = spare_room c.loop-step.tape _ c.loop-step.invariant.1 in
    let taken = giving_takes tape_meaning c.args.steps.now _ _ _ _ _ _ c.loop-step.invariant.0 c.loop-step-test.true some c.take.ensures in
    rw taken refl

pub loop-step-preserved : goal.loop-step-preserved
loop-step-preserved c =
    let some = spare_room c.loop-step.tape _ c.loop-step.invariant.1 in
    let left = left_more c.args.steps.now c.loop-step.step-index _ c.loop-step-test.true in (
      (giving_more tape_meaning c.args.steps.now _ _ _ _ _ _ c.loop-step.invariant.0 c.loop-step-test.true some c.take.ensures).0,
      spare_more _ _ _ _ (subst (Spare c.loop-step.tape) left c.loop-step.invariant.1) (rw c.unwrap.ensures at c.take.ensures.did),
    )

pub returns : goal.returns
returns c =
    let opened = c.open-tape.ensures.opened in
    let lent = c.open-tape.ensures.lent in
    let ran = giving_all tape_meaning c.args.steps.now _ _ _ c.loop-step.invariant.0 c.loop-step-test.false in
    let bytes = filled_bytes c.args.buffer.now c.args.steps.now _ c.loop-step.tape opened ran in
    let used = filled_length c.args.buffer.now c.args.steps.now _ c.loop-step.tape opened ran in
    let long : length c.bytes.result.now ≡ length (flat_map encode c.args.steps.now) =
    ap length c.bytes.ensures ∙ length-take-le _ _ c.loop-step.tape.within ∙ used in
    let enough = leb-true _ _ (sym c.if-not-leaves_spare.ensures) in
    record {
      answer = ap (λ n. Ok n) long ∙ written_answer _ _ _ c.in_ok-after_all.ensures enough;
      bytes = let kept = ran.gains.lent in search (rules, bytes, lent, kept);
      reads = λ short bare. filled_reads _ _ _ c.loop-step.tape opened ran (omega (arith, long)) bare;
    }
