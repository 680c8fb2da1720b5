use Rattle.std.proofs.Common.{append_assoc, arith}
use Rattle.std.proofs.lemmas.Bool.Decides.{nat_tests}
use Rattle.board_calls.proofs.calls.call_steps.Goals as goal
use Rattle.board_calls.proofs.calls.call_steps.Goals.{then-bytes-ne0+in_ok-push, else-bytes-ne0, then-bytes-ne0-2+in_ok-push-3, else-bytes-ne0-2}

pub returns : goal.returns
returns c =
    let start = c.new-steps.ensures.items in
    let moves = c.steps.ensures in
    let moved = c.in_ok-extend_from_slice.ensures.items in
    let called = c.in_ok-push-2.ensures.items in
    elim c.if-bytes-ne0.branch [
      | then-bytes-ne0+in_ok-push w ↦ elim c.if-bytes-ne0-2.branch [
        | then-bytes-ne0-2+in_ok-push-3 v ↦
            let reserved = w.in_ok-push.ensures.items in
            let popped = v.in_ok-push-3.ensures.items in
            grind (arith, nat_tests, append_assoc, start, reserved, moves, moved, called, popped, w.steps-is, v.steps-is, w.if-bytes-ne0.true)
        | else-bytes-ne0-2 v ↦ grind (arith, nat_tests, w.if-bytes-ne0.true, v.if-bytes-ne0-2.false)
      ]
      | else-bytes-ne0 w ↦ elim c.if-bytes-ne0-2.branch [
        | then-bytes-ne0-2+in_ok-push-3 v ↦ grind (arith, nat_tests, w.if-bytes-ne0.false, v.if-bytes-ne0-2.true)
        | else-bytes-ne0-2 v ↦ grind (arith, nat_tests, start, moves, moved, called, w.steps-is, v.steps-is, w.if-bytes-ne0.false)
      ]
    ]
