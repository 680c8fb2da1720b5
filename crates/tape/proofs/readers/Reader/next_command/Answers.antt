use Rattle.std.proofs.Common.{◌≡◌, ◌+◌, ◌-◌, take, drop, Ok, sym, refl, ap, ◌∙◌, arith, rules}
use Rattle.machine.specs.Turns.{moved}
use Rattle.tape.specs.Commands.{size}
use Rattle.tape.proofs.Asking.{asked_passed, within_part}
use Rattle.tape.proofs.Encoding.{length-encode}
use Rattle.tape.proofs.readers.Reader.next_command.Goals as goal

pub invariant_of-self : goal.invariant_of-self
invariant_of-self c =
    let was : c.first_step.result ≡ Ok c.in_ok-step.step = search rules in
    let size_is = c.size.ensures ∙ ap size c.from.ensures.is ∙ sym (length-encode c.in_ok-step.step) in
    record { within = within_part c.args.self.now c.if-tape-gt-TAPE_LIMIT.false c.if-place-tape.false _ _ was c.first_step.ensures _ size_is }

pub returns : goal.returns
returns c =
    let self = c.args.self.now in
    let was : c.first_step.result ≡ Ok c.in_ok-step.step = search rules in
    let size_is = c.size.ensures ∙ ap size c.from.ensures.is ∙ sym (length-encode c.in_ok-step.step) in
    let m : moved c.in_ok-step.step self.turn ≡ Ok c.match-self-2.next = search rules in
    let long : self.place + c.size.result - self.place ≡ c.size.result = omega arith in
    asked_passed self c.if-tape-gt-TAPE_LIMIT.false c.if-place-tape.false _ _ was c.first_step.ensures _ size_is _ _ refl refl
    (ap (λ n. take n (drop self.place self.tape.now)) long) refl refl m
