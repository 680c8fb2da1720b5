use Rattle.std.proofs.Common.{rules}
use Rattle.moves.proofs.Filling.{back_all, back_none, back_register, back_slot, register_there, slot_there}
use Rattle.moves.proofs.wants.Wants.of.Goals as goal

pub loop-argument-init : goal.loop-argument-init
loop-argument-init c = (search rules, back_none c.args.arguments.now _ c.requires (search rules))

pub bounds-by_register-register : goal.bounds-by_register-register
bounds-by_register-register c =
    register_there _ _ _ _ _ _ c.loop-argument.invariant.1 c.in-Some.ensures.steps c.in-Register.register c.in-Register.is

pub loop-argument-preserved-in-Register : goal.loop-argument-preserved-in-Register
loop-argument-preserved-in-Register c =
    (search rules, back_register _ _ _ _ _ _ c.loop-argument.invariant.1 c.in-Some.ensures.steps c.in-Register.register c.in-Register.is)

pub bounds-by_slot-slot : goal.bounds-by_slot-slot
bounds-by_slot-slot c =
    slot_there _ _ _ _ _ _ c.loop-argument.invariant.1 c.in-Some.ensures.steps c.in-Outgoing.slot c.in-Outgoing.is

pub loop-argument-preserved : goal.loop-argument-preserved
loop-argument-preserved c =
    (search rules, back_slot _ _ _ _ _ _ c.loop-argument.invariant.1 c.in-Some.ensures.steps c.in-Outgoing.slot c.in-Outgoing.is)

pub returns-clause-wants : goal.returns-clause-wants
returns-clause-wants c = back_all c.args.arguments.now _ _ _ c.in-None.ensures.steps.0 c.loop-argument.invariant.1
