use Rattle.moves.proofs.Filling.{FillingBack}
use Rattle.moves.proofs.wants.Wants.of.Given as goal

abbrev pub invariant-loop-argument : goal.invariant-loop-argument
invariant-loop-argument l =
    (goal.iterator-loop-argument).can_next l.argument-iterator × FillingBack l.fn.arguments l.argument-iterator.iter.rest.now l.by_register l.by_slot
