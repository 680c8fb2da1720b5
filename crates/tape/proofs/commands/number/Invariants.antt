use Rattle.tape.proofs.Numbers.{WritesFrom}
use Rattle.tape.proofs.commands.number.Given as goal

abbrev pub invariant-loop-byte : goal.invariant-loop-byte
invariant-loop-byte l = WritesFrom l.bytes l.byte-iterator.iter.rest.now l.number
