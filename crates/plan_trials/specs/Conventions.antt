-- The conventions of the tests' own. Assumes nothing.
use Rattle.std.specs.Prelude.{max, cond, [], ◌∷◌, ◌==◌, nat_lt}
use Rattle.conventions.specs.Arguments.{from_register, in_register, in_slot}
use Rattle.conventions.specs.Boards.{registers_first}
use Rattle.conventions.specs.Conventions.{Answers}
use Rattle.conventions.specs.declared.arguments.Source.TheVariants.{Local, Number}

-- three argument registers, and a scratch above them
abbrev pub small : Answers
small = registers_first (0 ∷ 1 ∷ 2 ∷ []) 3 0b0111 0b1111

-- The same registers with three hidden arguments: register 0 from register 2, register 1 from the number 9, and outgoing
-- slot 0 from local slot 4. Given arguments go to register 2 and then to the next outgoing slots.
abbrev pub hiding : Answers
hiding = record {
  hidden = 3;
  hidden_place = λ i. cond (nat_lt i 2) (in_register i) (in_slot 0);
  hidden_source = λ i. cond (i == 0) (from_register 2) (cond (i == 1) (Number 9) (Local (record { 0 = 4 })));
  place = λ i. cond (i == 0) (in_register 2) (in_slot i);
  slots = λ n. max n 1;
  scratch = record { 0 = 3 };
  usable = record { 0 = 0b0111 };
  lost = record { 0 = 0b1111 };
}
