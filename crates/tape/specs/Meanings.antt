-- A tape as an emitter. Assumes nothing.
use Rattle.std.specs.Prelude.{◌-◌, ◌/◌, length}
use Rattle.machine.specs.States.{begin}
use Rattle.machine.specs.Effects.{run}
use Rattle.machine.specs.Emitters.{Meaning}
use Rattle.tape.specs.Limits.{longest_command}
use Rattle.tape.specs.Tapes.{Gains, tape_steps}
use Rattle.tape.specs.declared.tapes.Tape.{Tape}
use Rattle.tape.specs.Gaining.{gains_more, gains_none, tape_turn}

-- the state is found by running the steps on the tape, and they are the steps taken
abbrev pub tape_meaning : Meaning Tape
tape_meaning = record {
  state = λ e s. run (tape_steps e) (begin s);
  turn = λ e. e.turn;
  taken = λ e. length (tape_steps e);
  room = λ e. (length e.buffer.now - e.used) / longest_command;
  gains = Gains;
  one_turn = tape_turn;
  gains_none = gains_none;
  gains_more = gains_more;
}
