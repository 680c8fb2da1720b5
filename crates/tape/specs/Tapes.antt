-- What is on a tape, and what taking steps adds to it. Assumes nothing.
use Rattle.std.specs.Prelude.{◌≡◌, ℕ, ◌+◌, List, [], ◌++◌, length, take, drop}
use Rattle.std.specs.List.{flat_map}
use Rattle.machine.specs.declared.steps.Step.{Step}
use Rattle.machine.specs.declared.turns.Turn.TheVariants.{Bare}
use Rattle.tape.specs.Commands.{encode}
use Rattle.tape.specs.Readings.{steps_on}
use Rattle.tape.specs.declared.tapes.Tape.{Tape}

-- the steps that the bytes used read as
abbrev pub tape_steps : Tape → List Step
tape_steps e = steps_on e.used e.buffer.now

-- the bytes with xs written from one place up to another
abbrev pub written : ℕ → List ℕ → ℕ → List ℕ → List ℕ
written from xs to bs = take from bs ++ (xs ++ drop to bs)

-- from a to b the tape gained the commands of these steps, and no other byte of its buffer changed
pub record Gains (a : Tape) (ps : List Step) (b : Tape) : Type 0 where
  pub lent : b.buffer.ghost_name ≡ a.buffer.ghost_name
  pub steps : tape_steps b ≡ tape_steps a ++ ps
  pub used : b.used ≡ a.used + length (flat_map encode ps)
  pub bytes : b.buffer.now ≡ written a.used (flat_map encode ps) b.used a.buffer.now

-- a new tape has nothing on it, and leaves the buffer as it is
pub record Opened (buffer : List ℕ) (e : Tape) : Type 0 where
  pub bytes : e.buffer.now ≡ buffer
  pub used : e.used ≡ 0
  pub steps : tape_steps e ≡ []
  pub turn : e.turn ≡ Bare
