-- States of the machine. Assumes nothing.
use Rattle.std.specs.Prelude.{ℕ, cond, ◌==◌, nat_lt}
use Rattle.machine.specs.Limits.{registers, local_slots}
use Rattle.machine.specs.Words.{Start}
use Rattle.machine.specs.declared.words.Word.{Word}
use Rattle.machine.specs.declared.words.Word.TheVariants.{Unknown}
use Rattle.machine.specs.declared.turns.Turn.{Turn}
use Rattle.machine.specs.declared.turns.Turn.TheVariants.{Bare}

-- what the latest call step found
pub record Seen : Type 0 where
  pub routine : ℕ
  pub register : ℕ → Word
  pub outgoing : ℕ → Word

pub record State : Type 0 where
  pub register : ℕ → Word
  pub local : ℕ → Word
  pub outgoing : ℕ → Word
  pub turn : Turn
  pub calls : ℕ
  pub seen : Seen

-- every place unknown
abbrev pub blank : ℕ → Word
blank i = Unknown

-- the words f of the places below n; there are no others
abbrev pub below : ℕ → (ℕ → Word) → ℕ → Word
below n f i = cond (nat_lt i n) (f i) Unknown

-- f with the word w at place d
abbrev pub put : ℕ → Word → (ℕ → Word) → ℕ → Word
put d w f i = cond (i == d) w (f i)

-- a start read as a state
abbrev pub begin : Start → State
begin s = record {
  register = below registers s.register;
  local = below local_slots s.local;
  outgoing = blank;
  turn = Bare;
  calls = 0;
  seen = record { routine = 0; register = blank; outgoing = blank };
}
