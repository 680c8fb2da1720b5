-- What each step does to a state. Assumes nothing.
use Rattle.std.specs.Prelude.{ℕ, ◌+◌, cond, List, [], ◌∷◌}
use Rattle.machine.specs.Places.{holds}
use Rattle.machine.specs.States.{State, put, blank}
use Rattle.machine.specs.Turns.{turn_called}
use Rattle.machine.specs.declared.words.Word.{Word}
use Rattle.machine.specs.declared.words.Word.TheVariants.{Unknown, Number}
use Rattle.machine.specs.declared.turns.Turn.{Turn}
use Rattle.machine.specs.declared.turns.Turn.TheVariants.{Bare, Reserved}
use Rattle.machine.specs.declared.steps.Step.{Step}
use Rattle.machine.specs.declared.steps.Step.TheVariants.{Copy, Set, Fetch, Back, Store, Keep, Reserve, Call, Pop}

-- the same state but for one part
abbrev with_register : ℕ → Word → State → State
with_register d w σ = record {
  register = put d w σ.register;
  local = σ.local;
  outgoing = σ.outgoing;
  turn = σ.turn;
  calls = σ.calls;
  seen = σ.seen;
}

abbrev with_outgoing : (ℕ → Word) → State → State
with_outgoing f σ = record {
  register = σ.register;
  local = σ.local;
  outgoing = f;
  turn = σ.turn;
  calls = σ.calls;
  seen = σ.seen;
}

abbrev with_local : ℕ → Word → State → State
with_local n w σ = record {
  register = σ.register;
  local = put n w σ.local;
  outgoing = σ.outgoing;
  turn = σ.turn;
  calls = σ.calls;
  seen = σ.seen;
}

abbrev with_turn : Turn → State → State
with_turn t σ = record {
  register = σ.register;
  local = σ.local;
  outgoing = σ.outgoing;
  turn = t;
  calls = σ.calls;
  seen = σ.seen;
}

-- the registers of the set become unknown
abbrev pub lose : ℕ → (ℕ → Word) → ℕ → Word
lose set f r = cond (holds set r) Unknown (f r)

abbrev pub called : ℕ → ℕ → State → State
called r m σ = record {
  register = lose m σ.register;
  local = σ.local;
  outgoing = blank;
  turn = turn_called σ.turn;
  calls = σ.calls + 1;
  seen = record { routine = r; register = σ.register; outgoing = σ.outgoing };
}

abbrev pub effect : Step → State → State
effect (Copy d s) σ = with_register d.0 (σ.register s.0) σ
effect (Set d k) σ = with_register d.0 (Number k) σ
effect (Fetch d n) σ = with_register d.0 (σ.local n.0) σ
effect (Back d o) σ = with_register d.0 (σ.outgoing o.0) σ
effect (Store o s) σ = with_outgoing (put o.0 (σ.register s.0) σ.outgoing) σ
effect (Keep n s) σ = with_local n.0 (σ.register s.0) σ
effect (Reserve b) σ = with_outgoing blank (with_turn (Reserved b) σ)
effect (Call r m) σ = called r m.0 σ
effect (Pop b) σ = with_turn Bare σ

-- the steps one after another
abbrev pub run : List Step → State → State
run [] σ = σ
run (p ∷ ps) σ = run ps (effect p σ)
