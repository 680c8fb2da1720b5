-- The places of a bench's cells, and the state that they stand for. Assumes nothing.
use Rattle.std.specs.Prelude.{ℕ, ◌+◌, ◌-◌, Bool, cond, ◌&&◌, List, map, Ok, Err, Result, ◌==◌, nat_le, nat_lt, slice_index_or}
use Rattle.machine.specs.declared.refusals.Refusal.{Refusal}
use Rattle.machine.specs.declared.refusals.Refusal.TheVariants.{WrongCells}
use Rattle.machine.specs.Limits.{registers, local_slots, outgoing_slots}
use Rattle.machine.specs.Effects.{lose}
use Rattle.machine.specs.States.{State, begin, below}
use Rattle.machine.specs.Words.{Start}
use Rattle.machine.specs.declared.turns.Turn.{Turn}
use Rattle.machine.specs.declared.words.Word.{Word}
use Rattle.machine.specs.declared.words.Word.TheVariants.{Unknown}

-- a bench takes at most this many steps
abbrev pub bench_steps : ℕ
bench_steps = 1000000

-- the first cell of each kind of place; registers come first
abbrev pub first_local : ℕ
first_local = registers

abbrev pub first_outgoing : ℕ
first_outgoing = first_local + local_slots

abbrev pub first_seen_register : ℕ
first_seen_register = first_outgoing + outgoing_slots

abbrev pub first_seen_outgoing : ℕ
first_seen_outgoing = first_seen_register + registers

-- all cells
abbrev pub cell_count : ℕ
cell_count = first_seen_outgoing + outgoing_slots

-- the answer to a number of cells
abbrev pub judged_cells : ℕ → Result (Unit {0}) Refusal
judged_cells n = cond (n == cell_count) (Ok tt) (Err WrongCells)

-- the words that the cells stand for, under f, each at its index
abbrev pub words : {W : Type 0} → (W → Word) → List W → ℕ → Word
words f cells i = slice_index_or (map f cells) i Unknown

-- the n words from an index on
abbrev pub area : (ℕ → Word) → ℕ → ℕ → ℕ → Word
area w first n = below n (λ i. w (first + i))

-- an index is one of the n from an index on
abbrev pub in_area : ℕ → ℕ → ℕ → Bool
in_area first n i = nat_le first i && nat_lt i (first + n)

-- the n words from an index on made unknown
abbrev pub wiped : ℕ → ℕ → (ℕ → Word) → ℕ → Word
wiped first n w i = cond (in_area first n i) Unknown (w i)

-- the n words from one index on put over those from another on
abbrev pub copied : ℕ → ℕ → ℕ → (ℕ → Word) → ℕ → Word
copied from to n w i = cond (in_area to n i) (w (from + (i - to))) (w i)

-- what a call step with the lost set m leaves of the words
abbrev pub call_words : ℕ → (ℕ → Word) → ℕ → Word
call_words m w =
    lose m (wiped first_outgoing outgoing_slots (copied first_outgoing first_seen_outgoing outgoing_slots (copied 0 first_seen_register registers w)))

-- the start that cells hold which stand for the words w
abbrev pub start_of : (ℕ → Word) → Start
start_of w = record { register = λ r. w (0 + r); local = λ n. w (first_local + n) }

-- a new bench is at that start
abbrev pub loaded : (ℕ → Word) → State
loaded w = begin (start_of w)

-- the state of a bench whose cells stand for the words w
abbrev pub state_of : (ℕ → Word) → Turn → ℕ → ℕ → State
state_of w turn calls routine = record {
  register = area w 0 registers;
  local = area w first_local local_slots;
  outgoing = area w first_outgoing outgoing_slots;
  turn = turn;
  calls = calls;
  seen = record {
    routine = routine;
    register = area w first_seen_register registers;
    outgoing = area w first_seen_outgoing outgoing_slots;
  };
}
