-- What a bench means. Assumes nothing.
use Rattle.std.specs.Prelude.{◌≡◌, ℕ, ◌-◌, ◌<◌, ◌≤◌, List, take, Option, MatchOption, refl}
use Rattle.std.proofs.Common.{◌∙◌}
use Rattle.machine.specs.Words.{Start}
use Rattle.machine.specs.Effects.{effect}
use Rattle.machine.specs.Emitters.{Meaning}
use Rattle.machine.specs.Turns.{turn_after}
use Rattle.machine.specs.declared.steps.Step.{Step}
use Rattle.machine.specs.declared.turns.Turn.TheVariants.{Bare}
use Rattle.machine.specs.declared.words.Word.TheVariants.{Unknown}
use Rattle.machine.specs.declared.words.Word.{Word}
use Rattle.bench.specs.Cells.{bench_steps, first_outgoing, loaded, state_of, words}
use Rattle.bench.specs.declared.benches.Bench.{Bench}

-- the state is what the cells stand for, and the cells are still the lender's
abbrev pub bench_meaning : {W : Type 0} → (W → Start → Word) → Meaning (Bench W)
bench_meaning stands = record {
  state = λ b s. state_of (words (λ c. stands c s) b.cells.now) b.turn b.calls b.routine;
  turn = λ b. b.turn;
  taken = λ b. b.taken;
  room = λ b. bench_steps - b.taken;
  gains = λ a ps b. b.cells.ghost_name ≡ a.cells.ghost_name;
  one_turn = λ b s. refl;
  gains_none = λ b. refl;
  gains_more = λ a b c ps qs front back. back ∙ front;
}

-- a new bench keeps the registers and local slots of the cells that it was opened on; the rest is unknown
pub record Opened {W : Type 0} (stands : W → Start → Word) (cells : List W) (b : Bench W) : Type 0 where
  pub kept : take first_outgoing b.cells.now ≡ take first_outgoing cells
  pub rest : (s : Start) (i : ℕ) → first_outgoing ≤ i → words (λ c. stands c s) b.cells.now i ≡ Unknown
  pub state : (s : Start) → (bench_meaning stands).state b s ≡ loaded (words (λ c. stands c s) cells)
  pub turn : b.turn ≡ Bare
  pub taken : b.taken ≡ 0

-- the cells were rewritten so that the words w that they stood for became f w, and nothing else changed
pub record Rewritten {W : Type 0} (stands : W → Start → Word) (f : (ℕ → Word) → ℕ → Word) (a b : Bench W) : Type 0 where
  pub cells : (s : Start) → words (λ c. stands c s) b.cells.now ≡ f (words (λ c. stands c s) a.cells.now)
  pub turn : b.turn ≡ a.turn
  pub calls : b.calls ≡ a.calls
  pub routine : b.routine ≡ a.routine
  pub taken : b.taken ≡ a.taken
  pub lent : b.cells.ghost_name ≡ a.cells.ghost_name

-- from a to b the cells, the calls and the routine changed as the step changes them, and nothing else
pub record Acted {W : Type 0} (stands : W → Start → Word) (step : Step) (a b : Bench W) : Type 0 where
  pub state : (s : Start) → state_of (words (λ c. stands c s) b.cells.now) (turn_after step a.turn) b.calls b.routine ≡ effect step ((bench_meaning stands).state a s)
  pub turn : b.turn ≡ a.turn
  pub taken : b.taken ≡ a.taken
  pub lent : b.cells.ghost_name ≡ a.cells.ghost_name

-- the answer to a question for place i of n: what stands for the word there, or nothing where there is no such place
abbrev pub Told : {W : Type 0} → (W → Start → Word) → ℕ → (Start → ℕ → Word) → ℕ → Option W → Type 0
Told stands n w i r = MatchOption r (n ≤ i) (λ x. (i < n) × ((s : Start) → stands x s ≡ w s i))
