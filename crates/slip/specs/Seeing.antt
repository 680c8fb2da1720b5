-- What a routine saw of the two speeds. Assumes nothing.
use Rattle.std.specs.Prelude.{◌≡◌, ℕ, cond, List, length, Ok, Err, Result, ◌==◌}
use Rattle.machine.specs.Words.{Start}
use Rattle.machine.specs.Effects.{run}
use Rattle.machine.specs.Emitters.{list_verdict}
use Rattle.machine.specs.declared.refusals.Refusal.{Refusal}
use Rattle.machine.specs.declared.refusals.Refusal.TheVariants.{WrongCells}
use Rattle.machine.specs.declared.turns.Turn.TheVariants.{Bare}
use Rattle.machine.specs.declared.steps.Step.{Step}
use Rattle.machine.specs.declared.words.Word.{Word}
use Rattle.bench.specs.Cells.{bench_steps, cell_count, loaded, words}
use Rattle.slip.specs.declared.wheels.Seen.{Seen}

-- the registers of the two speeds
abbrev pub first_speed : ℕ
first_speed = 6

abbrev pub second_speed : ℕ
second_speed = 7

-- from every start, the routine and the words are those that the steps make of the cells
pub record Sees {W : Type 0} (stands : W → Start → Word) (steps : List Step) (cells : List W) (seen : Seen W) : Type 0 where
  pub routine : (s : Start) → seen.routine ≡ (run steps (loaded (words (λ c. stands c s) cells))).seen.routine
  pub first : (s : Start) → stands seen.first s ≡ (run steps (loaded (words (λ c. stands c s) cells))).seen.register first_speed
  pub second : (s : Start) → stands seen.second s ≡ (run steps (loaded (words (λ c. stands c s) cells))).seen.register second_speed

-- cells are refused as a bench refuses them, and then the list as a new bench does
abbrev pub see_verdict : List Step → ℕ → Result (Unit {0}) Refusal
see_verdict steps n = cond (n == cell_count) (list_verdict steps Bare bench_steps) (Err WrongCells)

abbrev pub Saw : {W : Type 0} → (W → Start → Word) → List Step → List W → Result (Seen W) Refusal → Type 0
Saw stands steps cells (Ok seen) = Sees stands steps cells seen
Saw stands steps cells (Err f) = see_verdict steps (length cells) ≡ Err f
