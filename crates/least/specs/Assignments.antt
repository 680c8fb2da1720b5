-- The simultaneous assignment of a call's arguments. Assumes nothing.
use Rattle.std.specs.Prelude.{◌≡◌, ℕ, cond, List, None, ◌==◌, ◌≢◌}
use Rattle.std.specs.List.{AllByRecursion}
use Rattle.machine.specs.States.{State}
use Rattle.machine.specs.Effects.{effect}
use Rattle.machine.specs.declared.steps.Step.TheVariants.{Reserve}
use Rattle.machine.specs.declared.words.Word.{Word}
use Rattle.machine.specs.declared.words.Word.TheVariants.{Number}
use Rattle.conventions.specs.Arguments.{in_register, source_at}
use Rattle.conventions.specs.declared.arguments.Argument.{Argument}
use Rattle.conventions.specs.declared.arguments.Place.{Place}
use Rattle.conventions.specs.declared.arguments.Place.TheVariants.{Register, Outgoing}
use Rattle.conventions.specs.declared.arguments.Source.{Source}
use Rattle.conventions.specs.declared.arguments.Source.TheVariants.{Number as Constant, Register as Held, Local}

-- the word at a place
abbrev pub place_word : State → Place → Word
place_word σ (Register r) = σ.register r.0
place_word σ (Outgoing o) = σ.outgoing o.0

-- the word that a source gives
abbrev pub source_word : State → Source → Word
source_word σ (Constant k) = Number k
source_word σ (Held r) = σ.register r.0
source_word σ (Local n) = σ.local n.0

-- the state after the reservation of so many bytes; none is made for 0
abbrev pub reserved : ℕ → State → State
reserved b σ = cond (b == 0) σ (effect (Reserve b) σ)

-- in τ each argument's place holds what its source gave in σ
abbrev pub Placed : List Argument → State → State → Type 0
Placed xs σ τ = AllByRecursion (λ a. place_word τ a.place ≡ source_word σ a.source) xs

-- From σ to τ the arguments were put into their places all at once: each place holds its source's former word; every local
-- slot, and every register that is neither an argument's place nor the scratch, is unaltered.
pub record Assigned (xs : List Argument) (scratch : ℕ) (σ τ : State) : Type 0 where
  pub placed : Placed xs σ τ
  pub locals : (n : ℕ) → τ.local n ≡ σ.local n
  pub others : (r : ℕ) → source_at xs (in_register r) ≡ None → r ≢ scratch → τ.register r ≡ σ.register r
