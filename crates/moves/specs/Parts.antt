-- What spreading sources from the scratch adds to the moves. Assumes nothing.
use Rattle.std.specs.Prelude.{◌≡◌, ℕ, List, ◌∷◌, ◌++◌, length}
use Rattle.machine.specs.Limits.{outgoing_slots}
use Rattle.machine.specs.declared.steps.Step.{Step}
use Rattle.conventions.specs.declared.arguments.Source.{Source}
use Rattle.order.specs.Indices.{each}
use Rattle.order.specs.Order.{bring, spread_values, store_scratch, values_spread}
use Rattle.order.specs.Wants.{Wants}

-- the steps for one source
abbrev pub spread_steps : Wants → ℕ → Source → List Step
spread_steps w scratch s = bring scratch s ∷ each (store_scratch w scratch s) outgoing_slots

-- all sources that are spread were, and r is how many they are
pub record Spread (w : Wants) (scratch : ℕ) (before after : List Step) (r : ℕ) : Type 0 where
  pub moves : after ≡ before ++ spread_values w scratch
  pub values : r ≡ length (values_spread w)
