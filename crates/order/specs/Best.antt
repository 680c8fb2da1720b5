-- What is promised of a list of moves for a call's arguments. Assumes nothing.
use Rattle.std.specs.Prelude.{◌≡◌, ℕ, ◌+◌, ◌≤◌, List, length}
use Rattle.machine.specs.States.{State}
use Rattle.machine.specs.Effects.{run}
use Rattle.machine.specs.declared.steps.Step.{Step}
use Rattle.conventions.specs.declared.arguments.Argument.{Argument}
use Rattle.least.specs.Assignments.{Assigned, reserved}
use Rattle.least.specs.Counts.{Rings, Values, needed}
use Rattle.least.specs.Rivals.{Rival}

-- The moves ps, after b bytes are reserved, are a simultaneous assignment from every state, in range, and no rival has fewer;
-- they are n + c + m, where n, c and m are the counts N, C and M.
pub record Best (xs : List Argument) (scratch b : ℕ) (ps : List Step) (n c m : ℕ) : Type 0 where
  pub needs : n ≡ needed xs
  pub rings : Rings xs c
  pub values : Values xs m
  pub total : length ps ≡ n + c + m
  pub assigns : (σ : State) → Assigned xs scratch σ (run ps (reserved b σ))
  pub rival : Rival xs b ps
  pub least : (qs : List Step) → Rival xs b qs → length ps ≤ length qs
