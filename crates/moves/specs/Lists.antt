-- The moves that a list holds. Assumes nothing.
use Rattle.std.specs.Prelude.{◌≡◌, ℕ, ◌+◌, ◌<◌, ◌≤◌, List, [], ◌∷◌, ◌++◌, length, Some, None, Option}
use Rattle.bounded_lists.specs.Lists.{items}
use Rattle.machine.specs.declared.steps.Step.{Step}
use Rattle.moves.specs.Limits.{move_limit}
use Rattle.moves.specs.declared.lists.MoveList.{MoveList}

abbrev pub moves_in : MoveList → List Step
moves_in l = items l.steps

-- there is room for these steps behind those listed
abbrev pub HasRoom : MoveList → List Step → Type 0
HasRoom l ps = length (moves_in l) + length ps ≤ move_limit

-- these steps were added at the end, and nothing else was done
abbrev pub Adds : List Step → MoveList → MoveList → Type 0
Adds ps a b = moves_in b ≡ moves_in a ++ ps

-- what there is, as a list
abbrev pub optional : {A : Type 0} → Option A → List A
optional None = []
optional (Some x) = x ∷ []

-- at each number below n the answers are those of f, whatever the call that gave them
abbrev pub Gives : (ℕ → Option Step → Type 0) → ℕ → (ℕ → List Step) → Type 0
Gives answers n f = (i : ℕ) (r : Option Step) → i < n → answers i r → optional r ≡ f i
