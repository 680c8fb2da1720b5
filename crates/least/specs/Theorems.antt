-- What is proved of the least number of moves. Assumes nothing.
use Rattle.std.specs.Prelude.{ℕ, ◌+◌, ◌≤◌, List, length}
use Rattle.machine.specs.declared.steps.Step.{Step}
use Rattle.conventions.specs.Arguments.{Arranged}
use Rattle.conventions.specs.declared.arguments.Argument.{Argument}
use Rattle.least.specs.Counts.{Rings, Values, needed}
use Rattle.least.specs.Rivals.{Rival}

-- no rival has fewer than N + C + M moves
abbrev pub NoFewer : Type 0
NoFewer =
    (xs : List Argument) (scratch slots b c m : ℕ) → Arranged xs scratch slots → Rings xs c → Values xs m → (ps : List Step) → Rival xs b ps → needed xs + c + m ≤ length ps
