use Rattle.std.proofs.Common.{◌≡◌, ℕ, List, ◌++◌}
use Rattle.machine.specs.declared.steps.Step.{Step}
use Rattle.order.specs.Indices.{each}
use Rattle.moves.specs.Lists.{Gives, moves_in}
use Rattle.moves.proofs.lists.MoveList.push_each.Given as goal

-- what f says of the numbers below i was added
abbrev pub invariant-loop-i : goal.invariant-loop-i
invariant-loop-i g l = (f : ℕ → List Step) → Gives (goal.F-post g l.give) l.end f → moves_in l.self ≡ moves_in l.initial.self ++ each f l.i
