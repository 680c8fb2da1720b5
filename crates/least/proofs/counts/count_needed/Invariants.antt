use Rattle.std.proofs.Common.{◌≡◌, ◌+◌, ◌≤◌, drop}
use Rattle.least.specs.Counts.{needed}
use Rattle.least.proofs.counts.count_needed.Given as goal

-- those counted and those still to be counted are all
abbrev pub invariant-loop-i : goal.invariant-loop-i
invariant-loop-i l = (l.count + needed (drop l.i l.arguments) ≡ needed l.arguments) × (l.count ≤ l.i)
