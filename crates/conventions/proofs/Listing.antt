-- The sources of an argument list: in range, and few. Assumes nothing.
use Rattle.std.proofs.Common.{◌≡◌, ◌≤◌, true, length}
use Rattle.std.proofs.lemmas.List.Elements.{recursion_from_All}
use Rattle.std.specs.List.{AllByRecursion}
use Rattle.bounded_lists.proofs.Bounds.{length-items}
use Rattle.conventions.specs.Arguments.{source_in_range}
use Rattle.conventions.specs.Calls.{arguments_in}
use Rattle.conventions.specs.Conventions.{argument_limit}
use Rattle.conventions.specs.Lists.{listed}
use Rattle.conventions.specs.declared.calls.Arguments.{Arguments}
use Rattle.conventions.specs.declared.lists.ArgumentList.{ArgumentList}

pub listed_few : (l : ArgumentList) → length (listed l) ≤ argument_limit
listed_few l = length-items l.sources

pub arguments_few : (t : Arguments) → length (arguments_in t) ≤ argument_limit
arguments_few t = length-items t.entries

pub listed_in_range : (l : ArgumentList) → AllByRecursion (λ s. source_in_range s ≡ true) (listed l)
listed_in_range l = recursion_from_All (λ s. source_in_range s ≡ true) (listed l) l.ranged
