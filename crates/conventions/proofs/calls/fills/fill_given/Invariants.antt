use Rattle.std.proofs.Common.{◌≡◌, ◌+◌, ◌≤◌, ◌++◌, length, take}
use Rattle.conventions.specs.Calls.{arguments_in, given_arguments}
use Rattle.conventions.specs.Conventions.{argument_limit}
use Rattle.conventions.proofs.calls.fills.fill_given.Given as goal

abbrev pub invariant-loop-i : goal.invariant-loop-i
invariant-loop-i g l = record {
  are : arguments_in l.arguments
      ≡ arguments_in l.initial.arguments ++ given_arguments (g.C.Convention.answers l.convention) 0 (take l.i l.sources);
  count : length (arguments_in l.arguments) ≡ length (arguments_in l.initial.arguments) + l.i;
  few : l.i ≤ argument_limit;
}
