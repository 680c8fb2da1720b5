use Rattle.std.proofs.Common.{◌≡◌, ◌+◌, ◌++◌, length}
use Rattle.conventions.specs.Calls.{arguments_in, hidden_arguments}
use Rattle.conventions.proofs.calls.fills.fill_hidden.Given as goal

abbrev pub invariant-loop-i : goal.invariant-loop-i
invariant-loop-i g l = record {
  are : arguments_in l.arguments ≡ arguments_in l.initial.arguments ++ hidden_arguments (g.C.Convention.answers l.convention) l.i;
  count : length (arguments_in l.arguments) ≡ length (arguments_in l.initial.arguments) + l.i;
}
