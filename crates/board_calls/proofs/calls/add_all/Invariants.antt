use Rattle.std.proofs.Common.{◌≡◌, ◌++◌, take}
use Rattle.conventions.specs.Lists.{listed}
use Rattle.board_calls.proofs.calls.add_all.Given as goal

abbrev pub invariant-loop-source : goal.invariant-loop-source
invariant-loop-source l = listed l.list ≡ listed l.initial.list ++ take l.source-index l.sources
