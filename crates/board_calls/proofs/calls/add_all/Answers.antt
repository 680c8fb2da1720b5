use Rattle.std.proofs.Common.{arith}
use Rattle.conventions.specs.Lists.{listed}
use Rattle.conventions.specs.declared.arguments.Source.TheVariants.{Number}
use Rattle.board_calls.proofs.Adding.{added_all, added_more}
use Rattle.board_calls.proofs.calls.add_all.Goals as goal

pub loop-source-preserved : goal.loop-source-preserved
loop-source-preserved c =
    added_more c.args.sources.now (listed c.args.list.now) (listed c.loop-source.list) c.loop-source.source-index
    (listed c.add.new.self) (Number 0) c.loop-source-test.true c.loop-source.invariant c.in_ok-add.ensures.did

pub returns : goal.returns
returns c =
    added_all c.args.sources.now (listed c.args.list.now) (listed c.loop-source.list) c.loop-source.source-index
    (omega arith) c.loop-source.invariant
