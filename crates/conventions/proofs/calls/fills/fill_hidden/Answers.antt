use Rattle.std.proofs.Common.{arith}
use Rattle.std.proofs.lemmas.Grind.{common_steps}
use Rattle.conventions.proofs.Filling.{hidden_more, hidden_none}
use Rattle.conventions.proofs.calls.fills.fill_hidden.Goals as goal

pub loop-i-init : goal.loop-i-init
loop-i-init g c = record { are = hidden_none (g.C.Convention.answers c.args.convention.now) _; count = omega arith }

pub loop-i-preserved : goal.loop-i-preserved
loop-i-preserved g c =
    record {
      are = hidden_more (g.C.Convention.answers c.args.convention.now) _ _ _ c.loop-i.i
          _ _ c.in_ok-push.ensures.ok c.hidden_place.ensures c.hidden_source.ensures c.loop-i.invariant.are;
      count = grind (arith, common_steps);
    }
