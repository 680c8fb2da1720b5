use Rattle.std.proofs.Common.{arith}
use Rattle.std.proofs.lemmas.Grind.{common_steps}
use Rattle.conventions.proofs.Filling.{given_more}
use Rattle.conventions.proofs.calls.fills.fill_given.Goals as goal

pub loop-i-preserved : goal.loop-i-preserved
loop-i-preserved g c =
    record {
      are = given_more (g.C.Convention.answers c.args.convention.now) _ _ _ c.args.sources.now c.loop-i.i
          _ _ c.in_ok-push.ensures.ok c.loop-i-test.true c.place.ensures c.loop-i.invariant.are;
      count = grind (arith, common_steps);
      few = grind (arith, common_steps);
    }
