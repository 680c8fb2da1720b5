use Rattle.std.proofs.Common.{ap, ◌∙◌}
use Rattle.moves.specs.Lists.{moves_in}
use Rattle.board_calls.specs.Calls.{call_steps}
use Rattle.board_calls.proofs.calls.exchange_steps.Goals as goal

pub returns : goal.returns
returns g c =
    record {
      sources = c.in_ok-sources.sources;
      plan = c.in_ok-plan.plan;
      moves = c.plan.new.moves;
      exchanged = c.in_ok-sources.ensures;
      accepted = c.in_ok-plan.ensures;
      are = c.in_ok-call_steps.ensures ∙ ap (call_steps c.in_ok-plan.plan.bytes (moves_in c.plan.new.moves) c.args.routine) c.lost.ensures;
    }
