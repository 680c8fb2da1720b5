use Rattle.machine.specs.Limits.{outgoing_slots}
use Rattle.moves.specs.Limits.{move_limit}
use Rattle.moves.specs.Lists.{moves_in}
use Rattle.moves.specs.Wants.{wants_in}
use Rattle.moves.proofs.Spreading.{spreading_more, spreading_none, spreading_pass, spreading_room}
use Rattle.moves.proofs.wants.Wants.spread_values.Goals as goal
use Rattle.moves.proofs.wants.Wants.spread_values.Goals.{in-Some, in_default}

pub loop-o-init : goal.loop-o-init
loop-o-init c = spreading_none (wants_in c.args.self.now) c.args.self.now.scratch.0 (moves_in c.args.moves.now)

pub spread-requires : goal.spread-requires
spread-requires c =
    spreading_room (wants_in c.args.self.now) c.args.self.now.scratch.0 (moves_in c.args.moves.now) c.loop-o.o (moves_in c.loop-o.moves) c.loop-o.values c.loop-o.invariant
    outgoing_slots move_limit c.in-Some.source c.loop-o-test.true c.in-Some.ensures c.requires

pub loop-o-preserved : goal.loop-o-preserved
loop-o-preserved c =
    let w = wants_in c.args.self.now in
    let before = moves_in c.args.moves.now in
    elim c.match-spread_from.branch [
      | in-Some way ↦
          rw (way.moves-is, way.values-is)
          (spreading_more w c.args.self.now.scratch.0 before c.loop-o.o (moves_in c.loop-o.moves) c.loop-o.values c.loop-o.invariant way.in-Some.source _ way.in-Some.ensures way.spread.ensures)
      | in_default way ↦
          rw (way.moves-is, way.values-is)
          (spreading_pass w c.args.self.now.scratch.0 before c.loop-o.o (moves_in c.loop-o.moves) c.loop-o.values c.loop-o.invariant way.in_default.ensures)
    ]
