use Rattle.std.proofs.Common.{arith}
use Rattle.bench.proofs.benches.Bench.run.Goals as goal

pub returns : goal.returns
returns g c = record {
  state = λ s. rw c.requires.next (c.act.ensures.state s);
  taken = c.act.ensures.taken;
  room_left = omega (arith, c.act.ensures.taken, c.requires.room);
  gains = c.act.ensures.lent;
}
