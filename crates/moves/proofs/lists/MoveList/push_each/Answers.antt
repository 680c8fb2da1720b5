use Rattle.moves.specs.Limits.{move_limit}
use Rattle.moves.specs.Lists.{moves_in, optional}
use Rattle.moves.proofs.Adding.{adding_more, adding_none, adding_room}
use Rattle.moves.proofs.lists.MoveList.push_each.Goals as goal

pub loop-i-init : goal.loop-i-init
loop-i-init g c = λ f gives. adding_none f (moves_in c.args.self.now)

pub push_some-requires : goal.push_some-requires
push_some-requires g c =
    let room = c.requires.room in
    adding_room room.0 (moves_in c.args.self.now) c.args.end c.loop-i.i move_limit (moves_in c.loop-i.self) (optional c.give.result)
    c.loop-i-test.true (c.loop-i.invariant room.0 room.1) (room.1 c.loop-i.i c.give.result c.loop-i-test.true c.give.ensures) room.2

pub loop-i-preserved : goal.loop-i-preserved
loop-i-preserved g c = λ f gives.
    adding_more f (moves_in c.args.self.now) c.loop-i.i (moves_in c.loop-i.self) (optional c.give.result) (moves_in c.push_some.new.self)
    (c.loop-i.invariant f gives) (gives c.loop-i.i c.give.result c.loop-i-test.true c.give.ensures) c.push_some.ensures
