use Rattle.std.proofs.Common.{refl}
use Rattle.tape.proofs.Writing.{done_ran, done_sound, done_within}
use Rattle.tape.proofs.tapes.Tape.write.Goals as goal

pub invariant_of-self : goal.invariant_of-self
invariant_of-self c =
    let sound = done_sound c.args.self.now c.args.step c.args.next _ _ _ c.from-command.ensures c.size.ensures c.write.ensures c.requires.goes c.requires.room in
    record {
      within = done_within c.args.self.now c.args.step c.args.next _ _ _ c.from-command.ensures c.size.ensures c.write.ensures c.requires.goes c.requires.room;
      whole = sound.whole;
      fit = sound.fit;
      walks = sound.walks;
    }

pub returns : goal.returns
returns c =
    done_ran c.args.self.now c.args.step c.args.next _ _ _ c.from-command.ensures c.size.ensures c.write.ensures c.requires.goes c.requires.room _ refl refl refl
