use Rattle.std.proofs.Common.{sym}
use Rattle.moves.specs.Tables.{table_in}
use Rattle.moves.proofs.Marking.{marked_more, marked_none, marked_pass, named_there}
use Rattle.moves.proofs.pendings.PendingMoves.read_registers.Goals as goal
use Rattle.moves.proofs.pendings.PendingMoves.read_registers.Goals.{in-Some, in_default}

pub loop-e-init : goal.loop-e-init
loop-e-init c = marked_none (table_in c.args.self.now)

pub loop-e-preserved : goal.loop-e-preserved
loop-e-preserved c =
    let t = table_in c.args.self.now in
    elim c.match-read_by.branch [
      | in-Some way ↦
          let named = sym way.in-Some.ensures in
          rw way.read-is (marked_more t c.loop-e.e c.loop-e.read c.loop-e.invariant way.in-Some.register.0 named (named_there c.loop-e.e _ (t c.loop-e.e) named))
      | in_default way ↦ rw way.read-is (marked_pass t c.loop-e.e c.loop-e.read c.loop-e.invariant (sym way.in_default.ensures))
    ]
