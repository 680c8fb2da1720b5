use Rattle.std.proofs.Common.{[], ◌∷◌, ◌++◌, Some, sym, ap, ◌∙◌, append-nil}
use Rattle.conventions.specs.Arguments.{in_register}
use Rattle.order.specs.Tables.{fill, given, next_table, turned}
use Rattle.moves.specs.Lists.{moves_in}
use Rattle.moves.specs.Tables.{choice_in, table_in}
use Rattle.moves.proofs.pendings.PendingMoves.carry_out.Goals as goal

pub returns-in-Take : goal.returns-in-Take
returns-in-Take c =
    let t = table_in c.args.self.now in
    let d = c.in-Take.register.0 in
    let source = c.source-source.ensures in
    record {
      table = c.turn.ensures ∙ ap (λ p. turned p (in_register d) t) source ∙ sym (ap (λ k. next_table c.args.scratch.0 (choice_in (Some k)) t) c.in-Take.is);
      moves =
          c.push.ensures ∙ ap (λ p. moves_in c.args.moves.now ++ (p ∷ [])) (c.fill.ensures ∙ ap (fill d) source)
          ∙ sym (ap (λ k. moves_in c.args.moves.now ++ given c.args.scratch.0 (choice_in (Some k)) t) c.in-Take.is);
    }

pub returns-in-Reload : goal.returns-in-Reload
returns-in-Reload c =
    let t = table_in c.args.self.now in
    record {
      table = c.turn-in-Reload.ensures ∙ sym (ap (λ k. next_table c.args.scratch.0 (choice_in (Some k)) t) c.in-Reload.is);
      moves =
          sym (append-nil (moves_in c.args.moves.now))
          ∙ sym (ap (λ k. moves_in c.args.moves.now ++ given c.args.scratch.0 (choice_in (Some k)) t) c.in-Reload.is);
    }

pub returns-in-Spill : goal.returns-in-Spill
returns-in-Spill c =
    let t = table_in c.args.self.now in
    record {
      table = c.turn-in-Spill.ensures ∙ sym (ap (λ k. next_table c.args.scratch.0 (choice_in (Some k)) t) c.in-Spill.is);
      moves =
          c.push-in-Spill.ensures ∙ ap (λ p. moves_in c.args.moves.now ++ (p ∷ [])) c.fill-in-Spill.ensures
          ∙ sym (ap (λ k. moves_in c.args.moves.now ++ given c.args.scratch.0 (choice_in (Some k)) t) c.in-Spill.is);
    }
