use Rattle.std.proofs.Common.{ℕ, ap, rules, tests, arith}
use Rattle.std.proofs.lemmas.List.{get_or_past}
use Rattle.machine.specs.Limits.{registers}
use Rattle.order.specs.Tables.{opening_table, pending_source}
use Rattle.moves.specs.Wants.{wants_in}
use Rattle.moves.specs.declared.pendings.PendingMove.{PendingMove}
use Rattle.moves.proofs.Entries.{made_at, table_made}
use Rattle.moves.proofs.pendings.PendingMoves.of.Goals as goal

pub returns : goal.returns
returns c =
    let t = opening_table (wants_in c.args.wants.now) in
    let entry : ℕ → PendingMove = λ r. record { from = t r } in
    table_made c.from_fn.result t (λ e below. made_at _ entry registers (λ x y q small called. search (rules, tests)) c.from_fn.result e _ c.from_fn.ensures.items below)
    (λ e past. ap (pending_source e) (get_or_past c.args.wants.now.by_register e _ (omega arith)))
