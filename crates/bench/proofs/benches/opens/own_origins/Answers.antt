use Rattle.std.proofs.Common.{arith}
use Rattle.bench.proofs.Owning.{count_passed, own_cells}
use Rattle.bench.proofs.benches.opens.own_origins.Goals as goal

pub returns-clause-cells : goal.returns-clause-cells
returns-clause-cells c =
    let whole = count_passed _ c.in_ok-check.ensures in
    own_cells c.loop-r.registers c.loop-n.locals c.fill.new.self (omega arith) (omega arith) (λ k h. c.loop-r.invariant k (omega arith)) (λ k h. c.loop-n.invariant k (omega arith)) _ (c.fill.ensures.after (λ y same. same))
