use Rattle.std.proofs.Common.{arith}
use Rattle.bench.proofs.Rewrites.{rewritten_cells}
use Rattle.bench.proofs.Words.{words_copied}
use Rattle.bench.proofs.benches.Bench.copy_area.Goals as goal

pub returns : goal.returns
returns g c =
    let whole = c.args.self.now.whole in
    rewritten_cells (λ s. rw c.copy_within.ensures.after (words_copied (λ d. g.W.WordKind.stands d s) c.args.self.now.cells.now _ _ _ c.args.area.ordered (omega (arith, whole, c.args.area.inside)) (omega (arith, whole))))
