use Rattle.std.proofs.Common.{◌≡◌, ◌-◌, length, refl, arith, rules}
use Rattle.std.proofs.lemmas.Fn.{chained_keeps}
use Rattle.std.proofs.lemmas.List.{length-take-le}
use Rattle.machine.specs.Words.{Start}
use Rattle.bench.proofs.Rewrites.{rewritten_cells}
use Rattle.bench.proofs.Words.{NoWords, no_words_more, words_wiped}
use Rattle.bench.proofs.benches.Bench.wipe.Goals as goal

pub returns-clause-words : goal.returns-clause-words
returns-clause-words g c =
    let area = c.args.area in
    let cells = c.fill_with.new.self in
    let unknown = c.unknown-unknown in
    -- the cells filled so far stand for unknown, and the closure still holds the same value
    let filled = λ (s : Start). chained_keeps _ (λ ys f. (f.0.now ≡ unknown.result) × NoWords (λ d. g.W.WordKind.stands d s) ys)
    (λ ys f y next kept made. let is : y ≡ unknown.result = search rules in (search rules, no_words_more _ ys y kept.1 (rw is (unknown.ensures s)))) _ _ _ (refl, λ k. refl) c.fill_with.ensures.ran.1 in
    let many : length cells ≡ area.end - area.start = grind (arith, length-take-le {A = g.row.W.Denot}) in
    rewritten_cells (λ s. words_wiped (λ d. g.W.WordKind.stands d s) c.args.self.now.cells.now cells area.start _ many (omega (arith, c.args.self.now.whole)) (filled s).1)
