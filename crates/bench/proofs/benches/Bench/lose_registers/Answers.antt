use Rattle.std.proofs.Common.{◌≡◌, ℕ, ◌<◌, ◌≤◌, false, length, sym, arith}
use Rattle.std.proofs.lemmas.Bool.Decides.{nat_tests}
use Rattle.machine.specs.Places.{holds}
use Rattle.machine.specs.States.{put}
use Rattle.machine.specs.declared.words.Word.TheVariants.{Unknown}
use Rattle.bench.proofs.Words.{lost_all, lost_more, lost_not, words_set}
use Rattle.bench.proofs.Rewrites.{rewritten_as, rewritten_cells, rewritten_then}
use Rattle.bench.proofs.benches.Bench.lose_registers.Goals as goal
use Rattle.bench.proofs.benches.Bench.lose_registers.Goals.{then-contains, else-contains}

pub loop-r-preserved : goal.loop-r-preserved
loop-r-preserved g c =
    let r = c.loop-r.r in
    let cells = c.loop-r.self.cells.now in
    let inside : r < length cells = omega (arith, c.loop-r.self.whole) in
    elim c.if-contains.branch [
      | then-contains w ↦
          let one = rewritten_cells {stands = g.W.WordKind.stands} {f = put r Unknown} {b = c.loop-r.self} (λ s. rw (words_set (λ d. g.W.WordKind.stands d s) cells r w.unknown.result inside, w.unknown.ensures s)) in
          rw w.self-is (rewritten_as (rewritten_then c.loop-r.invariant one) (λ v. lost_more _ v _ (sym w.if-contains.ensures)))
      | else-contains w ↦ rw w.self-is (rewritten_as c.loop-r.invariant (λ v. lost_not _ v _ (sym w.if-contains.ensures)))
    ]

pub returns : goal.returns
returns g c =
    let past : (k : ℕ) → c.loop-r.r ≤ k → holds c.args.lost.0 k ≡ false = λ k h. grind (arith, nat_tests) in
    rewritten_as c.loop-r.invariant (λ v. lost_all (holds c.args.lost.0) v c.loop-r.r past)
