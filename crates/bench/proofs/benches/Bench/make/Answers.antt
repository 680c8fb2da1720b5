use Rattle.std.proofs.Common.{ℕ, ap, ◌∙◌, inl, inr, arith}
use Rattle.std.proofs.lemmas.Bool.{cases_lt}
use Rattle.std.proofs.lemmas.Bool.Decides.{nat_tests}
use Rattle.machine.specs.declared.words.Word.{Word}
use Rattle.bench.specs.Cells.{cell_count}
use Rattle.bench.proofs.Words.{words_past}
use Rattle.bench.specs.Cells.{state_of, words}
use Rattle.bench.proofs.States.{opened}
use Rattle.bench.proofs.benches.Bench.make.Goals as goal

pub returns-clause-opened : goal.returns-clause-opened
returns-clause-opened g c =
    let r = c.wipe.ensures.words in
    record {
      kept = c.wipe.ensures.before;
      rest = λ s i from. ap (λ (w : ℕ → Word). w i) (r.cells s) ∙ elim (cases_lt i cell_count) [
        | inl l ↦ grind (arith, nat_tests)
        | inr l ↦ let past = words_past (λ d. g.W.WordKind.stands d s) c.args.cells.now i (omega (arith, c.requires)) in grind (arith, nat_tests, past)
      ];
      state = λ s. (λ i. state_of (r.cells s i) (r.turn i) (r.calls i) (r.routine i)) ∙ opened (words (λ d. g.W.WordKind.stands d s) c.args.cells.now);
      turn = r.turn;
      taken = r.taken;
    }
