-- Rewritings: of some cells, said in another way, and one after another. Assumes nothing.
use Rattle.std.proofs.Common.{◌≡◌, ℕ, ◌≤◌, List, length, refl, ap, ◌∙◌}
use borrow.Rule.Slice.Mut.{set_vals}
use Rattle.machine.specs.Limits.{reserve_limit}
use Rattle.machine.specs.Turns.{held}
use Rattle.machine.specs.Words.{Start}
use Rattle.machine.specs.declared.words.Word.{Word}
use Rattle.bench.specs.Benches.{Rewritten}
use Rattle.bench.specs.Cells.{bench_steps, cell_count, words}
use Rattle.bench.specs.declared.benches.Bench.{Bench}

-- b with these cells, and with what every bench keeps
abbrev pub with_cells : {W : Type 0} (b : Bench W) (cells : List W) → length cells ≡ cell_count → held b.turn ≤ reserve_limit → b.taken ≤ bench_steps → b.calls ≤ b.taken → Bench W
with_cells b cells whole sized few counted = record {
  cells = set_vals cells b.cells;
  turn = b.turn;
  calls = b.calls;
  routine = b.routine;
  taken = b.taken;
  whole = whole;
  sized = sized;
  few = few;
  counted = counted;
}

module _ {W : Type 0} {stands : W → Start → Word} where
  pub rewritten_cells : {f : (ℕ → Word) → ℕ → Word} {b : Bench W} {cells : List W} {whole : length cells ≡ cell_count} {sized : held b.turn ≤ reserve_limit} {few : b.taken ≤ bench_steps} {counted : b.calls ≤ b.taken} → ((s : Start) → words (λ c. stands c s) cells ≡ f (words (λ c. stands c s) b.cells.now)) → Rewritten stands f b (with_cells b cells whole sized few counted)
  rewritten_cells e = record {
    cells = e;
    turn = refl;
    calls = refl;
    routine = refl;
    taken = refl;
    lent = refl;
  }

  -- the same rewriting said in another way
  pub rewritten_as : {f g : (ℕ → Word) → ℕ → Word} {a b : Bench W} → Rewritten stands f a b → ((w : ℕ → Word) → f w ≡ g w) → Rewritten stands g a b
  rewritten_as {a = a} r e = record {
    cells = λ s. r.cells s ∙ e (words (λ c. stands c s) a.cells.now);
    turn = r.turn;
    calls = r.calls;
    routine = r.routine;
    taken = r.taken;
    lent = r.lent;
  }

  pub rewritten_then : {f g : (ℕ → Word) → ℕ → Word} {a b c : Bench W} → Rewritten stands f a b → Rewritten stands g b c → Rewritten stands (λ w. g (f w)) a c
  rewritten_then {g = g} p q = record {
    cells = λ s. q.cells s ∙ ap g (p.cells s);
    turn = q.turn ∙ p.turn;
    calls = q.calls ∙ p.calls;
    routine = q.routine ∙ p.routine;
    taken = q.taken ∙ p.taken;
    lent = q.lent ∙ p.lent;
  }
