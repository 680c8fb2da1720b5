use Rattle.std.proofs.Common.{◌≡◌, ◌-◌, true, eqb, length, sym, ap, ◌∙◌, arith}
use Rattle.std.proofs.lemmas.Option.{MatchOption-at_some}
use Rattle.std.proofs.lemmas.Result.{err_from_is_err_and}
use Rattle.std.proofs.lemmas.Bool.{cond-true}
use Rattle.std.proofs.lemmas.Bool.Decides.{nat_tests}
use Rattle.machine.specs.Words.{Start}
use Rattle.machine.specs.States.{State}
use Rattle.machine.specs.Effects.{run}
use Rattle.machine.specs.Emitters.{list_verdict}
use Rattle.bench.specs.Benches.{bench_meaning}
use Rattle.bench.specs.Cells.{bench_steps, cell_count, loaded, words}
use Rattle.slip.specs.Seeing.{first_speed, second_speed}
use Rattle.slip.proofs.wheels.see.Goals as goal

pub returns-in_err-give : goal.returns-in_err-give
returns-in_err-give g c =
    let p = err_from_is_err_and c.from_residual-in_err-give.result c.from_residual-in_err-give.ensures.1 in
    let opened = c.make-bench.ensures.opened in
    let passed = c.in_ok-check.ensures in
    let whole : eqb (length c.args.cells.now) cell_count ≡ true = grind (arith, nat_tests, passed) in
    rw (p.1, p.2)
    (cond-true _ _ _ whole
    ∙ (λ i. list_verdict c.args.steps.now (sym opened.turn i) (bench_steps - sym opened.taken i))
    ∙ sym c.in_err-give.ensures.answer)

pub returns : goal.returns
returns g c =
    let stands = g.W.WordKind.stands in
    let ran = c.in_ok-give.ensures.did in
    let opened = c.make-bench.ensures.opened in
    let after : (s : Start) → (bench_meaning stands).state c.give.new.emitter s ≡ run c.args.steps.now (loaded (words (λ d. stands d s) c.args.cells.now)) =
    λ s. ran.state s ∙ ap (run c.args.steps.now) (opened.state s) in
    let first = MatchOption-at_some _ _ _ c.unwrap.ensures c.seen_register.ensures in
    let second = MatchOption-at_some _ _ _ c.unwrap-2.ensures c.seen_register-2.ensures in
    record {
      routine = λ s. c.seen_routine.ensures s ∙ ap (λ (σ : State). σ.seen.routine) (after s);
      first = λ s. first.1 s ∙ ap (λ (σ : State). σ.seen.register first_speed) (after s);
      second = λ s. second.1 s ∙ ap (λ (σ : State). σ.seen.register second_speed) (after s);
    }
