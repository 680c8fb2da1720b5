-- Runs joined end to end, and the turn that a run leaves. Assumes nothing.
use Rattle.std.proofs.Common.{◌≡◌, List, [], ◌∷◌, ◌++◌, sym, refl, ap, ◌∙◌, arith, length-append}
use Rattle.machine.specs.Words.{Start}
use Rattle.machine.specs.States.{State, blank}
use Rattle.machine.specs.Turns.{turn_after}
use Rattle.machine.specs.Effects.{effect, run}
use Rattle.machine.specs.Emitters.{Meaning, Ran}
use Rattle.machine.specs.declared.steps.Step.{Step}
use Rattle.machine.specs.declared.steps.Step.TheVariants.{Copy, Set, Fetch, Back, Store, Keep, Reserve, Call, Pop}

pub run_append : (ps qs : List Step) (σ : State) → run (ps ++ qs) σ ≡ run qs (run ps σ)
run_append [] qs σ = refl
run_append (p ∷ ps) qs σ = run_append ps qs (effect p σ)

pub effect_turn : (p : Step) (σ : State) → (effect p σ).turn ≡ turn_after p σ.turn
effect_turn (Copy d s) σ = refl
effect_turn (Set d k) σ = refl
effect_turn (Fetch d n) σ = refl
effect_turn (Back d o) σ = refl
effect_turn (Store o s) σ = refl
effect_turn (Keep n s) σ = refl
effect_turn (Reserve b) σ = refl
effect_turn (Call r m) σ = refl
effect_turn (Pop b) σ = refl

-- any start will do where one is wanted
some_start : Start
some_start = record { register = blank; local = blank }

module _ {E : Type 0} (m : Meaning E) where
  pub ran_none : (a : E) → Ran m [] a a
  ran_none a = record {
    state = λ s. refl;
    taken = omega arith;
    room_left = omega arith;
    gains = m.gains_none a;
  }

  pub ran_join : (ps qs : List Step) (a b c : E) → Ran m ps a b → Ran m qs b c → Ran m (ps ++ qs) a c
  ran_join ps qs a b c front back = record {
    state = λ s. back.state s ∙ ap (run qs) (front.state s) ∙ sym (run_append ps qs (m.state a s));
    taken = omega (arith, length-append ps qs, front.taken, back.taken);
    room_left = omega (arith, length-append ps qs, front.room_left, back.room_left);
    gains = m.gains_more a b c ps qs front.gains back.gains;
  }

  pub ran_turn : (p : Step) (a b : E) → Ran m (p ∷ []) a b → m.turn b ≡ turn_after p (m.turn a)
  ran_turn p a b ran =
      sym (m.one_turn b some_start) ∙ ap (λ (σ : State). σ.turn) (ran.state some_start)
      ∙ effect_turn p (m.state a some_start) ∙ ap (turn_after p) (m.one_turn a some_start)
