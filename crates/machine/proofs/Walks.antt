-- A walk over a list of steps, one step further, and the turn that it leaves. Assumes nothing.
use Rattle.std.proofs.Common.{◌≡◌, ℕ, ◌+◌, ◌<◌, true, List, [], ◌∷◌, ◌++◌, length, get_or, drop, Ok, Err, ap, ◌∙◌, inl, inr, arith}
use Rattle.std.proofs.lemmas.List.{at_drop_more}
use Rattle.std.proofs.lemmas.Bool.{cases_Bool}
use Rattle.machine.specs.States.{State}
use Rattle.machine.specs.Effects.{effect, run}
use Rattle.machine.specs.Turns.{in_range, in_turn, moved, turn_after, walked}
use Rattle.machine.proofs.Runs.{effect_turn}
use Rattle.machine.specs.declared.refusals.Refusal.{Refusal}
use Rattle.machine.specs.declared.steps.Step.{Step}
use Rattle.machine.specs.declared.turns.Turn.{Turn}

pub walked_cons : (p : Step) (ps : List Step) (t u : Turn) → moved p t ≡ Ok u → walked (p ∷ ps) t ≡ walked ps u
walked_cons p ps t u e = cc

pub walked_more : (ps : List Step) (i : ℕ) (d : Step) (t u : Turn) → i < length ps → moved (get_or ps i d) t ≡ Ok u → walked (drop i ps) t ≡ walked (drop (i + 1) ps) u
walked_more ps i d t u h e =
    at_drop_more (λ qs. walked qs t) ps i d h ∙ walked_cons (get_or ps i d) (drop (i + 1) ps) t u e

walked_refused : (p : Step) (ps : List Step) (t : Turn) (f : Refusal) → moved p t ≡ Err f → walked (p ∷ ps) t ≡ Err f
walked_refused p ps t f e = cc

pub walked_stop : (ps : List Step) (i : ℕ) (d : Step) (t : Turn) (f : Refusal) → i < length ps → moved (get_or ps i d) t ≡ Err f → walked (drop i ps) t ≡ Err f
walked_stop ps i d t f h e =
    at_drop_more (λ qs. walked qs t) ps i d h ∙ walked_refused (get_or ps i d) (drop (i + 1) ps) t f e

-- a walk that goes through takes its first step
pub record Goes (p : Step) (ps : List Step) (t u : Turn) : Type 0 where
  pub in_its_range : in_range p t ≡ true
  pub in_its_turn : in_turn p t ≡ true
  pub rest : walked ps (turn_after p t) ≡ Ok u

pub goes : (p : Step) (ps : List Step) (t u : Turn) → walked (p ∷ ps) t ≡ Ok u → Goes p ps t u
goes p ps t u e =
    elim (cases_Bool (in_range p t)) [
      | inl r ↦ elim (cases_Bool (in_turn p t)) [
        | inl q ↦ record { in_its_range = r; in_its_turn = q; rest = grind (arith, e, r, q) }
        | inr q ↦ absurd (grind (arith, e, r, q))
      ]
      | inr r ↦ absurd (grind (arith, e, r))
    ]

pub run_turn : (ps : List Step) (σ : State) (u : Turn) → walked ps σ.turn ≡ Ok u → (run ps σ).turn ≡ u
run_turn [] σ u e = grind (arith, e)
run_turn (p ∷ ps) σ u e = run_turn ps (effect p σ) u (ap (walked ps) (effect_turn p σ) ∙ (goes p ps σ.turn u e).rest)

pub walked_append : (ps qs : List Step) (t u : Turn) → walked ps t ≡ Ok u → walked (ps ++ qs) t ≡ walked qs u
walked_append [] qs t u e = ap (walked qs) (grind (arith, e))
walked_append (p ∷ ps) qs t u e =
    let go = goes p ps t u e in
    let first : moved p t ≡ Ok (turn_after p t) = grind (arith, go.in_its_range, go.in_its_turn) in
    walked_cons p (ps ++ qs) t (turn_after p t) first ∙ walked_append ps qs (turn_after p t) u go.rest
