-- Sources spread for one slot after the other. Assumes nothing.
use Rattle.std.proofs.Common.{◌≡◌, ℕ, ◌+◌, ◌<◌, ◌≤◌, List, [], ◌∷◌, ◌++◌, length, Some, None, Option, sym, refl, ap, ◌∙◌, inl, inr, append-nil, arith, length-append}
use Rattle.std.proofs.lemmas.Bool.{cases_Bool}
use Rattle.machine.specs.declared.steps.Step.{Step}
use Rattle.conventions.specs.declared.arguments.Source.{Source}
use Rattle.order.specs.Indices.{each}
use Rattle.order.specs.Order.{spread, spread_value, spreads}
use Rattle.order.specs.Wants.{Wants}
use Rattle.moves.specs.Parts.{spread_steps}
use Rattle.moves.proofs.Adding.{adding_more, adding_none, adding_room, each_next}

-- the slot spreads this source
spread_is : (w : Wants) (scratch o : ℕ) (s : Source) (want : Option Source) → s ∷ [] ≡ spread_value w o want → spread_steps w scratch s ≡ spread w scratch o want
spread_is w scratch o s None e = absurd (grind (arith, ap length e))
spread_is w scratch o s (Some v) e =
    elim (cases_Bool (spreads w o v)) [
      | inl yes' ↦ let same : s ≡ v = grind (arith, e, yes') in ap (spread_steps w scratch) same ∙ grind (arith, yes')
      | inr no' ↦ absurd (grind (arith, ap length e, no'))
    ]

-- the slot spreads nothing
spread_none : (w : Wants) (scratch o : ℕ) (want : Option Source) → [] ≡ spread_value w o want → [] ≡ spread w scratch o want
spread_none w scratch o None e = refl
spread_none w scratch o (Some v) e =
    elim (cases_Bool (spreads w o v)) [
      | inl yes' ↦ absurd (grind (arith, ap length e, yes'))
      | inr no' ↦ grind (arith, no')
    ]

module _ (w : Wants) (scratch : ℕ) (before : List Step) where
  abbrev steps_at : ℕ → List Step
  steps_at o = spread w scratch o (w.outgoing o)

  abbrev values_at : ℕ → List Source
  values_at o = spread_value w o (w.outgoing o)

  -- the slots below i have spread their sources
  pub record Spreading (i : ℕ) (now : List Step) (r : ℕ) : Type 0 where
    pub moves : now ≡ before ++ each steps_at i
    pub values : r ≡ length (each values_at i)
    pub few : r ≤ i

  pub spreading_none : Spreading 0 before 0
  unfolding each
  spreading_none = record { moves = adding_none steps_at before; values = refl; few = omega arith }

  module _ (i : ℕ) (now : List Step) (r : ℕ) (so : Spreading i now r) where
    pub spreading_pass : [] ≡ values_at i → Spreading (i + 1) now r
    spreading_pass none = record {
      moves = adding_more steps_at before i now [] now so.moves (spread_none w scratch i (w.outgoing i) none) (sym (append-nil now));
      values =
          let all = length-append (each values_at i) (values_at i) in
          let next = ap length (each_next values_at i) in
          omega (arith, ap length none, so.values);
      few = omega (arith, so.few);
    }

    pub spreading_more : (s : Source) (after : List Step) → s ∷ [] ≡ values_at i → after ≡ now ++ spread_steps w scratch s → Spreading (i + 1) after (r + 1)
    spreading_more s after is e = record {
      moves = adding_more steps_at before i now (spread_steps w scratch s) after so.moves (spread_is w scratch i s (w.outgoing i) is) e;
      values =
          let all = length-append (each values_at i) (values_at i) in
          let next = ap length (each_next values_at i) in
          omega (arith, ap length is, so.values);
      few = omega (arith, so.few);
    }

    pub spreading_room : (n limit : ℕ) (s : Source) → i < n → s ∷ [] ≡ values_at i → length before + length (each steps_at n) ≤ limit → length now + length (spread_steps w scratch s) ≤ limit
    spreading_room n limit s h is room =
        adding_room steps_at before n i limit now (spread_steps w scratch s) h so.moves (spread_is w scratch i s (w.outgoing i) is) room
