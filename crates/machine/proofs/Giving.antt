-- Giving a list whose walk is not refused, with room for all of it. Assumes nothing.
use Rattle.std.proofs.Common.{◌≡◌, ℕ, ◌+◌, ◌<◌, ◌≤◌, List, [], ◌∷◌, length, get_or, take, drop, Ok, Err, Result, sym, refl, ap, ◌∙◌, subst, arith, take_all}
use Rattle.std.proofs.lemmas.List.{at_drop_more, take_more}
use Rattle.std.proofs.lemmas.Bool.Decides.{nat_tests}
use Rattle.machine.specs.Turns.{verdict, walked}
use Rattle.machine.specs.Emitters.{Did, Gave, Meaning, Ran, Took}
use Rattle.machine.specs.declared.refusals.Refusal.{Refusal}
use Rattle.machine.specs.declared.refusals.Refusal.TheVariants.{NoRoom}
use Rattle.machine.specs.declared.steps.Step.{Step}
use Rattle.machine.specs.declared.turns.Turn.{Turn}
use Rattle.machine.proofs.Runs.{ran_join, ran_none, ran_turn}
use Rattle.machine.proofs.Walks.{Goes, goes}

-- a step that a walk takes is refused by no emitter with room
not_refused : (p : Step) (ps : List Step) (t u : Turn) (room : ℕ) → Goes p ps t u → 0 < room → verdict p t room ≡ Ok tt
not_refused p ps t u room go some = grind (arith, nat_tests, go.in_its_range, go.in_its_turn)

-- the first i of the steps have been given, from a to b, and the others go on
pub record Giving {E : Type 0} (m : Meaning E) (ps : List Step) (i : ℕ) (a b : E) : Type 0 where
  pub ran : Ran m (take i ps) a b
  pub last : Turn
  pub goes_on : walked (drop i ps) (m.turn b) ≡ Ok last

module _ {E : Type 0} (m : Meaning E) (ps : List Step) where
  giving_goes : (i : ℕ) (d : Step) (a b : E) (g : Giving m ps i a b) → i < length ps → Goes (get_or ps i d) (drop (i + 1) ps) (m.turn b) g.last
  giving_goes i d a b g h =
      goes (get_or ps i d) (drop (i + 1) ps) (m.turn b) g.last (sym (at_drop_more (λ qs. walked qs (m.turn b)) ps i d h) ∙ g.goes_on)

  -- the next step is taken where there is room
  pub giving_takes : (i : ℕ) (d : Step) (r : Result (Unit {0}) Refusal) (a b c : E) → Giving m ps i a b → i < length ps → 0 < m.room b → Took m (get_or ps i d) r b c → r ≡ Ok tt
  giving_takes i d r a b c g h some took =
      took.answer ∙ not_refused (get_or ps i d) (drop (i + 1) ps) (m.turn b) g.last (m.room b) (giving_goes i d a b g h) some

  pub giving_more : (i : ℕ) (d : Step) (r : Result (Unit {0}) Refusal) (a b c : E) → Giving m ps i a b → i < length ps → 0 < m.room b → Took m (get_or ps i d) r b c → Giving m ps (i + 1) a c × (m.room b ≤ m.room c + 1)
  giving_more i d r a b c g h some took =
      let one : Ran m (get_or ps i d ∷ []) b c = subst (λ r'. Did m (get_or ps i d ∷ []) r' b c) (giving_takes i d r a b c g h some took) took.did in (
        record {
          ran = subst (λ qs. Ran m qs a c) (sym (take_more ps i d h)) (ran_join m (take i ps) (get_or ps i d ∷ []) a b c g.ran one);
          last = g.last;
          goes_on = ap (walked (drop (i + 1) ps)) (ran_turn m (get_or ps i d) b c one) ∙ (giving_goes i d a b g h).rest;
        },
        one.room_left,
      )

  pub giving_all : (i : ℕ) (a b : E) → Giving m ps i a b → length ps ≤ i → Ran m ps a b
  giving_all i a b g h = subst (λ qs. Ran m qs a b) (take_all i ps h) g.ran

  -- a is the emitter as it came, and t the turn that it told
  module _ (a : E) (t : Turn) (told : t ≡ m.turn a) where
    pub gave_refused : (f : Refusal) → Err f ≡ walked ps t → Gave m ps (Err f) a a
    gave_refused f e = record { answer = grind (arith, e, told); did = refl }

    module _ (u : Turn) (walks : Ok u ≡ walked ps t) where
      pub gave_no_room : m.room a < length ps → Gave m ps (Err NoRoom) a a
      gave_no_room room = record { answer = grind (arith, nat_tests, walks, told, room); did = refl }

      pub giving_none : Giving m ps 0 a a
      giving_none = record { ran = ran_none m a; last = u; goes_on = cc (walks, told) }

      pub gave_all : (i : ℕ) (b : E) → Giving m ps i a b → length ps ≤ i → length ps ≤ m.room a → Gave m ps (Ok tt) a b
      gave_all i b g h room = record {
        answer = grind (arith, nat_tests, walks, told, room);
        did = giving_all i a b g h;
      }
