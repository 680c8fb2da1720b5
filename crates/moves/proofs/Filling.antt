-- The wants of arguments, filled in from the last to the first. Assumes nothing.
use Rattle.std.proofs.Common.{◌≡◌, ℕ, zero, suc, ◌<◌, true, false, List, [], ◌∷◌, ◌++◌, length, get_or, set, replicate, Some, None, Option, sym, refl, ap, ◌∙◌, subst, inl, inr, append_assoc, append-nil, arith, length-set}
use Rattle.std.proofs.lemmas.List.{get_or-set_other, get_or-set_same}
use Rattle.std.proofs.lemmas.Bool.{cases_eq, ltb-true}
use Rattle.std.proofs.lemmas.Bool.Decides.{nat_tests}
use Rattle.std.specs.List.{AllByRecursion}
use Rattle.machine.specs.Limits.{outgoing_slots, registers}
use Rattle.machine.specs.declared.places.OutgoingSlot.{OutgoingSlot}
use Rattle.machine.specs.declared.places.Register.{Register as NumberOf}
use Rattle.conventions.specs.Arguments.{in_register, in_slot, place_in_range, same_place, source_at}
use Rattle.conventions.specs.declared.arguments.Argument.{Argument}
use Rattle.conventions.specs.declared.arguments.Place.{Place}
use Rattle.conventions.specs.declared.arguments.Place.TheVariants.{Register, Outgoing}
use Rattle.conventions.specs.declared.arguments.Source.{Source}
use Rattle.order.specs.Wants.{Wants, wants}

-- the wants of these arguments
pub record Filling (done : List Argument) (rs os : List (Option Source)) : Type 0 where
  pub registers_filled : (r : ℕ) → get_or rs r None ≡ source_at done (in_register r)
  pub slots_filled : (o : ℕ) → get_or os o None ≡ source_at done (in_slot o)
  pub all_registers : length rs ≡ registers
  pub all_slots : length os ≡ outgoing_slots

nothing : (n k : ℕ) → get_or {A = Option Source} (replicate n None) k None ≡ None
nothing zero k = refl
nothing (suc n) zero = refl
nothing (suc n) (suc k) = nothing n k

pub filling_none : Filling [] (replicate registers None) (replicate outgoing_slots None)
filling_none = record {
  registers_filled = nothing registers;
  slots_filled = nothing outgoing_slots;
  all_registers = refl;
  all_slots = refl;
}

module _ (a : Argument) (done : List Argument) (rs os : List (Option Source)) (later : Filling done rs os) where
  passed : (p : Place) → same_place a.place p ≡ false → source_at (a ∷ done) p ≡ source_at done p
  passed p h = grind (arith, h)

  here : (p : Place) → same_place a.place p ≡ true → source_at (a ∷ done) p ≡ Some a.source
  here p h = grind (arith, h)

  -- one argument more, in front
  pub filling_register : (q : NumberOf) → a.place ≡ Register q → q.0 < registers → Filling (a ∷ done) (set rs q.0 (Some a.source)) os
  filling_register q at low = record {
    registers_filled = λ r. elim (cases_eq r q.0) [
      | inl same ↦
          let there : q.0 < length rs = omega (arith, later.all_registers) in
          ap (λ k. get_or (set rs q.0 (Some a.source)) k None) same ∙ get_or-set_same rs q.0 (Some a.source) None there
          ∙ sym (here (in_register r) (ap (λ p. same_place p (in_register r)) at ∙ grind (arith, nat_tests, same)))
      | inr other ↦
          get_or-set_other rs q.0 r (Some a.source) None other ∙ later.registers_filled r
          ∙ sym (passed (in_register r) (ap (λ p. same_place p (in_register r)) at ∙ grind (arith, nat_tests, other)))
    ];
    slots_filled = λ o. later.slots_filled o ∙ sym (passed (in_slot o) (ap (λ p. same_place p (in_slot o)) at));
    all_registers = simp length-set later.all_registers;
    all_slots = later.all_slots;
  }

  pub filling_slot : (q : OutgoingSlot) → a.place ≡ Outgoing q → q.0 < outgoing_slots → Filling (a ∷ done) rs (set os q.0 (Some a.source))
  filling_slot q at low = record {
    registers_filled = λ r. later.registers_filled r ∙ sym (passed (in_register r) (ap (λ p. same_place p (in_register r)) at));
    slots_filled = λ o. elim (cases_eq o q.0) [
      | inl same ↦
          let there : q.0 < length os = omega (arith, later.all_slots) in
          ap (λ k. get_or (set os q.0 (Some a.source)) k None) same ∙ get_or-set_same os q.0 (Some a.source) None there
          ∙ sym (here (in_slot o) (ap (λ p. same_place p (in_slot o)) at ∙ grind (arith, nat_tests, same)))
      | inr other ↦
          get_or-set_other os q.0 o (Some a.source) None other ∙ later.slots_filled o
          ∙ sym (passed (in_slot o) (ap (λ p. same_place p (in_slot o)) at ∙ grind (arith, nat_tests, other)))
    ];
    all_registers = later.all_registers;
    all_slots = simp length-set later.all_slots;
  }

-- the place of an argument is in the tables
abbrev pub Placed : Argument → Type 0
Placed a = place_in_range outgoing_slots a.place ≡ true

all_front : (xs ys : List Argument) → AllByRecursion Placed (xs ++ ys) → AllByRecursion Placed xs
all_front [] ys all = tt
all_front (x ∷ xs) ys all = (all.0, all_front xs ys all.1)

all_back : (xs ys : List Argument) → AllByRecursion Placed (xs ++ ys) → AllByRecursion Placed ys
all_back [] ys all = all
all_back (x ∷ xs) ys all = all_back xs ys all.1

-- From the last argument on: the rest of them are still to come, and those behind it are filled in.
pub record FillingBack (xs rest : List Argument) (rs os : List (Option Source)) : Type 0 where
  pub done : List Argument
  pub all : xs ≡ rest ++ done
  pub filled : Filling done rs os
  pub placed : AllByRecursion Placed rest

pub back_none : (xs rest : List Argument) → AllByRecursion (λ a. place_in_range outgoing_slots a.place ≡ true) xs → rest ≡ xs → FillingBack xs rest (replicate registers None) (replicate outgoing_slots None)
back_none xs rest placed whole = record { done = []; all = sym whole ∙ sym (append-nil rest); filled = filling_none; placed = subst (AllByRecursion Placed) (sym whole) placed }

module _ (xs before rest : List Argument) (a : Argument) (rs os : List (Option Source)) (f : FillingBack xs before rs os) (last : before ≡ rest ++ (a ∷ [])) where
  placed_last : AllByRecursion Placed (rest ++ (a ∷ []))
  placed_last = subst (AllByRecursion Placed) last f.placed

  pub last_placed : place_in_range outgoing_slots a.place ≡ true
  last_placed = (all_back rest (a ∷ []) placed_last).0

  one_more : (rs' os' : List (Option Source)) → Filling (a ∷ f.done) rs' os' → FillingBack xs rest rs' os'
  one_more rs' os' filled = record {
    done = a ∷ f.done;
    all = f.all ∙ ap (λ ys. ys ++ f.done) last ∙ append_assoc rest (a ∷ []) f.done;
    filled = filled;
    placed = all_front rest (a ∷ []) placed_last;
  }

  pub register_there : (q : NumberOf) → a.place ≡ Register q → q.0 < registers
  register_there q at = ltb-true q.0 registers (ap (place_in_range outgoing_slots) (sym at) ∙ last_placed)

  pub slot_there : (q : OutgoingSlot) → a.place ≡ Outgoing q → q.0 < outgoing_slots
  slot_there q at = ltb-true q.0 outgoing_slots (ap (place_in_range outgoing_slots) (sym at) ∙ last_placed)

  pub back_register : (q : NumberOf) → a.place ≡ Register q → FillingBack xs rest (set rs q.0 (Some a.source)) os
  back_register q at = one_more _ _ (filling_register a f.done rs os f.filled q at (register_there q at))

  pub back_slot : (q : OutgoingSlot) → a.place ≡ Outgoing q → FillingBack xs rest rs (set os q.0 (Some a.source))
  back_slot q at = one_more _ _ (filling_slot a f.done rs os f.filled q at (slot_there q at))

-- all arguments are filled in
pub back_all : (xs rest : List Argument) (rs os : List (Option Source)) → length rest ≡ 0 → FillingBack xs rest rs os → ◌≡◌ {A = Wants} (record { register = λ r. get_or rs r None; outgoing = λ o. get_or os o None }) (wants xs)
back_all xs [] rs os end f =
    let same : f.done ≡ xs = sym f.all in
    (λ i. record { register = λ r. f.filled.registers_filled r i; outgoing = λ o. f.filled.slots_filled o i }) ∙ ap wants same
back_all xs (x ∷ rest) rs os end f = absurd (omega (arith, end))
