-- The numbers and local slots that are spread from the scratch are those that M counts, and each of their outgoing slots is stored once.
-- Assumes nothing.
use Rattle.std.proofs.Common.{◌≡◌, ℕ, suc, ◌+◌, ◌<◌, Bool, true, false, not, ◌&&◌, eqb, length, is_some, Some, None, Option, sym, refl, ap, ◌∙◌, subst, inl, inr, arith}
use Rattle.std.proofs.lemmas.Bool.{and_from, and_parts, cases_Bool, eqb-true}
use Rattle.std.proofs.lemmas.Bool.Decides.{nat_tests}
use Rattle.machine.specs.Limits.{outgoing_slots}
use Rattle.conventions.specs.declared.arguments.Source.{Source}
use Rattle.least.specs.Counts.{is_value}
use Rattle.order.specs.Indices.{each}
use Rattle.order.specs.Order.{spread, spread_value, spread_values, spreads, store_scratch, values_spread}
use Rattle.order.specs.Wants.{Wants, is_source, lowest_register, lowest_slot}
use Rattle.order.proofs.Counting.{length-each}
use Rattle.order.proofs.Indices.{cases_option, first_found, first_some, some_same}
use Rattle.conventions.proofs.Places.{source_same}
use Rattle.order.proofs.Wanting.{is_source_some, some_is_source}
use Rattle.order.proofs.Sums.{bit, sum, sum_add, sum_none, sum_one, sum_same, sum_swap}

-- a number or local slot that no register wants
abbrev pub unplaced : Wants → Source → Bool
unplaced w s = is_value s && not (is_some (lowest_register w s))

-- slot i spreads a source, and slot o wants it
abbrev spread_to : Wants → ℕ → ℕ → Option Source → Bool
spread_to w i o None = false
spread_to w i o (Some s) = spreads w i s && is_source (w.outgoing o) s

-- what is known of a slot that spreads
pub record Spreading (w : Wants) (o : ℕ) (s : Source) : Type 0 where
  pub no_register : unplaced w s ≡ true
  pub lowest : lowest_slot w s ≡ Some o

pub spreading : (w : Wants) (o : ℕ) (s : Source) → spreads w o s ≡ true → Spreading w o s
spreading w o s h =
    elim (cases_option (lowest_slot w s)) [
      | inl i ↦
          let at : eqb i.0 o ≡ true = grind (arith, h, i.1) in
          record { no_register = grind (arith, h); lowest = i.1 ∙ ap (λ k. Some k) (eqb-true i.0 o at) }
      | inr none ↦ absurd (grind (arith, h, none))
    ]

pub spreading_is : (w : Wants) (o : ℕ) (s : Source) → Spreading w o s → spreads w o s ≡ true
spreading_is w o s p = grind (arith, nat_tests, p.no_register, p.lowest)

-- the slots that one slot spreads to
length-spread : (w : Wants) (scratch i : ℕ) (want : Option Source) → length (spread w scratch i want) ≡ length (spread_value w i want) + sum (λ o. bit (spread_to w i o want)) outgoing_slots
length-spread w scratch i None = let none = sum_none (λ o. bit (spread_to w i o None)) outgoing_slots (λ o k. refl) in omega arith
length-spread w scratch i (Some s) =
    elim (cases_Bool (spreads w i s)) [
      | inl yes' ↦
          let stores = length-each (store_scratch w scratch s) outgoing_slots in
          let same = sum_same (λ o. length (store_scratch w scratch s o)) (λ o. bit (spread_to w i o (Some s))) outgoing_slots (λ o k. each_store o yes') in
          let left : length (spread w scratch i (Some s)) ≡ suc (length (each (store_scratch w scratch s) outgoing_slots)) = grind (arith, yes') in
          let right : length (spread_value w i (Some s)) ≡ 1 = grind (arith, yes') in
          omega arith
      | inr no' ↦
          let none = sum_none (λ o. bit (spread_to w i o (Some s))) outgoing_slots (λ o k. grind (arith, no')) in
          let left : length (spread w scratch i (Some s)) ≡ 0 = grind (arith, no') in
          let right : length (spread_value w i (Some s)) ≡ 0 = grind (arith, no') in
          omega arith
    ]
  where
    each_store : (o : ℕ) → spreads w i s ≡ true → length (store_scratch w scratch s o) ≡ bit (spread_to w i o (Some s))
    each_store o yes' =
        elim (cases_Bool (is_source (w.outgoing o) s)) [ inl p ↦ grind (arith, p, yes') | inr p ↦ grind (arith, p, yes') ]

-- the source wanted is a number or local slot that no register wants
abbrev pub unplaced_want : Wants → Option Source → Bool
unplaced_want w None = false
unplaced_want w (Some s) = unplaced w s

-- what slot i spreads to a slot that wants v is v, and i its lowest slot
spread_to_is : (w : Wants) (i o : ℕ) (v : Source) (want : Option Source) → w.outgoing o ≡ Some v → spread_to w i o want ≡ true → (want ≡ Some v) × Spreading w i v
spread_to_is w i o v None at h = absurd (grind (arith, h))
spread_to_is w i o v (Some s) at h =
    let parts = and_parts (spreads w i s) (is_source (w.outgoing o) s) h in
    let same = source_same v s (sym (ap (λ q. is_source q s) at) ∙ parts.1) in
    (ap (λ q. Some q) (sym same), subst (Spreading w i) (sym same) (spreading w i s parts.0))

-- each such slot is spread to once
spread_once : (w : Wants) (o : ℕ) (v : Source) → o < outgoing_slots → w.outgoing o ≡ Some v → sum (λ i. bit (spread_to w i o (w.outgoing i))) outgoing_slots ≡ bit (unplaced w v)
spread_once w o v h at =
    elim (cases_Bool (unplaced w v)) [
      | inl yes' ↦
          let found = first_found (λ k. is_source (w.outgoing k) v) outgoing_slots o h (some_is_source (w.outgoing o) v at) in
          let low = first_some (λ k. is_source (w.outgoing k) v) outgoing_slots found.0 found.1 in
          let lowest_wants = is_source_some (w.outgoing found.0) v low.passes in
          let spreads-it = spreading_is w found.0 v (record { no_register = yes'; lowest = found.1 }) in
          let here : bit (spread_to w found.0 o (w.outgoing found.0)) ≡ 1 =
          ap (λ q. bit (spread_to w found.0 o q)) lowest_wants ∙ ap bit (and_from (spreads w found.0 v) (is_source (w.outgoing o) v) spreads-it (some_is_source (w.outgoing o) v at)) in
          let one = sum_one (λ i. bit (spread_to w i o (w.outgoing i))) outgoing_slots found.0 low.below here (λ i k ne. other i found.0 found.1 ne) in
          one ∙ sym (ap bit yes')
      | inr no' ↦ sum_none (λ i. bit (spread_to w i o (w.outgoing i))) outgoing_slots (λ i k. never i no') ∙ sym (ap bit no')
    ]
  where
    other : (i j : ℕ) → lowest_slot w v ≡ Some j → (i ≡ j → ⊥) → bit (spread_to w i o (w.outgoing i)) ≡ 0
    other i j lowest ne =
        elim (cases_Bool (spread_to w i o (w.outgoing i))) [
          | inr no' ↦ ap bit no'
          | inl yes' ↦ absurd (ne (some_same i j (sym (spread_to_is w i o v (w.outgoing i) at yes').1.lowest ∙ lowest)))
        ]

    never : (i : ℕ) → unplaced w v ≡ false → bit (spread_to w i o (w.outgoing i)) ≡ 0
    never i no' =
        elim (cases_Bool (spread_to w i o (w.outgoing i))) [
          | inr none ↦ ap bit none
          | inl yes' ↦ absurd (grind (arith, no', (spread_to_is w i o v (w.outgoing i) at yes').1.no_register))
        ]

spread_each : (w : Wants) (o : ℕ) → o < outgoing_slots → sum (λ i. bit (spread_to w i o (w.outgoing i))) outgoing_slots ≡ bit (unplaced_want w (w.outgoing o))
spread_each w o h =
    elim (cases_option (w.outgoing o)) [
      | inl s ↦ spread_once w o s.0 h s.1 ∙ sym (ap (λ q. bit (unplaced_want w q)) s.1)
      | inr none ↦
          sum_none (λ i. bit (spread_to w i o (w.outgoing i))) outgoing_slots (λ i k. unwanted i (w.outgoing i) none)
          ∙ sym (ap (λ q. bit (unplaced_want w q)) none)
    ]
  where
    unwanted : (i : ℕ) (want : Option Source) → w.outgoing o ≡ None → bit (spread_to w i o want) ≡ 0
    unwanted i None none = refl
    unwanted i (Some s) none = grind (arith, none)

-- the moves of the second part: a load for each source spread, and a store for each of its slots
pub length-spread_values : (w : Wants) (scratch : ℕ) → length (spread_values w scratch) ≡ length (values_spread w) + sum (λ o. bit (unplaced_want w (w.outgoing o))) outgoing_slots
length-spread_values w scratch =
    let steps = length-each (λ o. spread w scratch o (w.outgoing o)) outgoing_slots in
    let values = length-each (λ o. spread_value w o (w.outgoing o)) outgoing_slots in
    let split = sum_same (λ o. length (spread w scratch o (w.outgoing o))) (λ i. length (spread_value w i (w.outgoing i)) + sum (λ o. bit (spread_to w i o (w.outgoing i))) outgoing_slots) outgoing_slots (λ i k. length-spread w scratch i (w.outgoing i)) in
    let two = sum_add (λ i. length (spread_value w i (w.outgoing i))) (λ i. sum (λ o. bit (spread_to w i o (w.outgoing i))) outgoing_slots) outgoing_slots in
    let swap = sum_swap (λ i o. bit (spread_to w i o (w.outgoing i))) outgoing_slots outgoing_slots in
    let once = sum_same (λ o. sum (λ i. bit (spread_to w i o (w.outgoing i))) outgoing_slots) (λ o. bit (unplaced_want w (w.outgoing o))) outgoing_slots (spread_each w) in
    omega arith
