-- The moves of the order are in range. Assumes nothing.
use Rattle.std.proofs.Common.{◌≡◌, ℕ, zero, suc, ◌/◌, ◌<◌, ◌≤◌, true, ltb, List, ◌++◌, Some, None, Option, refl, ap, ◌∙◌, inl, inr, arith}
use Rattle.std.proofs.ByRecursion.{All-append}
use Rattle.std.proofs.lemmas.Bool.{and_from, cases_Bool, lt-ltb, ltb-true}
use Rattle.std.specs.List.{AllByRecursion}
use Rattle.machine.specs.Limits.{local_slots, outgoing_slots, registers, slot_bytes}
use Rattle.machine.specs.Turns.{held}
use Rattle.machine.specs.declared.steps.Step.{Step}
use Rattle.conventions.specs.Arguments.{Arranged, from_register, in_register, in_slot, place_in_range, source_in_range}
use Rattle.conventions.specs.declared.arguments.Argument.{Argument}
use Rattle.conventions.specs.declared.arguments.Place.{Place}
use Rattle.conventions.specs.declared.arguments.Place.TheVariants.{Register, Outgoing}
use Rattle.conventions.specs.declared.arguments.Source.{Source}
use Rattle.conventions.specs.declared.arguments.Source.TheVariants.{Number, Register as Held, Local}
use Rattle.least.specs.Counts.{is_value}
use Rattle.least.specs.Rivals.{allowed, reserved_turn}
use Rattle.order.specs.Order.{bring, load, spread, spreads, store, store_from, store_held, store_loaded, store_scratch}
use Rattle.order.specs.Order.{choices, loaded_registers, order, order_of, settled, spread_values, stored_registers, stored_values}
use Rattle.order.specs.Tables.{Choice, Table, choose, fill, finished, given, next_table, opening_table, pending_source, reload, settle, spill, take, turned}
use Rattle.order.specs.Wants.{Wants, is_source, lowest_register, wants}
use Rattle.order.proofs.Choosing.{Chosen, chosen, finishes, reloads, spills, takes}
use Rattle.order.proofs.Indices.{all_each, first_some}
use Rattle.order.proofs.Fitting.{Fits, fits}
use Rattle.order.proofs.Wanting.{is_source_some}
use Rattle.order.proofs.Turning.{stays, turning, turns}

-- every step is allowed
abbrev pub AllAllowed : ℕ → List Step → Type 0
AllAllowed b ps = AllByRecursion (λ p. allowed b p ≡ true) ps

bring_allowed : (b d : ℕ) (s : Source) → d < registers → source_in_range s ≡ true → allowed b (bring d s) ≡ true
bring_allowed b d (Number k) h in' = lt-ltb d registers h
bring_allowed b d (Held q) h in' = and_from (ltb d registers) (ltb q.0 registers) (lt-ltb d registers h) in'
bring_allowed b d (Local n) h in' = and_from (ltb d registers) (ltb n.0 local_slots) (lt-ltb d registers h) in'

module _ (slots b : ℕ) (room : slots ≤ held (reserved_turn b) / slot_bytes) where
  slot_there : (o : ℕ) → o < slots → ltb o (held (reserved_turn b) / slot_bytes) ≡ true
  slot_there o h = lt-ltb o (held (reserved_turn b) / slot_bytes) (omega arith)

  store_allowed : (o r : ℕ) → o < slots → ltb r registers ≡ true → allowed b (store o r) ≡ true
  store_allowed o r h in' = and_from (ltb o (held (reserved_turn b) / slot_bytes)) (ltb r registers) (slot_there o h) in'

  fill_allowed : (d : ℕ) (p : Place) → d < registers → place_in_range slots p ≡ true → allowed b (fill d p) ≡ true
  fill_allowed d (Register r) h in' = and_from (ltb d registers) (ltb r.0 registers) (lt-ltb d registers h) in'
  fill_allowed d (Outgoing o) h in' =
      and_from (ltb d registers) (ltb o.0 (held (reserved_turn b) / slot_bytes)) (lt-ltb d registers h) (slot_there o.0 (ltb-true o.0 slots in'))

-- each register's present source is in range
abbrev pub TableInRange : ℕ → Table → Type 0
TableInRange slots t = (e : ℕ) → e < registers → place_in_range slots (t e) ≡ true

turned_in_range : (slots : ℕ) (s c : Place) (t : Table) → place_in_range slots c ≡ true → TableInRange slots t → TableInRange slots (turned s c t)
turned_in_range slots s c t in' all e h = elim (turning s c t e) [
  | turns _ _ is ↦ ap (place_in_range slots) is ∙ in'
  | stays _ is ↦ ap (place_in_range slots) is ∙ all e h
]

module _ (w : Wants) (scratch slots b : ℕ) (fit : Fits w scratch slots) (room : slots ≤ held (reserved_turn b) / slot_bytes) where
  held_allowed : (i : ℕ) (m : Option Source) → w.outgoing i ≡ m → AllAllowed b (store_held i m)
  held_allowed i None e = tt
  held_allowed i (Some (Number k)) e = tt
  held_allowed i (Some (Held r)) e = (store_allowed slots b room i r.0 (fit.slot_below i (Held r) e) (fit.slot_source i (Held r) e), tt)
  held_allowed i (Some (Local n)) e = tt

  scratch_allowed : (s : Source) (i : ℕ) → AllAllowed b (store_scratch w scratch s i)
  scratch_allowed s i = elim (cases_Bool (is_source (w.outgoing i) s)) [
    | inl wants' ↦
        let below = fit.slot_below i s (is_source_some (w.outgoing i) s wants') in
        rw wants' (store_allowed slots b room i scratch below (lt-ltb scratch registers fit.scratch_below), tt)
    | inr other ↦ rw other tt
  ]

  spread_allowed : (i : ℕ) (m : Option Source) → w.outgoing i ≡ m → AllAllowed b (spread w scratch i m)
  spread_allowed i None e = tt
  spread_allowed i (Some s) e = elim (cases_Bool (spreads w i s)) [
    | inl yes' ↦
        let stores' = all_each (λ p. allowed b p ≡ true) (store_scratch w scratch s) outgoing_slots (λ j h. scratch_allowed s j) in
        rw yes' (bring_allowed b scratch s fit.scratch_below (fit.slot_source i s e), stores')
    | inr no' ↦ rw no' tt
  ]

  load_allowed : (i : ℕ) (m : Option Source) → w.register i ≡ m → AllAllowed b (load i m)
  load_allowed i None e = tt
  load_allowed i (Some s) e = elim (cases_Bool (is_value s)) [
    | inl value ↦ rw value (bring_allowed b i s (fit.register_below i s e) (fit.register_source i s e), tt)
    | inr other ↦ rw other tt
  ]

  from_allowed : (i : ℕ) (s : Source) → w.outgoing i ≡ Some s → (m : Option ℕ) → lowest_register w s ≡ m → AllAllowed b (store_from i m)
  from_allowed i s e None low = tt
  from_allowed i s e (Some r) low =
      let found = first_some (λ q. is_source (w.register q) s) registers r low in
      (store_allowed slots b room i r (fit.slot_below i s e) (lt-ltb r registers found.below), tt)

  loaded_allowed : (i : ℕ) (m : Option Source) → w.outgoing i ≡ m → AllAllowed b (store_loaded w i m)
  loaded_allowed i None e = tt
  loaded_allowed i (Some s) e = elim (cases_Bool (is_value s)) [
    | inl value ↦ rw value (from_allowed i s e (lowest_register w s) refl)
    | inr other ↦ rw other tt
  ]

  opening_in_range : (e : ℕ) → e < registers → (m : Option Source) → w.register e ≡ m → place_in_range slots (pending_source e m) ≡ true
  opening_in_range e h None is = lt-ltb e registers h
  opening_in_range e h (Some (Number k)) is = lt-ltb e registers h
  opening_in_range e h (Some (Held q)) is = fit.register_source e (Held q) is
  opening_in_range e h (Some (Local n)) is = lt-ltb e registers h

  choice_allowed : (t : Table) (c : Choice) → Chosen w t c → TableInRange slots t
      → AllAllowed b (given scratch c t) × TableInRange slots (next_table scratch c t)
  choice_allowed t (take d) (takes low) all = (
    (fill_allowed slots b room d (t d) low.below (all d low.below), tt),
    turned_in_range slots (t d) (in_register d) t (lt-ltb d registers low.below) all,
  )
  choice_allowed t (reload d o) (reloads none h waits low) all =
      let found = first_some (λ p. is_source (w.outgoing p) (from_register d)) outgoing_slots o low in
      let below = fit.slot_below o (from_register d) (is_source_some (w.outgoing o) (from_register d) found.passes) in
      (tt, turned_in_range slots (in_register d) (in_slot o) t (lt-ltb o slots below) all)
  choice_allowed t (spill d) (spills none unheld low) all = (
    (fill_allowed slots b room scratch (in_register d) fit.scratch_below (lt-ltb d registers low.below), tt),
    turned_in_range slots (in_register d) (in_register scratch) t (lt-ltb scratch registers fit.scratch_below) all,
  )
  choice_allowed t finished (finishes idle) all = (tt, all)

  settle_allowed : (n : ℕ) (t : Table) → TableInRange slots t → AllAllowed b (settle w scratch n t)
  unfolding settle
  settle_allowed zero t all = tt
  settle_allowed (suc n) t all =
      let c = choose w t in
      let next = next_table scratch c t in
      let one = choice_allowed t c (chosen w t) all in
      All-append (λ p. allowed b p ≡ true) (given scratch c t) (settle w scratch n next) one.0 (settle_allowed n next one.1)

  pub order_allowed : AllAllowed b (order_of w scratch)
  order_allowed =
      let P : Step → Type 0 = λ p. allowed b p ≡ true in
      let first-stores = all_each P (λ o. store_held o (w.outgoing o)) outgoing_slots (λ i h. held_allowed i (w.outgoing i) refl) in
      let spreads' = all_each P (λ o. spread w scratch o (w.outgoing o)) outgoing_slots (λ i h. spread_allowed i (w.outgoing i) refl) in
      let settles = settle_allowed choices (opening_table w) (λ e h. opening_in_range e h (w.register e) refl) in
      let loads = all_each P (λ r. load r (w.register r)) registers (λ i h. load_allowed i (w.register i) refl) in
      let last-stores = all_each P (λ o. store_loaded w o (w.outgoing o)) outgoing_slots (λ i h. loaded_allowed i (w.outgoing i) refl) in
      All-append P (stored_registers w) (spread_values w scratch ++ (settled w scratch ++ (loaded_registers w ++ stored_values w))) first-stores
      (All-append P (spread_values w scratch) (settled w scratch ++ (loaded_registers w ++ stored_values w)) spreads'
      (All-append P (settled w scratch) (loaded_registers w ++ stored_values w) settles
      (All-append P (loaded_registers w) (stored_values w) loads last-stores)))

-- the moves of a call with so many bytes reserved are in range
pub ranged : (xs : List Argument) (scratch slots b : ℕ) → Arranged xs scratch slots → slots ≤ held (reserved_turn b) / slot_bytes
    → AllByRecursion (λ p. allowed b p ≡ true) (order xs scratch)
ranged xs scratch slots b arranged room = order_allowed (wants xs) scratch slots b (fits xs scratch slots arranged) room
