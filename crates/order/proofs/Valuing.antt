-- M is the number of sources spread from the scratch. Assumes nothing.
use Rattle.std.proofs.Common.{◌≡◌, ℕ, zero, suc, ◌<◌, true, false, ◌||◌, List, [], ◌∷◌, ◌++◌, length, Some, None, Option, sym, refl, ap, ◌∙◌, subst, inl, inr, append-nil, arith}
use Rattle.std.proofs.lemmas.Bool.{cases_Bool, cases_eq, ltb-true}
use Rattle.std.specs.List.{AllByRecursion}
use Rattle.machine.specs.Limits.{outgoing_slots, registers}
use Rattle.conventions.specs.Arguments.{in_register, in_slot, place_in_range, same_source, source_at}
use Rattle.conventions.specs.declared.arguments.Argument.{Argument}
use Rattle.conventions.specs.declared.arguments.Place.{Place}
use Rattle.conventions.specs.declared.arguments.Source.{Source}
use Rattle.least.specs.Counts.{Distinct, Spread, Values, has_source}
use Rattle.order.specs.Indices.{each}
use Rattle.order.specs.Order.{spread_value, spreads, values_spread}
use Rattle.order.specs.Wants.{is_source, lowest_register, wants}
use Rattle.order.proofs.Indices.{all_each, cases_option, some_same, first_found, first_none, first_some}
use Rattle.conventions.proofs.Places.{source_refl, source_same}
use Rattle.order.proofs.Wanting.{is_source_some, some_is_source}
use Rattle.order.proofs.SpreadOnce.{Spreading, spreading, spreading_is}

has_append : (vs ws : List Source) (v : Source) → has_source (vs ++ ws) v ≡ (has_source vs v || has_source ws v)
has_append [] ws v = refl
has_append (u ∷ vs) ws v = let rest = has_append vs ws v in grind (arith, rest)

same_turned : (u v : Source) → same_source u v ≡ false → same_source v u ≡ false
same_turned u v h =
    elim (cases_Bool (same_source v u)) [
      | inr no' ↦ no'
      | inl yes' ↦ absurd (grind (arith, h, ap (λ s. same_source u s) (source_same v u yes'), source_refl u))
    ]

distinct_push : (vs : List Source) (v : Source) → Distinct vs → has_source vs v ≡ false → Distinct (vs ++ (v ∷ []))
distinct_push [] v d h = (refl, tt)
distinct_push (u ∷ vs) v d h =
    let apart = same_turned u v (grind (arith, h)) in
    (has_append vs (v ∷ []) u ∙ grind (arith, d.0, apart), distinct_push vs v d.1 (grind (arith, h)))

module _ (xs : List Argument) where
  -- what slot o spreads is v
  spread_is : (o : ℕ) (v : Source) (want : Option Source) → has_source (spread_value (wants xs) o want) v ≡ true → (want ≡ Some v) × Spreading (wants xs) o v
  spread_is o v None h = absurd (grind (arith, h))
  spread_is o v (Some s) h =
      elim (cases_Bool (spreads (wants xs) o s)) [
        | inl yes' ↦
            let same = source_same s v (grind (arith, h, yes')) in
            (ap (λ u. Some u) same, subst (Spreading (wants xs) o) same (spreading (wants xs) o s yes'))
        | inr no' ↦ absurd (grind (arith, h, no'))
      ]

  abbrev spread_at : ℕ → List Source
  spread_at o = spread_value (wants xs) o (source_at xs (in_slot o))

  -- and it is spread by one slot
  spread_below : (n : ℕ) (v : Source) → has_source (each spread_at n) v ≡ true → (o : ℕ) × (o < n) × Spreading (wants xs) o v
  unfolding each
  spread_below zero v h = absurd (grind (arith, h))
  spread_below (suc n) v h =
      elim (cases_Bool (has_source (each spread_at n) v)) [
        | inl before ↦ let found = spread_below n v before in (found.0, omega arith, found.2)
        | inr none ↦
            let here : has_source (spread_at n) v ≡ true = grind (arith, has_append (each spread_at n) (spread_at n) v, h, none) in
            (n, omega arith, (spread_is n v (source_at xs (in_slot n)) here).1)
      ]

  -- a source that slot n spreads is spread by no lower slot
  fresh : (n : ℕ) (v : Source) → Spreading (wants xs) n v → has_source (each spread_at n) v ≡ false
  fresh n v here =
      elim (cases_Bool (has_source (each spread_at n) v)) [
        | inr no' ↦ no'
        | inl yes' ↦
            let before = spread_below n v yes' in
            let same = some_same before.0 n (sym before.2.lowest ∙ here.lowest) in
            let below = before.1 in
            absurd (omega arith)
      ]

  distinct_more : (n : ℕ) (want : Option Source) → Distinct (each spread_at n) → Distinct (each spread_at n ++ spread_value (wants xs) n want)
  distinct_more n None d = rw append-nil d
  distinct_more n (Some s) d =
      elim (cases_Bool (spreads (wants xs) n s)) [
        | inr no' ↦ rw (no', append-nil) d
        | inl yes' ↦ rw yes' (distinct_push (each spread_at n) s d (fresh n s (spreading (wants xs) n s yes')))
      ]

  distinct_each : (n : ℕ) → Distinct (each spread_at n)
  unfolding each
  distinct_each zero = tt
  distinct_each (suc n) = distinct_more n (source_at xs (in_slot n)) (distinct_each n)

  has_each : (n o : ℕ) (v : Source) → o < n → has_source (spread_at o) v ≡ true → has_source (each spread_at n) v ≡ true
  unfolding each
  has_each zero o v h m = absurd (omega arith)
  has_each (suc n) o v h m =
      elim (cases_eq o n) [
        | inl same ↦ has_append (each spread_at n) (spread_at n) v ∙ grind (arith, ap (λ k. has_source (spread_at k) v) same, m)
        | inr ne ↦ has_append (each spread_at n) (spread_at n) v ∙ grind (arith, has_each n o v (omega arith) m)
      ]

  module _ (ranged : (p : Place) (s : Source) → source_at xs p ≡ Some s → place_in_range outgoing_slots p ≡ true) where
    spread_counted : (o : ℕ) (want : Option Source) → source_at xs (in_slot o) ≡ want → AllByRecursion (Spread xs) (spread_value (wants xs) o want)
    spread_counted o None at = tt
    spread_counted o (Some s) at =
        elim (cases_Bool (spreads (wants xs) o s)) [
          | inr no' ↦ rw no' tt
          | inl yes' ↦ rw yes' (
            record {
              value = grind (arith, yes');
              slot = o;
              wanted = at;
              unplaced = λ r h.
                  let below = ltb-true r registers (ranged (in_register r) s h) in
                  let none : lowest_register (wants xs) s ≡ None = elim (cases_option (lowest_register (wants xs) s)) [ inr e ↦ e | inl k ↦ absurd (grind (arith, yes', k.1)) ] in
                  grind (arith, first_none (λ k. is_source (source_at xs (in_register k)) s) registers none r below, some_is_source (source_at xs (in_register r)) s h);
            },
            tt,
          )
        ]

    every_spread : (v : Source) → Spread xs v → has_source (each spread_at outgoing_slots) v ≡ true
    every_spread v p =
        let below = ltb-true p.slot outgoing_slots (ranged (in_slot p.slot) v p.wanted) in
        let found = first_found (λ k. is_source (source_at xs (in_slot k)) v) outgoing_slots p.slot below (some_is_source (source_at xs (in_slot p.slot)) v p.wanted) in
        let low = first_some (λ k. is_source (source_at xs (in_slot k)) v) outgoing_slots found.0 found.1 in
        let at = is_source_some (source_at xs (in_slot found.0)) v low.passes in
        let none : lowest_register (wants xs) v ≡ None = elim (cases_option (lowest_register (wants xs) v)) [
          | inr e ↦ e
          | inl r ↦
              let lowest = first_some (λ k. is_source (source_at xs (in_register k)) v) registers r.0 r.1 in
              absurd (p.unplaced r.0 (is_source_some (source_at xs (in_register r.0)) v lowest.passes))
        ] in
        let spreads-it = spreading_is (wants xs) found.0 v (record { no_register = grind (arith, p.value, none); lowest = found.1 }) in
        let has : has_source (spread_at found.0) v ≡ true = ap (λ q. has_source (spread_value (wants xs) found.0 q) v) at ∙ grind (arith, spreads-it, source_refl v) in
        has_each outgoing_slots found.0 v low.below has

    pub values_counted : Values xs (length (values_spread (wants xs)))
    values_counted = record {
      values = values_spread (wants xs);
      spread = all_each (Spread xs) spread_at outgoing_slots (λ o h. spread_counted o (source_at xs (in_slot o)) refl);
      distinct = distinct_each outgoing_slots;
      every = every_spread;
      count = refl;
    }
