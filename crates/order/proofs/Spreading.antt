-- Values that no register wants are spread to their slots through the scratch. Assumes nothing.
use Rattle.std.proofs.Common.{◌≡◌, ℕ, suc, ◌<◌, true, ◌∷◌, Some, None, Option, refl, ap, ◌∙◌, inl, inr, arith}
use Rattle.std.proofs.lemmas.Bool.{cases_Bool, cases_eq}
use Rattle.std.proofs.lemmas.Bool.Decides.{nat_tests}
use Rattle.machine.specs.Limits.{outgoing_slots}
use Rattle.machine.specs.States.{State}
use Rattle.machine.specs.Effects.{effect, run}
use Rattle.conventions.specs.declared.arguments.Source.{Source}
use Rattle.least.specs.Assignments.{source_word}
use Rattle.least.specs.Counts.{is_value}
use Rattle.order.specs.Indices.{each}
use Rattle.order.specs.Order.{bring, spread, spread_values, spreads, store_scratch}
use Rattle.order.specs.Wants.{Wants, is_source, lowest_register, lowest_slot}
use Rattle.order.proofs.Indices.{first_some, run_each}
use Rattle.order.proofs.Loading.{brought, value_word}
use Rattle.conventions.proofs.Places.{source_refl}
use Rattle.order.proofs.Wanting.{is_source_some}
use Rattle.order.proofs.Storing.{Right, Stored, WantsRegister, no_block, store_block, stores}

-- slot o wants a value that no register wants, and whose lowest slot is below k
pub record Lone (w : Wants) (k o : ℕ) : Type 0 where
  pub source : Source
  pub slot : ℕ
  pub wanted : w.outgoing o ≡ Some source
  pub value : is_value source ≡ true
  pub unplaced : lowest_register w source ≡ None
  pub lowest : lowest_slot w source ≡ Some slot
  pub early : slot < k

-- slots that want a register are right, and values with a lowest slot below k are spread
pub record Spread (w : Wants) (scratch : ℕ) (σ : State) (k : ℕ) (τ : State) : Type 0 where
  pub registers : (r : ℕ) → (r ≡ scratch → ⊥) → τ.register r ≡ σ.register r
  pub locals : (n : ℕ) → τ.local n ≡ σ.local n
  pub held : (o : ℕ) → o < outgoing_slots → WantsRegister w o → Right w σ τ o
  pub spread : (o : ℕ) → o < outgoing_slots → Lone w k o → Right w σ τ o

module _ (w : Wants) (scratch : ℕ) (σ : State) where
  -- the lowest slot of a lone value wants it
  lowest_wants : (k o : ℕ) (l : Lone w k o) → w.outgoing l.slot ≡ Some l.source
  lowest_wants k o l =
      is_source_some (w.outgoing l.slot) l.source (first_some (λ p. is_source (w.outgoing p) l.source) outgoing_slots l.slot l.lowest).passes

  earlier : (k o : ℕ) (l : Lone w (suc k) o) → (l.slot ≡ k → ⊥) → Lone w k o
  earlier k o l other = record {
    source = l.source;
    slot = l.slot;
    wanted = l.wanted;
    value = l.value;
    unplaced = l.unplaced;
    lowest = l.lowest;
    early = omega (arith, l.early, other);
  }

  -- where no value has slot i as its lowest, nothing is to be done
  passed : (i : ℕ) (τ : State) → ((o : ℕ) (l : Lone w (suc i) o) → l.slot ≡ i → ⊥) → Spread w scratch σ i τ → Spread w scratch σ (suc i) τ
  passed i τ none before = record {
    registers = before.registers;
    locals = before.locals;
    held = before.held;
    spread = λ o h l. before.spread o h (earlier i o l (none o l));
  }

  -- the stores after the value was brought to the scratch
  scratch_stored : (s : Source) (τ : State) → τ.register scratch ≡ source_word σ s
      → Stored w σ (λ o. w.outgoing o ≡ Some s) τ outgoing_slots (run (each (store_scratch w scratch s) outgoing_slots) τ)
  scratch_stored s τ holds = stores w σ (λ o. w.outgoing o ≡ Some s) τ (store_scratch w scratch s) outgoing_slots (λ i υ kept.
      elim (cases_Bool (is_source (w.outgoing i) s)) [
        | inl wants ↦
            let wanted = is_source_some (w.outgoing i) s wants in
            rw wants (store_block w σ (λ o. w.outgoing o ≡ Some s) υ i scratch s wanted (kept.registers scratch ∙ holds))
        | inr other ↦ rw other (no_block w σ (λ o. w.outgoing o ≡ Some s) υ i (λ g. grind (arith, nat_tests, other, g, source_refl s)))
      ])

  -- slot i is the lowest of a value s that no register wants
  spread_one : (i : ℕ) (τ : State) (s : Source) → w.outgoing i ≡ Some s → is_value s ≡ true → Spread w scratch σ i τ
      → Spread w scratch σ (suc i) (run (bring scratch s ∷ each (store_scratch w scratch s) outgoing_slots) τ)
  spread_one i τ s e value before =
      let υ = effect (bring scratch s) τ in
      let one = brought scratch s τ in
      let after = scratch_stored s υ (one.word ∙ value_word s σ τ value before.locals) in
      let keeps : (o : ℕ) → Right w σ τ o → Right w σ (run (each (store_scratch w scratch s) outgoing_slots) υ) o =
      λ o right. after.kept.slots o (λ t wants. one.outgoing o ∙ right t wants) in
      record {
        registers = λ r other. after.kept.registers r ∙ one.others r other ∙ before.registers r other;
        locals = λ n. after.kept.locals n ∙ one.locals n ∙ before.locals n;
        held = λ o h wants. keeps o (before.held o h wants);
        spread = λ o h l. elim (cases_eq l.slot i) [
          | inl same ↦
              let is : l.source ≡ s = grind (arith, lowest_wants (suc i) o l, ap w.outgoing same, e) in
              after.right o h (l.wanted ∙ ap (λ x. Some x) is)
          | inr other ↦ keeps o (before.spread o h (earlier i o l other))
        ];
      }

  spread_step : (i : ℕ) (τ : State) (m : Option Source) → w.outgoing i ≡ m → Spread w scratch σ i τ → Spread w scratch σ (suc i) (run (spread w scratch i m) τ)
  spread_step i τ None e before = passed i τ (λ o l same. grind (arith, lowest_wants (suc i) o l, ap w.outgoing same, e)) before
  spread_step i τ (Some s) e before = elim (cases_Bool (spreads w i s)) [
    | inl yes' ↦ rw yes' (spread_one i τ s e (grind (arith, yes')) before)
    | inr no' ↦ rw no' (passed i τ (λ o l same.
        let is : l.source ≡ s = grind (arith, lowest_wants (suc i) o l, ap w.outgoing same, e) in
        grind (arith, nat_tests, no', same, ap is_value is, l.value, ap (lowest_register w) is, l.unplaced, ap (lowest_slot w) is, l.lowest)) before)
  ]

  pub values_spread : (τ : State) → Stored w σ (WantsRegister w) σ outgoing_slots τ → Spread w scratch σ outgoing_slots (run (spread_values w scratch) τ)
  values_spread τ stored = run_each (Spread w scratch σ) (λ o. spread w scratch o (w.outgoing o)) outgoing_slots τ
      (record {
        registers = λ r h. stored.kept.registers r;
        locals = stored.kept.locals;
        held = stored.right;
        spread = λ o h l. absurd (omega (arith, l.early));
      })
      (λ i υ h. spread_step i υ (w.outgoing i) refl)
