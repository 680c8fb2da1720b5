-- The order of moves is a simultaneous assignment. Assumes nothing.
use Rattle.std.proofs.Common.{◌≡◌, ℕ, ◌<◌, ◌≤◌, true, false, not, List, ◌++◌, Some, None, Option, sym, refl, ap, ◌∙◌, subst, inl, inr, arith}
use Rattle.std.proofs.lemmas.Bool.{cases_Bool, cases_lt}
use Rattle.std.proofs.lemmas.Bool.Decides.{nat_tests}
use Rattle.machine.specs.Limits.{outgoing_slots, registers}
use Rattle.machine.specs.States.{State}
use Rattle.machine.specs.Effects.{run}
use Rattle.machine.proofs.Runs.{run_append}
use Rattle.conventions.specs.Arguments.{Arranged, in_register, same_place, source_at}
use Rattle.conventions.specs.declared.arguments.Argument.{Argument}
use Rattle.conventions.specs.declared.arguments.Place.{Place}
use Rattle.conventions.specs.declared.arguments.Place.TheVariants.{Register, Outgoing}
use Rattle.conventions.specs.declared.arguments.Source.{Source}
use Rattle.conventions.specs.declared.arguments.Source.TheVariants.{Number, Register as Held, Local}
use Rattle.least.specs.Assignments.{Assigned, place_word, source_word}
use Rattle.least.specs.Counts.{is_value}
use Rattle.order.specs.Order.{choices, loaded_registers, order, order_of, settled, spread_values, stored_registers, stored_values}
use Rattle.order.specs.Tables.{opening_table, pending, pending_source}
use Rattle.order.specs.Wants.{Wants, is_source, lowest_register, wants}
use Rattle.order.proofs.Choosing.{tables}
use Rattle.order.proofs.Ending.{ends}
use Rattle.order.proofs.Indices.{cases_option, first_found, first_some}
use Rattle.order.proofs.Loading.{Loading, registers_loaded, wanted_word}
use Rattle.conventions.proofs.Lookups.{all_looked_up}
use Rattle.order.proofs.Fitting.{Fits, fits}
use Rattle.conventions.proofs.Places.{place_refl, source_refl}
use Rattle.order.proofs.Settling.{Settling, steps_settle}
use Rattle.order.proofs.Spreading.{Lone, Spread, values_spread}
use Rattle.order.proofs.Storing.{Right, Shared, Stored, registers_stored, values_stored}
use Rattle.order.proofs.Turning.{idle_names}

-- a register that wants nothing is not pending
pub opening_idle : (w : Wants) (e : ℕ) → w.register e ≡ None → pending (opening_table w) e ≡ false
opening_idle w e none = grind (arith, nat_tests, place_refl (in_register e), ap (λ m. not (same_place (pending_source e m) (in_register e))) none)

module _ (w : Wants) (scratch slots : ℕ) (fit : Fits w scratch slots) where
  pub scratch_wants_none : w.register scratch ≡ None
  scratch_wants_none = elim (cases_option (w.register scratch)) [ inl s ↦ absurd (fit.register_apart scratch s.0 s.1 refl) | inr none ↦ none ]

  none_beyond : (r : ℕ) → registers ≤ r → w.register r ≡ None
  none_beyond r h = elim (cases_option (w.register r)) [ inl s ↦ absurd (omega (arith, fit.register_below r s.0 s.1)) | inr none ↦ none ]

  -- a register that is pending at first wants something
  opening_wants : (e : ℕ) → pending (opening_table w) e ≡ true → (s : Source) × (w.register e ≡ Some s)
  opening_wants e p = elim (cases_option (w.register e)) [ inl s ↦ s | inr none ↦ absurd (grind (arith, p, opening_idle w e none)) ]

  -- apart from the scratch the registers hold what they held in σ
  module _ (σ start : State) (same : (r : ℕ) → (r ≡ scratch → ⊥) → start.register r ≡ σ.register r) where
    opening_sources : (e : ℕ) → (e ≡ scratch → ⊥) → (m : Option Source) → w.register e ≡ m
        → place_word start (pending_source e m) ≡ place_word σ (pending_source e m)
    opening_sources e apart None is = same e apart
    opening_sources e apart (Some (Number k)) is = same e apart
    opening_sources e apart (Some (Held q)) is = same q.0 (fit.source_apart e q.0 is)
    opening_sources e apart (Some (Local n)) is = same e apart

    opening_settling : Settling w scratch σ start (opening_table w) start
    opening_settling = record {
      sources = λ e apart. opening_sources e apart (w.register e) refl;
      own = λ e p. let s = opening_wants e p in same e (fit.register_apart e s.0 s.1);
      below = λ e p. let s = opening_wants e p in fit.register_below e s.0 s.1;
      scratch_idle = opening_idle w scratch scratch_wants_none;
      locals = λ n. refl;
      outgoing = λ o. refl;
    }

-- the moves between registers bring each register what the table opened with
pub record Settled (w : Wants) (scratch : ℕ) (σ start τ : State) : Type 0 where
  pub registers : (r : ℕ) → (r ≡ scratch → ⊥) → τ.register r ≡ place_word σ (opening_table w r)
  pub locals : (n : ℕ) → τ.local n ≡ start.local n
  pub outgoing : (o : ℕ) → τ.outgoing o ≡ start.outgoing o

-- each register but the scratch and each slot holds what it wants
pub record Filled (w : Wants) (scratch : ℕ) (σ τ : State) : Type 0 where
  pub registers : (r : ℕ) → (r ≡ scratch → ⊥) → τ.register r ≡ wanted_word σ r (w.register r)
  pub locals : (n : ℕ) → τ.local n ≡ σ.local n
  pub slots : (o : ℕ) → o < outgoing_slots → Right w σ τ o

module _ (w : Wants) (scratch slots : ℕ) (fit : Fits w scratch slots) (σ : State) where
  registers_settled : (start : State) → Spread w scratch σ outgoing_slots start → Settled w scratch σ start (run (settled w scratch) start)
  registers_settled start spread =
      let t = tables w scratch choices (opening_table w) in
      let opening = opening_settling w scratch slots fit σ start spread.registers in
      let last = steps_settle w scratch σ start spread.held choices (opening_table w) start opening in
      let idle : (r : ℕ) → pending t r ≡ false = λ r. elim (cases_Bool (pending t r)) [
        | inl busy ↦ absurd (grind (arith, busy, ends w scratch (opening_table w) opening.scratch_idle r (last.below r busy)))
        | inr done ↦ done
      ] in
      record {
        registers = λ r apart. ap (place_word (run (settled w scratch) start)) (sym (idle_names t r (idle r))) ∙ last.sources r apart;
        locals = last.locals;
        outgoing = last.outgoing;
      }

  register_final : (τ υ : State) → Loading w scratch σ τ registers υ → (r : ℕ) → (r ≡ scratch → ⊥) → υ.register r ≡ wanted_word σ r (w.register r)
  register_final τ υ loading r apart = elim (cases_lt r registers) [
    | inl h ↦ loading.loaded r h apart
    | inr beyond ↦ loading.waiting r beyond apart ∙ grind (arith, none_beyond w scratch slots fit r beyond)
  ]

  -- a slot wants a register, a value that a register wants too, or a value that none wants
  slot_final : (start τ υ : State) → Spread w scratch σ outgoing_slots start → ((o : ℕ) → τ.outgoing o ≡ start.outgoing o)
      → Stored w σ (Shared w) τ outgoing_slots υ → (o : ℕ) → o < outgoing_slots → Right w σ υ o
  slot_final start τ υ spread same stored o h s e = of_kind s e
    where
      early : Right w σ start o → (t : Source) → w.outgoing o ≡ Some t → υ.outgoing o ≡ source_word σ t
      early right = stored.kept.slots o (λ t wanted. same o ∙ right t wanted)

      of_value : (t : Source) → w.outgoing o ≡ Some t → is_value t ≡ true → υ.outgoing o ≡ source_word σ t
      of_value t wanted value = elim (cases_option (lowest_register w t)) [
        | inl r ↦ stored.right o h (record { source = t; register = r.0; wanted = wanted; value = value; lowest = r.1 }) t wanted
        | inr none ↦
            let low = first_found (λ p. is_source (w.outgoing p) t) outgoing_slots o h (ap (λ m. is_source m t) wanted ∙ source_refl t) in
            let lone : Lone w outgoing_slots o = record {
              source = t;
              slot = low.0;
              wanted = wanted;
              value = value;
              unplaced = none;
              lowest = low.1;
              early = (first_some (λ p. is_source (w.outgoing p) t) outgoing_slots low.0 low.1).below;
            } in
            early (spread.spread o h lone) t wanted
      ]

      of_kind : (t : Source) → w.outgoing o ≡ Some t → υ.outgoing o ≡ source_word σ t
      of_kind (Number k) wanted = of_value (Number k) wanted refl
      of_kind (Held q) wanted = early (spread.held o h (q.0, wanted)) (Held q) wanted
      of_kind (Local n) wanted = of_value (Local n) wanted refl

  after_parts : Filled w scratch σ
      (run (stored_values w) (run (loaded_registers w) (run (settled w scratch) (run (spread_values w scratch) (run (stored_registers w) σ)))))
  after_parts =
      let spread-state = run (spread_values w scratch) (run (stored_registers w) σ) in
      let settled-state = run (settled w scratch) spread-state in
      let loaded-state = run (loaded_registers w) settled-state in
      let spread = values_spread w scratch σ (run (stored_registers w) σ) (registers_stored w σ) in
      let settled' = registers_settled spread-state spread in
      let loading = registers_loaded w scratch σ settled-state (record {
        loaded = λ r h. absurd (omega arith);
        waiting = λ r h. settled'.registers r;
        locals = λ n. settled'.locals n ∙ spread.locals n;
        outgoing = λ o. refl;
      }) in
      let final = register_final settled-state loaded-state loading in
      let stored = values_stored w σ loaded-state (λ r s e. final r (fit.register_apart r s e) ∙ ap (wanted_word σ r) e) in
      record {
        registers = λ r apart. stored.kept.registers r ∙ final r apart;
        locals = λ n. stored.kept.locals n ∙ loading.locals n;
        slots = slot_final spread-state loaded-state (run (stored_values w) loaded-state) spread (λ o. loading.outgoing o ∙ settled'.outgoing o) stored;
      }

  pub order_fills : Filled w scratch σ (run (order_of w scratch) σ)
  order_fills =
      let one = run (stored_registers w) σ in
      let two = run (spread_values w scratch) one in
      let three = run (settled w scratch) two in
      let parts : run (order_of w scratch) σ ≡ run (stored_values w) (run (loaded_registers w) three) =
      run_append (stored_registers w) (spread_values w scratch ++ (settled w scratch ++ (loaded_registers w ++ stored_values w))) σ
      ∙ run_append (spread_values w scratch) (settled w scratch ++ (loaded_registers w ++ stored_values w)) one
      ∙ run_append (settled w scratch) (loaded_registers w ++ stored_values w) two
      ∙ run_append (loaded_registers w) (stored_values w) three in
      subst (Filled w scratch σ) (sym parts) after_parts

-- the moves of a call put all its arguments into their places at once, from every state
pub assigns : (xs : List Argument) (scratch slots : ℕ) → Arranged xs scratch slots → slots ≤ outgoing_slots
    → (σ : State) → Assigned xs scratch σ (run (order xs scratch) σ)
assigns xs scratch slots arranged few σ = record {
  placed = all_looked_up (λ a. place_word τ a.place ≡ source_word σ a.source) xs arranged.separate placed;
  locals = filled.locals;
  others = λ r none apart. filled.registers r apart ∙ ap (wanted_word σ r) none;
}
  where
    τ : State
    τ = run (order xs scratch) σ

    fit : Fits (wants xs) scratch slots
    fit = fits xs scratch slots arranged

    filled : Filled (wants xs) scratch σ τ
    filled = order_fills (wants xs) scratch slots fit σ

    placed : (p : Place) (s : Source) → source_at xs p ≡ Some s → place_word τ p ≡ source_word σ s
    placed (Register r) s e = filled.registers r.0 (fit.register_apart r.0 s e) ∙ ap (wanted_word σ r.0) e
    placed (Outgoing o) s e = filled.slots o.0 (omega (arith, fit.slot_below o.0 s e)) s e
