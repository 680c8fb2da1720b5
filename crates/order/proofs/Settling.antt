-- The moves between registers bring each register the word that the table opened with. Assumes nothing.
use Rattle.std.proofs.Common.{◌≡◌, ℕ, zero, suc, ◌<◌, true, false, not, Some, sym, refl, ap, ◌∙◌, subst, inl, inr, arith}
use Rattle.std.proofs.lemmas.Bool.{and_parts, cases_Bool}
use Rattle.std.proofs.lemmas.Bool.Decides.{nat_tests}
use Rattle.machine.specs.Limits.{outgoing_slots, registers}
use Rattle.machine.specs.States.{State}
use Rattle.machine.specs.Effects.{effect, run}
use Rattle.machine.proofs.Runs.{run_append}
use Rattle.conventions.specs.Arguments.{from_register, in_register, in_slot, same_place}
use Rattle.conventions.specs.declared.arguments.Place.{Place}
use Rattle.least.specs.Assignments.{place_word}
use Rattle.order.specs.Indices.{first}
use Rattle.order.specs.Tables.{Choice, choose, finished, given, reload, spill, take}
use Rattle.order.specs.Tables.{Table, fill, is_free, is_read, next_table, opening_table, pending, reads, settle, turned}
use Rattle.order.specs.Wants.{Wants, is_source, lowest_slot}
use Rattle.order.proofs.Choosing.{Chosen, NoneFree, chosen, finishes, reloads, spills, tables, takes}
use Rattle.order.proofs.Indices.{cases_option, first_none, first_some}
use Rattle.order.proofs.Loading.{filled, unwritten}
use Rattle.conventions.proofs.Places.{place_refl, register_same}
use Rattle.order.proofs.Wanting.{is_source_some}
use Rattle.order.proofs.Reading.{onto}
use Rattle.order.proofs.Storing.{Right, WantsRegister}
use Rattle.order.proofs.Turning.{idle_names, stays, turned_was, turning, turns}

-- a free register is named by no other
pub unread : (t : Table) (d e : ℕ) → is_free t d ≡ true → e < registers → pending t e ≡ true → t e ≡ in_register d → ⊥
unread t d e free h p same =
    elim (cases_option (first (reads t d) registers)) [
      | inl some ↦ grind (arith, free, some.1)
      | inr none ↦ grind (arith, nat_tests, first_none (reads t d) registers none e h, p, ap (λ x. same_place x (in_register d)) same, place_refl (in_register d))
    ]

-- what a table and a state keep: each register's present source holds the word that the table opened with, a pending register
-- still holds its own, and slots are as they were in start
pub record Settling (w : Wants) (scratch : ℕ) (σ start : State) (t : Table) (τ : State) : Type 0 where
  pub sources : (e : ℕ) → (e ≡ scratch → ⊥) → place_word τ (t e) ≡ place_word σ (opening_table w e)
  pub own : (e : ℕ) → pending t e ≡ true → τ.register e ≡ σ.register e
  pub below : (e : ℕ) → pending t e ≡ true → e < registers
  pub scratch_idle : pending t scratch ≡ false
  pub locals : (n : ℕ) → τ.local n ≡ start.local n
  pub outgoing : (o : ℕ) → τ.outgoing o ≡ start.outgoing o

-- the step from τ to υ serves the turning of s to c
pub record Serves (scratch : ℕ) (t : Table) (s c : Place) (τ υ : State) : Type 0 where
  pub word : place_word υ c ≡ place_word τ s
  pub others : (e : ℕ) → (e ≡ scratch → ⊥) → (pending t e ≡ true → t e ≡ s → ⊥) → place_word υ (t e) ≡ place_word τ (t e)
  pub own : (e : ℕ) → pending (turned s c t) e ≡ true → υ.register e ≡ τ.register e
  pub locals : (n : ℕ) → υ.local n ≡ τ.local n
  pub outgoing : (o : ℕ) → υ.outgoing o ≡ τ.outgoing o

module _ (w : Wants) (scratch : ℕ) (σ start : State) where
  turn_keeps : (t : Table) (s c : Place) (τ υ : State) → Serves scratch t s c τ υ → Settling w scratch σ start t τ → Settling w scratch σ start (turned s c t) υ
  turn_keeps t s c τ υ serves before = record {
    sources = λ e apart. elim (turning s c t e) [
      | turns was from is ↦ ap (place_word υ) is ∙ serves.word ∙ ap (place_word τ) (sym from) ∙ before.sources e apart
      | stays other is ↦ ap (place_word υ) is ∙ serves.others e apart other ∙ before.sources e apart
    ];
    own = λ e p. serves.own e p ∙ before.own e (turned_was s c t e p);
    below = λ e p. before.below e (turned_was s c t e p);
    scratch_idle = elim (cases_Bool (pending (turned s c t) scratch)) [
      | inl busy ↦ absurd (grind (arith, before.scratch_idle, turned_was s c t scratch busy))
      | inr idle ↦ idle
    ];
    locals = λ n. serves.locals n ∙ before.locals n;
    outgoing = λ o. serves.outgoing o ∙ before.outgoing o;
  }

  take_serves : (t : Table) (τ : State) (d : ℕ) → is_free t d ≡ true → Settling w scratch σ start t τ
      → Serves scratch t (t d) (in_register d) τ (effect (fill d (t d)) τ)
  take_serves t τ d free before =
      let one = filled d (t d) τ in
      let waits = (and_parts (pending t d) (not (is_read t d)) free).0 in
      record {
        word = one.word;
        others = λ e apart other. unwritten d (place_word τ (t d)) τ (effect (fill d (t d)) τ) one (t e) (elim (cases_Bool (pending t e)) [
          | inl p ↦ unread t d e free (before.below e p) p
          | inr idle ↦ λ same.
              let is : e ≡ d = register_same e d (sym (idle_names t e idle) ∙ same) in
              grind (arith, idle, ap (pending t) is, waits)
        ]);
        own = λ e p. one.others e (λ same. elim (turning (t d) (in_register d) t d) [
          | turns _ _ is ↦
              let idle = ap (λ x. not (same_place x (in_register d))) is in
              grind (arith, nat_tests, p, ap (pending (turned (t d) (in_register d) t)) same, idle, place_refl (in_register d))
          | stays other _ ↦ other waits refl
        ]);
        locals = one.locals;
        outgoing = one.outgoing;
      }

module _ (w : Wants) (scratch : ℕ) (σ start : State) (held : (o : ℕ) → o < outgoing_slots → WantsRegister w o → Right w σ start o) where
  reload_serves : (t : Table) (τ : State) (d o : ℕ) → pending t d ≡ true → lowest_slot w (from_register d) ≡ Some o → Settling w scratch σ start t τ
      → Serves scratch t (in_register d) (in_slot o) τ τ
  reload_serves t τ d o waits low before =
      let found = first_some (λ p. is_source (w.outgoing p) (from_register d)) outgoing_slots o low in
      let wanted = is_source_some (w.outgoing o) (from_register d) found.passes in
      record {
        word = before.outgoing o ∙ held o found.below (d, wanted) (from_register d) wanted ∙ sym (before.own d waits);
        others = λ e apart other. refl;
        own = λ e p. refl;
        locals = λ n. refl;
        outgoing = λ p. refl;
      }

  spill_serves : (t : Table) (τ : State) (d : ℕ) → NoneFree t → Settling w scratch σ start t τ
      → Serves scratch t (in_register d) (in_register scratch) τ (effect (fill scratch (in_register d)) τ)
  spill_serves t τ d none before =
      let υ = effect (fill scratch (in_register d)) τ in
      let one = filled scratch (in_register d) τ in
      let busy : (r : ℕ) → pending t r ≡ true → r ≡ scratch → ⊥ = λ r p same. grind (arith, p, ap (pending t) same, before.scratch_idle) in
      record {
        word = one.word;
        others = λ e apart other. unwritten scratch (τ.register d) τ υ one (t e) (λ same. elim (cases_Bool (pending t e)) [
          | inl p ↦
              let named = onto t none e (before.below e p) p in
              busy named.0 named.2 (register_same named.0 scratch (sym named.3 ∙ same))
          | inr idle ↦ apart (register_same e scratch (sym (idle_names t e idle) ∙ same))
        ]);
        own = λ e p. one.others e (busy e (turned_was (in_register d) (in_register scratch) t e p));
        locals = one.locals;
        outgoing = one.outgoing;
      }

  step_settles : (t : Table) (τ : State) (c : Choice) → Chosen w t c → Settling w scratch σ start t τ
      → Settling w scratch σ start (next_table scratch c t) (run (given scratch c t) τ)
  step_settles t τ (take d) (takes low) before =
      turn_keeps w scratch σ start t (t d) (in_register d) τ (effect (fill d (t d)) τ) (take_serves w scratch σ start t τ d low.passes before) before
  step_settles t τ (reload d o) (reloads none h waits low) before =
      turn_keeps w scratch σ start t (in_register d) (in_slot o) τ τ (reload_serves t τ d o waits low before) before
  step_settles t τ (spill d) (spills none _ _) before =
      turn_keeps w scratch σ start t (in_register d) (in_register scratch) τ (effect (fill scratch (in_register d)) τ) (spill_serves t τ d none before) before
  step_settles t τ finished (finishes idle) before = before

  pub steps_settle : (n : ℕ) (t : Table) (τ : State) → Settling w scratch σ start t τ
      → Settling w scratch σ start (tables w scratch n t) (run (settle w scratch n t) τ)
  unfolding settle tables
  steps_settle zero t τ before = before
  steps_settle (suc n) t τ before =
      let c = choose w t in
      let next = next_table scratch c t in
      let joined = run_append (given scratch c t) (settle w scratch n next) τ in
      subst (Settling w scratch σ start (tables w scratch n next)) (sym joined)
      (steps_settle n next (run (given scratch c t) τ) (step_settles t τ c (chosen w t) before))
