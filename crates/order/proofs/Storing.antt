-- Stores to outgoing slots: first the registers that slots want, last the values that registers hold too. Assumes nothing.
use Rattle.std.proofs.Common.{◌≡◌, ℕ, ◌<◌, true, List, [], ◌∷◌, Some, None, Option, sym, refl, ap, ◌∙◌, subst, inl, inr, arith}
use Rattle.std.proofs.lemmas.Bool.{cases_Bool, cases_eq}
use Rattle.std.proofs.lemmas.Bool.Decides.{nat_tests}
use Rattle.machine.specs.Limits.{outgoing_slots, registers}
use Rattle.machine.specs.States.{State}
use Rattle.machine.specs.Effects.{effect, run}
use Rattle.machine.specs.declared.steps.Step.{Step}
use Rattle.conventions.specs.Arguments.{from_register}
use Rattle.conventions.specs.declared.arguments.Source.{Source}
use Rattle.conventions.specs.declared.arguments.Source.TheVariants.{Number, Register as Held, Local}
use Rattle.least.specs.Assignments.{source_word}
use Rattle.least.specs.Counts.{is_value}
use Rattle.order.specs.Indices.{each}
use Rattle.order.specs.Order.{store, store_from, store_held, store_loaded, stored_registers, stored_values}
use Rattle.order.specs.Wants.{Wants, is_source, lowest_register}
use Rattle.order.proofs.Indices.{first_some, run_each}
use Rattle.order.proofs.Wanting.{is_source_some}

-- in τ outgoing slot o holds what it wants, as it was in σ
abbrev pub Right : Wants → State → State → ℕ → Type 0
Right w σ τ o = (s : Source) → w.outgoing o ≡ Some s → τ.outgoing o ≡ source_word σ s

-- what a store leaves of the registers, the local slots and the slots that are right
pub record Kept (w : Wants) (σ τ υ : State) : Type 0 where
  pub registers : (r : ℕ) → υ.register r ≡ τ.register r
  pub locals : (n : ℕ) → υ.local n ≡ τ.local n
  pub slots : (o : ℕ) → Right w σ τ o → Right w σ υ o

pub kept_none : (w : Wants) (σ τ : State) → Kept w σ τ τ
kept_none w σ τ = record { registers = λ r. refl; locals = λ n. refl; slots = λ o h. h }

pub kept_more : (w : Wants) (σ τ υ φ : State) → Kept w σ τ υ → Kept w σ υ φ → Kept w σ τ φ
kept_more w σ τ υ φ a b = record {
  registers = λ r. b.registers r ∙ a.registers r;
  locals = λ n. b.locals n ∙ a.locals n;
  slots = λ o h. b.slots o (a.slots o h);
}

module _ (w : Wants) (σ τ : State) (o r : ℕ) (s : Source) (wanted : w.outgoing o ≡ Some s) (holds : τ.register r ≡ source_word σ s) where
  pub store_right : Right w σ (effect (store o r) τ) o
  store_right t e =
      let same : t ≡ s = grind (arith, e, wanted) in
      grind (arith, nat_tests, holds, ap (source_word σ) same)

  -- a slot's own source stored to it
  pub store_keeps : Kept w σ τ (effect (store o r) τ)
  store_keeps = record {
    registers = λ q. refl;
    locals = λ n. refl;
    slots = λ p right t e. elim (cases_eq p o) [
      | inl same ↦ rw same (store_right t (ap w.outgoing (sym same) ∙ e))
      | inr other ↦ grind (arith, nat_tests, right t e, other)
    ];
  }

-- from τ to υ the slots below n that G names became right
pub record Stored (w : Wants) (σ : State) (G : ℕ → Type 0) (τ : State) (n : ℕ) (υ : State) : Type 0 where
  pub kept : Kept w σ τ υ
  pub right : (o : ℕ) → o < n → G o → Right w σ υ o

-- the steps for one slot
abbrev pub Block : Wants → State → (ℕ → Type 0) → State → ℕ → List Step → Type 0
Block w σ G υ i ps = Kept w σ υ (run ps υ) × (G i → Right w σ (run ps υ) i)

module _ (w : Wants) (σ : State) (G : ℕ → Type 0) where
  pub no_block : (υ : State) (i : ℕ) → (G i → ⊥) → Block w σ G υ i []
  no_block υ i none = (kept_none w σ υ, λ g. absurd (none g))

  pub store_block : (υ : State) (i r : ℕ) (s : Source) → w.outgoing i ≡ Some s → υ.register r ≡ source_word σ s → Block w σ G υ i (store i r ∷ [])
  store_block υ i r s e holds = (store_keeps w σ υ i r s e holds, λ g. store_right w σ υ i r s e holds)

  pub stores : (τ : State) (f : ℕ → List Step) (n : ℕ) → ((i : ℕ) (υ : State) → Kept w σ τ υ → Block w σ G υ i (f i)) → Stored w σ G τ n (run (each f n) τ)
  stores τ f n block =
      run_each (Stored w σ G τ) f n τ (record { kept = kept_none w σ τ; right = λ o h. absurd (omega arith) }) (λ i υ h before.
      let one = block i υ before.kept in
      record {
        kept = kept_more w σ τ υ (run (f i) υ) before.kept one.0;
        right = λ o k g. elim (cases_eq o i) [
          | inl same ↦ rw same (one.1 (subst G same g))
          | inr other ↦ one.0.slots o (before.right o (omega arith) g)
        ];
      })

-- the slot wants a register
abbrev pub WantsRegister : Wants → ℕ → Type 0
WantsRegister w o = (q : ℕ) × (w.outgoing o ≡ Some (from_register q))

pub registers_stored : (w : Wants) (σ : State) → Stored w σ (WantsRegister w) σ outgoing_slots (run (stored_registers w) σ)
registers_stored w σ = stores w σ (WantsRegister w) σ (λ o. store_held o (w.outgoing o)) outgoing_slots (λ i υ kept. block i υ kept (w.outgoing i) refl)
  where
    block : (i : ℕ) (υ : State) → Kept w σ σ υ → (m : Option Source) → w.outgoing i ≡ m → Block w σ (WantsRegister w) υ i (store_held i m)
    block i υ kept None e = no_block w σ (WantsRegister w) υ i (λ g. grind (arith, e, g.1))
    block i υ kept (Some (Number k)) e = no_block w σ (WantsRegister w) υ i (λ g. grind (arith, e, g.1))
    block i υ kept (Some (Held r)) e = store_block w σ (WantsRegister w) υ i r.0 (Held r) e (kept.registers r.0)
    block i υ kept (Some (Local n)) e = no_block w σ (WantsRegister w) υ i (λ g. grind (arith, e, g.1))

-- the slot wants a value that a register wants too
pub record Shared (w : Wants) (o : ℕ) : Type 0 where
  pub source : Source
  pub register : ℕ
  pub wanted : w.outgoing o ≡ Some source
  pub value : is_value source ≡ true
  pub lowest : lowest_register w source ≡ Some register

-- each register holds what it wants
abbrev pub Loaded : Wants → State → State → Type 0
Loaded w σ τ = (r : ℕ) (s : Source) → w.register r ≡ Some s → τ.register r ≡ source_word σ s

-- the lowest register that wants a value has it for the slots
pub values_stored : (w : Wants) (σ τ : State) → Loaded w σ τ → Stored w σ (Shared w) τ outgoing_slots (run (stored_values w) τ)
values_stored w σ τ loaded = stores w σ (Shared w) τ (λ o. store_loaded w o (w.outgoing o)) outgoing_slots (λ i υ kept. block i υ kept (w.outgoing i) refl)
  where
    from : (i : ℕ) (υ : State) → Kept w σ τ υ → (s : Source) → w.outgoing i ≡ Some s → (m : Option ℕ) → lowest_register w s ≡ m
        → Block w σ (Shared w) υ i (store_from i m)
    from i υ kept s e None low = no_block w σ (Shared w) υ i (λ g.
        let same : g.source ≡ s = grind (arith, e, g.wanted) in
        grind (arith, ap (lowest_register w) same, g.lowest, low))
    from i υ kept s e (Some r) low =
        let found = first_some (λ q. is_source (w.register q) s) registers r low in
        store_block w σ (Shared w) υ i r s e (kept.registers r ∙ loaded r s (is_source_some (w.register r) s found.passes))

    block : (i : ℕ) (υ : State) → Kept w σ τ υ → (m : Option Source) → w.outgoing i ≡ m → Block w σ (Shared w) υ i (store_loaded w i m)
    block i υ kept None e = no_block w σ (Shared w) υ i (λ g. grind (arith, e, g.wanted))
    block i υ kept (Some s) e = elim (cases_Bool (is_value s)) [
      | inl value ↦ rw value (from i υ kept s e (lowest_register w s) refl)
      | inr other ↦ rw other (no_block w σ (Shared w) υ i (λ g.
          let same : g.source ≡ s = grind (arith, e, g.wanted) in
          grind (arith, ap is_value same, g.value, other)))
    ]
