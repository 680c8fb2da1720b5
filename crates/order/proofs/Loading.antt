-- Words written to registers, and the values that registers want loaded. Assumes nothing.
use Rattle.std.proofs.Common.{◌≡◌, ℕ, suc, ◌<◌, ◌≤◌, true, Some, None, Option, sym, refl, ap, ◌∙◌, inl, inr, arith}
use Rattle.std.proofs.lemmas.Bool.{cases_eq}
use Rattle.std.proofs.lemmas.Bool.Decides.{nat_tests}
use Rattle.machine.specs.Limits.{registers}
use Rattle.machine.specs.States.{State}
use Rattle.machine.specs.Effects.{effect, run}
use Rattle.machine.specs.declared.words.Word.{Word}
use Rattle.conventions.specs.Arguments.{in_register}
use Rattle.conventions.specs.declared.arguments.Place.{Place}
use Rattle.conventions.specs.declared.arguments.Place.TheVariants.{Register, Outgoing}
use Rattle.conventions.specs.declared.arguments.Source.{Source}
use Rattle.conventions.specs.declared.arguments.Source.TheVariants.{Number, Register as Held, Local}
use Rattle.least.specs.Assignments.{place_word, source_word}
use Rattle.least.specs.Counts.{is_value}
use Rattle.order.specs.Order.{bring, load, loaded_registers}
use Rattle.order.specs.Tables.{fill, opening_table}
use Rattle.order.specs.Wants.{Wants}
use Rattle.order.proofs.Indices.{run_each}

-- register d took the word x, and nothing else altered
pub record Written (d : ℕ) (x : Word) (τ υ : State) : Type 0 where
  pub word : υ.register d ≡ x
  pub others : (r : ℕ) → (r ≡ d → ⊥) → υ.register r ≡ τ.register r
  pub locals : (n : ℕ) → υ.local n ≡ τ.local n
  pub outgoing : (o : ℕ) → υ.outgoing o ≡ τ.outgoing o

pub brought : (d : ℕ) (s : Source) (τ : State) → Written d (source_word τ s) τ (effect (bring d s) τ)
brought d (Number k) τ = record { word = grind (arith, nat_tests); others = λ r h. grind (arith, nat_tests, h); locals = λ n. refl; outgoing = λ o. refl }
brought d (Held q) τ = record { word = grind (arith, nat_tests); others = λ r h. grind (arith, nat_tests, h); locals = λ n. refl; outgoing = λ o. refl }
brought d (Local m) τ = record { word = grind (arith, nat_tests); others = λ r h. grind (arith, nat_tests, h); locals = λ n. refl; outgoing = λ o. refl }

pub filled : (d : ℕ) (p : Place) (τ : State) → Written d (place_word τ p) τ (effect (fill d p) τ)
filled d (Register q) τ = record { word = grind (arith, nat_tests); others = λ r h. grind (arith, nat_tests, h); locals = λ n. refl; outgoing = λ o. refl }
filled d (Outgoing m) τ = record { word = grind (arith, nat_tests); others = λ r h. grind (arith, nat_tests, h); locals = λ n. refl; outgoing = λ o. refl }

-- another place keeps its word
pub unwritten : (d : ℕ) (x : Word) (τ υ : State) → Written d x τ υ → (p : Place) → (p ≡ in_register d → ⊥) → place_word υ p ≡ place_word τ p
unwritten d x τ υ one (Register r) other = one.others r.0 (λ e. other (ap in_register e))
unwritten d x τ υ one (Outgoing o) other = one.outgoing o.0

-- a number or a local slot gives the same word while the local slots stay
pub value_word : (s : Source) (σ τ : State) → is_value s ≡ true → ((n : ℕ) → τ.local n ≡ σ.local n) → source_word τ s ≡ source_word σ s
value_word (Number k) σ τ value locals = refl
value_word (Held q) σ τ value locals = absurd (grind (arith, value))
value_word (Local n) σ τ value locals = locals n.0

-- what register r is to hold at last
abbrev pub wanted_word : State → ℕ → Option Source → Word
wanted_word σ r None = σ.register r
wanted_word σ r (Some s) = source_word σ s

-- registers below k hold what they want, and the others hold what the table opened with
pub record Loading (w : Wants) (scratch : ℕ) (σ τ : State) (k : ℕ) (υ : State) : Type 0 where
  pub loaded : (r : ℕ) → r < k → (r ≡ scratch → ⊥) → υ.register r ≡ wanted_word σ r (w.register r)
  pub waiting : (r : ℕ) → k ≤ r → (r ≡ scratch → ⊥) → υ.register r ≡ place_word σ (opening_table w r)
  pub locals : (n : ℕ) → υ.local n ≡ σ.local n
  pub outgoing : (o : ℕ) → υ.outgoing o ≡ τ.outgoing o

module _ (w : Wants) (scratch : ℕ) (σ τ : State) where
  -- register i has it already
  passed : (i : ℕ) (υ : State) → place_word σ (opening_table w i) ≡ wanted_word σ i (w.register i) → Loading w scratch σ τ i υ
      → Loading w scratch σ τ (suc i) υ
  passed i υ same before = record {
    loaded = λ r h apart. elim (cases_eq r i) [
      | inl here ↦ rw here (before.waiting i (omega arith) (λ e. apart (here ∙ e)) ∙ same)
      | inr other ↦ before.loaded r (omega arith) apart
    ];
    waiting = λ r h. before.waiting r (omega arith);
    locals = before.locals;
    outgoing = before.outgoing;
  }

  load_one : (i : ℕ) (υ : State) (s : Source) → w.register i ≡ Some s → is_value s ≡ true → Loading w scratch σ τ i υ
      → Loading w scratch σ τ (suc i) (effect (bring i s) υ)
  load_one i υ s e value before =
      let one = brought i s υ in
      record {
        loaded = λ r h apart. elim (cases_eq r i) [
          | inl here ↦ rw here (one.word ∙ value_word s σ υ value before.locals ∙ ap (wanted_word σ i) (sym e))
          | inr other ↦ one.others r other ∙ before.loaded r (omega arith) apart
        ];
        waiting = λ r h apart. one.others r (omega arith) ∙ before.waiting r (omega arith) apart;
        locals = λ n. one.locals n ∙ before.locals n;
        outgoing = λ o. one.outgoing o ∙ before.outgoing o;
      }

  load_step : (i : ℕ) (υ : State) (m : Option Source) → w.register i ≡ m → Loading w scratch σ τ i υ → Loading w scratch σ τ (suc i) (run (load i m) υ)
  load_step i υ None e before = passed i υ (grind (arith, e)) before
  load_step i υ (Some (Number k)) e before = load_one i υ (Number k) e refl before
  load_step i υ (Some (Held q)) e before = passed i υ (grind (arith, e)) before
  load_step i υ (Some (Local n)) e before = load_one i υ (Local n) e refl before

  pub registers_loaded : Loading w scratch σ τ 0 τ → Loading w scratch σ τ registers (run (loaded_registers w) τ)
  registers_loaded start = run_each (Loading w scratch σ τ) (λ r. load r (w.register r)) registers τ start (λ i υ h. load_step i υ (w.register i) refl)
