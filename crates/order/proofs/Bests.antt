-- The order of moves is the best list. Assumes nothing.
use Rattle.std.proofs.Common.{◌≡◌, ℕ, ◌+◌, ◌*◌, ◌/◌, ◌≤◌, true, false, eqb, List, length, Some, sym, refl, ◌∙◌, subst, inl, inr, arith}
use Rattle.std.proofs.ByRecursion.{All-weaker}
use Rattle.std.proofs.lemmas.Bool.{cases_Bool, lt-ltb, ltb-true}
use Rattle.std.proofs.lemmas.Bool.Decides.{nat_tests}
use Rattle.std.specs.List.{AllByRecursion}
use Rattle.machine.specs.Limits.{outgoing_slots, slot_bytes}
use Rattle.machine.specs.States.{State, begin}
use Rattle.machine.specs.Turns.{held}
use Rattle.machine.specs.Effects.{run}
use Rattle.conventions.specs.Arguments.{Arranged, place_in_range, source_at}
use Rattle.conventions.specs.Calls.{bytes_for}
use Rattle.conventions.specs.declared.arguments.Argument.{Argument}
use Rattle.conventions.specs.declared.arguments.Place.{Place}
use Rattle.conventions.specs.declared.arguments.Place.TheVariants.{Register, Outgoing}
use Rattle.conventions.specs.declared.arguments.Source.{Source}
use Rattle.conventions.specs.declared.arguments.Source.TheVariants.{Number, Register as Held, Local}
use Rattle.least.specs.Assignments.{Assigned, place_word, reserved, source_word}
use Rattle.least.specs.Counts.{Rings, Values, needed}
use Rattle.least.specs.Rivals.{reserved_turn}
use Rattle.least.proofs.Bound.{no_fewer}
use Rattle.order.specs.Best.{Best}
use Rattle.order.specs.Order.{opened, order, values_spread}
use Rattle.order.specs.Tables.{opening_table, pending}
use Rattle.order.specs.Wants.{wants}
use Rattle.order.proofs.Assigning.{assigns, opening_idle, scratch_wants_none}
use Rattle.order.proofs.Lengths.{order_length}
use Rattle.conventions.proofs.Lookups.{looked_up}
use Rattle.order.proofs.Fitting.{fits}
use Rattle.order.proofs.Most.{order_most}
use Rattle.order.proofs.Ranging.{ranged}
use Rattle.order.proofs.Spilling.{rings_opened}
use Rattle.order.proofs.Valuing.{values_counted}

-- a reservation alters no register and no local slot
reserved_register : (b : ℕ) (σ : State) (r : ℕ) → (reserved b σ).register r ≡ σ.register r
reserved_register b σ r = elim (cases_Bool (eqb b 0)) [ inl e ↦ grind (arith, e) | inr e ↦ grind (arith, e) ]

reserved_local : (b : ℕ) (σ : State) (n : ℕ) → (reserved b σ).local n ≡ σ.local n
reserved_local b σ n = elim (cases_Bool (eqb b 0)) [ inl e ↦ grind (arith, e) | inr e ↦ grind (arith, e) ]

source_kept : (b : ℕ) (σ : State) (s : Source) → source_word (reserved b σ) s ≡ source_word σ s
source_kept b σ (Number k) = refl
source_kept b σ (Held r) = reserved_register b σ r.0
source_kept b σ (Local n) = reserved_local b σ n.0

-- so the words before it are those after it
assigned_before : (xs : List Argument) (scratch b : ℕ) (σ τ : State) → Assigned xs scratch (reserved b σ) τ → Assigned xs scratch σ τ
assigned_before xs scratch b σ τ after = record {
  placed = All-weaker (λ a. place_word τ a.place ≡ source_word (reserved b σ) a.source) (λ a. place_word τ a.place ≡ source_word σ a.source) (λ a e. e ∙ source_kept b σ a.source) xs after.placed;
  locals = λ n. after.locals n ∙ reserved_local b σ n;
  others = λ r none apart. after.others r none apart ∙ reserved_register b σ r;
}

held_reserved : (b : ℕ) → held (reserved_turn b) ≡ b
held_reserved b = elim (cases_Bool (eqb b 0)) [ inl e ↦ grind (arith, nat_tests, e) | inr e ↦ grind (arith, nat_tests, e) ]

-- the slots are all reserved
room : (slots : ℕ) → slots ≤ held (reserved_turn (bytes_for slots)) / slot_bytes
room slots = let same = held_reserved (bytes_for slots) in omega arith

wider : (slots : ℕ) (p : Place) → slots ≤ outgoing_slots → place_in_range slots p ≡ true → place_in_range outgoing_slots p ≡ true
wider slots (Register r) few h = h
wider slots (Outgoing o) few h = lt-ltb o.0 outgoing_slots (omega (arith, ltb-true o.0 slots h))

-- what an arrangement says of places, where there are no more slots than the machine has
module _ (xs : List Argument) (scratch slots : ℕ) (arranged : Arranged xs scratch slots) (few : slots ≤ outgoing_slots) where
  pub all_placed : AllByRecursion (λ a. place_in_range outgoing_slots a.place ≡ true) xs
  all_placed = All-weaker _ _ (λ a h. wider slots a.place few h) xs arranged.places

  scratch_idle : pending (opening_table (wants xs)) scratch ≡ false
  scratch_idle = opening_idle (wants xs) scratch (scratch_wants_none (wants xs) scratch slots (fits xs scratch slots arranged))

  pub order_few : length (order xs scratch) ≤ 2 * length xs
  order_few = order_most xs scratch arranged.separate all_placed scratch_idle

  pub order_best : Best xs scratch (bytes_for slots) (order xs scratch) (needed xs) (length (opened (wants xs) scratch)) (length (values_spread (wants xs)))
  order_best = record {
    needs = refl;
    rings = rings;
    values = values;
    total = total;
    assigns = assigned;
    rival = record { moves = ranged xs scratch slots b arranged (room slots); places = λ s ordinary. (assigned (begin s)).placed };
    least = λ qs rival. subst (λ k. k ≤ length qs) (sym total) (no_fewer xs scratch slots b _ _ arranged rings values qs rival);
  }
    where
      b : ℕ
      b = bytes_for slots

      in_range : (p : Place) (s : Source) → source_at xs p ≡ Some s → place_in_range outgoing_slots p ≡ true
      in_range p s = looked_up (λ a. place_in_range outgoing_slots a.place ≡ true) xs p s all_placed

      rings : Rings xs (length (opened (wants xs) scratch))
      rings = rings_opened xs scratch in_range scratch_idle

      values : Values xs (length (values_spread (wants xs)))
      values = values_counted xs in_range

      total : length (order xs scratch) ≡ needed xs + length (opened (wants xs) scratch) + length (values_spread (wants xs))
      total = order_length xs scratch arranged.separate all_placed scratch_idle

      assigned : (σ : State) → Assigned xs scratch σ (run (order xs scratch) (reserved b σ))
      assigned σ = assigned_before xs scratch b σ (run (order xs scratch) (reserved b σ)) (assigns xs scratch slots arranged few (reserved b σ))
