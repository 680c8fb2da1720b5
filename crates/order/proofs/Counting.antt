-- N by places, and the steps of the choices counted. Assumes nothing.
use Rattle.std.proofs.Common.{◌≡◌, ℕ, zero, suc, ◌+◌, Bool, true, false, cond, not, List, [], ◌∷◌, length, is_some, Some, None, Option, refl, ap, ◌∙◌, arith, length-append}
use Rattle.std.proofs.lemmas.Bool.{ltb-true}
use Rattle.std.proofs.lemmas.Bool.Decides.{nat_tests}
use Rattle.std.specs.List.{AllByRecursion}
use Rattle.machine.specs.Limits.{outgoing_slots, registers}
use Rattle.machine.specs.declared.places.OutgoingSlot.{OutgoingSlot}
use Rattle.conventions.specs.Arguments.{Separate, at_home, in_register, in_slot, place_in_range, source_at}
use Rattle.conventions.specs.declared.arguments.Argument.{Argument}
use Rattle.conventions.specs.declared.arguments.Place.{Place}
use Rattle.conventions.specs.declared.arguments.Place.TheVariants.{Register, Outgoing}
use Rattle.conventions.specs.declared.arguments.Source.{Source}
use Rattle.conventions.specs.declared.arguments.Source.TheVariants.{Number, Register as Held, Local}
use Rattle.least.specs.Counts.{needed}
use Rattle.order.specs.Indices.{each}
use Rattle.order.specs.Tables.{Choice, Table, choose, finished, given, next_table, pending, reload, settle, spill, spilled, spills as spills_of, take}
use Rattle.order.specs.Wants.{Wants}
use Rattle.order.proofs.Choosing.{Chosen, chosen, tables, takes}
use Rattle.order.proofs.Ending.{opening_count, take_count}
use Rattle.order.proofs.Sums.{bit, count, sum, sum_change, sum_none}
use Rattle.order.proofs.Turning.{next_idle, scratch_other, slot_other}

pub length-each : {A : Type 0} (f : ℕ → List A) (n : ℕ) → length (each f n) ≡ sum (λ i. length (f i)) n
unfolding each sum
length-each f zero = refl
length-each f (suc n) = length-append (each f n) (f n) ∙ ap (λ k. k + length (f n)) (length-each f n)

-- the pending register that a choice settles, and the spill that it makes, are its steps
choice_count : (w : Wants) (scratch : ℕ) (t : Table) (k : Choice) → Chosen w t k → pending t scratch ≡ false → length (given scratch k t) + count (pending (next_table scratch k t)) registers ≡ count (pending t) registers + length (spilled k)
choice_count w scratch t (take d) (takes low) idle = let fewer = take_count t d low.below (grind (arith, low.passes)) in omega arith
choice_count w scratch t (reload d o) c idle = let same = opening_count (in_register d) (in_slot o) t (λ e p. slot_other o e) in omega arith
choice_count w scratch t (spill d) c idle = let same = opening_count (in_register d) (in_register scratch) t (scratch_other t scratch idle) in omega arith
choice_count w scratch t finished c idle = omega arith

pub settle_count : (w : Wants) (scratch n : ℕ) (t : Table) → pending t scratch ≡ false → length (settle w scratch n t) + count (pending (tables w scratch n t)) registers ≡ count (pending t) registers + length (spills_of w scratch n t)
unfolding settle spills_of tables
settle_count w scratch zero t idle = omega arith
settle_count w scratch (suc n) t idle =
    let k = choose w t in
    let u : Table = next_table scratch k t in
    let here = choice_count w scratch t k (chosen w t) idle in
    let rest = settle_count w scratch n u (next_idle scratch k t scratch idle) in
    let steps = length-append (given scratch k t) (settle w scratch n u) in
    let rings = length-append (spilled k) (spills_of w scratch n u) in
    omega arith

-- a register whose argument is not there already
abbrev pub moved : ℕ → Option Source → Bool
moved r None = false
moved r (Some s) = not (at_home (record { place = in_register r; source = s }))

-- the arguments in registers that are not there already, and those in outgoing slots
abbrev pub by_registers : List Argument → ℕ
by_registers xs = sum (λ r. bit (moved r (source_at xs (in_register r)))) registers

abbrev pub by_slots : List Argument → ℕ
by_slots xs = sum (λ o. bit (is_some (source_at xs (in_slot o)))) outgoing_slots

-- one argument more, at a place of its own
needed_more : (p : Place) (s : Source) (xs : List Argument) → source_at xs p ≡ None → place_in_range outgoing_slots p ≡ true → needed xs ≡ by_registers xs + by_slots xs → needed (record { place = p; source = s } ∷ xs) ≡ by_registers (record { place = p; source = s } ∷ xs) + by_slots (record { place = p; source = s } ∷ xs)
needed_more (Register q) s xs alone below rest =
    let ys : List Argument = record { place = Register q; source = s } ∷ xs in
    let change = sum_change (λ r. bit (moved r (source_at ys (in_register r)))) (λ r. bit (moved r (source_at xs (in_register r)))) registers q.0 (ltb-true q.0 registers below) (λ i k ne. grind (arith, nat_tests, ne)) in
    let none : bit (moved q.0 (source_at xs (in_register q.0))) ≡ 0 = grind (arith, alone) in
    let here : bit (moved q.0 (source_at ys (in_register q.0))) ≡ cond (at_home (record { place = Register q; source = s })) 0 1 = grind (arith, nat_tests) in
    omega arith
needed_more (Outgoing q) s xs alone below rest =
    let ys : List Argument = record { place = Outgoing q; source = s } ∷ xs in
    let change = sum_change (λ o. bit (is_some (source_at ys (in_slot o)))) (λ o. bit (is_some (source_at xs (in_slot o)))) outgoing_slots q.0 (ltb-true q.0 outgoing_slots below) (λ i k ne. grind (arith, nat_tests, ne)) in
    let none : bit (is_some (source_at xs (in_slot q.0))) ≡ 0 = grind (arith, alone) in
    let here : bit (is_some (source_at ys (in_slot q.0))) ≡ 1 = grind (arith, nat_tests) in
    let away : at_home (record { place = Outgoing q; source = s }) ≡ false = slot_away q s in
    let one : needed ys ≡ 1 + needed xs = grind (arith, away) in
    omega arith
  where
    slot_away : (o : OutgoingSlot) (v : Source) → at_home (record { place = Outgoing o; source = v }) ≡ false
    slot_away o (Number k) = refl
    slot_away o (Held r) = refl
    slot_away o (Local n) = refl

-- N, by places
pub needed_sum : (xs : List Argument) → Separate xs → AllByRecursion (λ a. place_in_range outgoing_slots a.place ≡ true) xs → needed xs ≡ by_registers xs + by_slots xs
needed_sum [] separate ranged =
    let one = sum_none (λ r. bit (moved r None)) registers (λ i k. refl) in
    let two = sum_none (λ o. bit (is_some {T = Source} None)) outgoing_slots (λ i k. refl) in
    omega arith
needed_sum (a ∷ xs) separate ranged =
    needed_more a.place a.source xs separate.0 ranged.0 (needed_sum xs separate.1 ranged.1)
