-- How many moves there are at most. Assumes nothing.
use Rattle.std.proofs.Common.{◌≡◌, ℕ, zero, suc, ◌+◌, ◌*◌, ◌≤◌, true, false, not, List, [], ◌∷◌, length, is_some, Some, None, Option, inl, inr, arith, length-append}
use Rattle.std.proofs.lemmas.Bool.{cases_Bool}
use Rattle.std.specs.List.{AllByRecursion}
use Rattle.machine.specs.Limits.{outgoing_slots, registers}
use Rattle.conventions.specs.Arguments.{Separate, at_home, in_register, in_slot, place_in_range}
use Rattle.conventions.specs.declared.arguments.Argument.{Argument}
use Rattle.conventions.specs.declared.arguments.Source.{Source}
use Rattle.least.specs.Counts.{needed}
use Rattle.order.specs.Indices.{first}
use Rattle.order.specs.Order.{choices, opened, order, spread_value, spreads, values_spread}
use Rattle.order.specs.Tables.{Choice, Table, choose, finished, is_free, next_table, opening_table, pending, reload, spill, spilled, spills as spills_of, take}
use Rattle.order.specs.Wants.{Wants, wants}
use Rattle.order.proofs.Choosing.{Chosen, chosen, reloads, spills, takes}
use Rattle.order.proofs.Counting.{length-each, needed_sum}
use Rattle.order.proofs.Ending.{opening_count, opening_frees, stuck, stuck_one, take_count}
use Rattle.order.proofs.Indices.{cases_option, first_some}
use Rattle.order.proofs.Lengths.{order_length, registers_once}
use Rattle.order.proofs.Sums.{bit, bit_most, count, sum, sum_at, sum_most}
use Rattle.order.proofs.Turning.{next_idle, scratch_other, slot_other}

-- where nothing is pending, nothing is free
some_pending : (t : Table) → 1 ≤ count (pending t) registers + stuck t
some_pending t =
    elim (cases_option (first (is_free t) registers)) [
      | inl d ↦
          let low = first_some (is_free t) registers d.0 d.1 in
          let at = sum_at (λ e. bit (pending t e)) registers d.0 low.below in
          let one : bit (pending t d.0) ≡ 1 = grind (arith, low.passes) in
          omega arith
      | inr none ↦ let one : stuck t ≡ 1 = grind (arith, none) in omega arith
    ]

-- a ring is opened through the scratch for each pending register at most; before the next, one takes its source
spills_next : (w : Wants) (scratch : ℕ) (t : Table) (k : Choice) (m : ℕ) → Chosen w t k → pending t scratch ≡ false → m + 1 ≤ count (pending (next_table scratch k t)) registers + stuck (next_table scratch k t) → length (spilled k) + m + 1 ≤ count (pending t) registers + stuck t
spills_next w scratch t (take d) m (takes low) idle rest =
    let fewer = take_count t d low.below (grind (arith, low.passes)) in
    let most = bit_most (not (is_some (first (is_free (next_table scratch (take d) t)) registers))) in
    omega arith
spills_next w scratch t (reload d o) m (reloads none h p slot) idle rest =
    let same = opening_count (in_register d) (in_slot o) t (λ e q. slot_other o e) in
    let free = opening_frees t (in_slot o) d h p (λ e q. slot_other o e) in
    omega arith
spills_next w scratch t (spill d) m (spills none unheld low) idle rest =
    let same = opening_count (in_register d) (in_register scratch) t (scratch_other t scratch idle) in
    let free = opening_frees t (in_register scratch) d low.below low.passes (scratch_other t scratch idle) in
    let one = stuck_one t none in
    omega arith
spills_next w scratch t finished m c idle rest = omega arith

spills_most : (w : Wants) (scratch n : ℕ) (t : Table) → pending t scratch ≡ false → length (spills_of w scratch n t) + 1 ≤ count (pending t) registers + stuck t
unfolding spills_of
spills_most w scratch zero t idle = omega (arith, some_pending t)
spills_most w scratch (suc n) t idle =
    let k = choose w t in
    let u : Table = next_table scratch k t in
    let rest = spills_most w scratch n u (next_idle scratch k t scratch idle) in
    let next = spills_next w scratch t k (length (spills_of w scratch n u)) (chosen w t) idle rest in
    let split = length-append (spilled k) (spills_of w scratch n u) in
    omega arith

opened_most : (w : Wants) (scratch : ℕ) → pending (opening_table w) scratch ≡ false → length (opened w scratch) ≤ count (pending (opening_table w)) registers
opened_most w scratch idle =
    let all = spills_most w scratch choices (opening_table w) idle in
    let one = bit_most (not (is_some (first (is_free (opening_table w)) registers))) in
    omega arith

value_most : (w : Wants) (o : ℕ) (want : Option Source) → length (spread_value w o want) ≤ bit (is_some want)
value_most w o None = omega arith
value_most w o (Some s) = elim (cases_Bool (spreads w o s)) [
  | inl yes' ↦ let one : length (spread_value w o (Some s)) ≡ 1 = grind (arith, yes') in omega arith
  | inr no' ↦ let none : length (spread_value w o (Some s)) ≡ 0 = grind (arith, no') in omega arith
]

values_most : (w : Wants) → length (values_spread w) ≤ sum (λ o. bit (is_some (w.outgoing o))) outgoing_slots
values_most w =
    let all = length-each (λ o. spread_value w o (w.outgoing o)) outgoing_slots in
    let most = sum_most (λ o. length (spread_value w o (w.outgoing o))) (λ o. bit (is_some (w.outgoing o))) outgoing_slots (λ o h. value_most w o (w.outgoing o)) in
    omega arith

pub needed_most : (xs : List Argument) → needed xs ≤ length xs
needed_most [] = omega arith
needed_most (a ∷ xs) = elim (cases_Bool (at_home a)) [
  | inl yes' ↦ let same : needed (a ∷ xs) ≡ 0 + needed xs = grind (arith, yes') in omega (arith, needed_most xs)
  | inr no' ↦ let more : needed (a ∷ xs) ≡ 1 + needed xs = grind (arith, no') in omega (arith, needed_most xs)
]

-- the moves are at most twice the arguments
pub order_most : (xs : List Argument) (scratch : ℕ) → Separate xs → AllByRecursion (λ a. place_in_range outgoing_slots a.place ≡ true) xs → pending (opening_table (wants xs)) scratch ≡ false → length (order xs scratch) ≤ 2 * length xs
order_most xs scratch separate ranged idle =
    let total = order_length xs scratch separate ranged idle in
    let need = needed_sum xs separate ranged in
    let few = needed_most xs in
    let rings = opened_most (wants xs) scratch idle in
    let values = values_most (wants xs) in
    let once = registers_once (wants xs) in
    omega arith
