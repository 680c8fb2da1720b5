-- The order has N + C + M moves. Assumes nothing.
use Rattle.std.proofs.Common.{◌≡◌, ℕ, ◌+◌, true, false, not, List, ◌++◌, length, is_some, Some, None, Option, refl, ap, inl, inr, arith, length-append}
use Rattle.std.proofs.lemmas.Bool.Decides.{nat_tests}
use Rattle.std.specs.List.{AllByRecursion}
use Rattle.machine.specs.Limits.{outgoing_slots, registers}
use Rattle.conventions.specs.Arguments.{Separate, in_register, place_in_range, same_place}
use Rattle.conventions.specs.declared.arguments.Argument.{Argument}
use Rattle.conventions.specs.declared.arguments.Source.{Source}
use Rattle.conventions.specs.declared.arguments.Source.TheVariants.{Number, Register as Held, Local}
use Rattle.least.specs.Counts.{is_value, needed}
use Rattle.order.specs.Order.{choices, load, loaded_registers, opened, order, settled, spread_values, store_held, store_loaded, stored_registers, stored_values, values_spread}
use Rattle.order.specs.Tables.{opening_table, pending, pending_source}
use Rattle.order.specs.Wants.{Wants, lowest_register, wants}
use Rattle.order.proofs.Choosing.{tables}
use Rattle.order.proofs.Counting.{length-each, moved, needed_sum, settle_count}
use Rattle.order.proofs.Ending.{ends}
use Rattle.order.proofs.Indices.{cases_option}
use Rattle.order.proofs.SpreadOnce.{length-spread_values, unplaced_want}
use Rattle.order.proofs.Sums.{bit, count, sum, sum_add, sum_none, sum_same}

-- an outgoing slot that is wanted is stored once
loaded_once : (w : Wants) (o : ℕ) (s : Source) → is_value s ≡ true → bit (unplaced_want w (Some s)) + length (store_loaded w o (Some s)) ≡ 1
loaded_once w o s value =
    elim (cases_option (lowest_register w s)) [
      | inl r ↦ grind (arith, value, r.1)
      | inr none ↦ grind (arith, value, none)
    ]

slot_once : (w : Wants) (o : ℕ) (want : Option Source) → length (store_held o want) + (bit (unplaced_want w want) + length (store_loaded w o want)) ≡ bit (is_some want)
slot_once w o None = refl
slot_once w o (Some (Number k)) = let once = loaded_once w o (Number k) refl in omega arith
slot_once w o (Some (Held r)) = refl
slot_once w o (Some (Local n)) = let once = loaded_once w o (Local n) refl in omega arith

-- a register whose argument is not there already takes it once
register_once : (r : ℕ) (want : Option Source) → bit (not (same_place (pending_source r want) (in_register r))) + length (load r want) ≡ bit (moved r want)
register_once r None = grind (arith, nat_tests)
register_once r (Some (Number k)) = grind (arith, nat_tests)
register_once r (Some (Held q)) = grind (arith, nat_tests)
register_once r (Some (Local n)) = grind (arith, nat_tests)

slots_once : (w : Wants) → length (stored_registers w) + (sum (λ o. bit (unplaced_want w (w.outgoing o))) outgoing_slots + length (stored_values w)) ≡ sum (λ o. bit (is_some (w.outgoing o))) outgoing_slots
slots_once w =
    let held = length-each (λ o. store_held o (w.outgoing o)) outgoing_slots in
    let loaded = length-each (λ o. store_loaded w o (w.outgoing o)) outgoing_slots in
    let right = sum_add (λ o. bit (unplaced_want w (w.outgoing o))) (λ o. length (store_loaded w o (w.outgoing o))) outgoing_slots in
    let all = sum_add (λ o. length (store_held o (w.outgoing o))) (λ o. bit (unplaced_want w (w.outgoing o)) + length (store_loaded w o (w.outgoing o))) outgoing_slots in
    let once = sum_same (λ o. length (store_held o (w.outgoing o)) + (bit (unplaced_want w (w.outgoing o)) + length (store_loaded w o (w.outgoing o)))) (λ o. bit (is_some (w.outgoing o))) outgoing_slots (λ o h. slot_once w o (w.outgoing o)) in
    omega arith

pub registers_once : (w : Wants) → count (pending (opening_table w)) registers + length (loaded_registers w) ≡ sum (λ r. bit (moved r (w.register r))) registers
registers_once w =
    let loaded = length-each (λ r. load r (w.register r)) registers in
    let both = sum_add (λ r. bit (pending (opening_table w) r)) (λ r. length (load r (w.register r))) registers in
    let once = sum_same (λ r. bit (pending (opening_table w) r) + length (load r (w.register r))) (λ r. bit (moved r (w.register r))) registers (λ r h. register_once r (w.register r)) in
    omega arith

settled_count : (w : Wants) (scratch : ℕ) → pending (opening_table w) scratch ≡ false → length (settled w scratch) ≡ count (pending (opening_table w)) registers + length (opened w scratch)
settled_count w scratch idle =
    let o = opening_table w in
    let all = settle_count w scratch choices o idle in
    let none = sum_none (λ r. bit (pending (tables w scratch choices o) r)) registers (λ r h. ap bit (ends w scratch o idle r h)) in
    omega arith

pub order_length : (xs : List Argument) (scratch : ℕ) → Separate xs → AllByRecursion (λ a. place_in_range outgoing_slots a.place ≡ true) xs → pending (opening_table (wants xs)) scratch ≡ false → length (order xs scratch) ≡ needed xs + length (opened (wants xs) scratch) + length (values_spread (wants xs))
order_length xs scratch separate ranged idle =
    let w = wants xs in
    let need = needed_sum xs separate ranged in
    let slots = slots_once w in
    let regs = registers_once w in
    let spread = length-spread_values w scratch in
    let settle = settled_count w scratch idle in
    let one = length-append (stored_registers w) (spread_values w scratch ++ (settled w scratch ++ (loaded_registers w ++ stored_values w))) in
    let two = length-append (spread_values w scratch) (settled w scratch ++ (loaded_registers w ++ stored_values w)) in
    let three = length-append (settled w scratch) (loaded_registers w ++ stored_values w) in
    let four = length-append (loaded_registers w) (stored_values w) in
    omega arith
