-- What each step does to a bench. Assumes nothing.
use Rattle.std.proofs.Common.{◌≡◌, ℕ, ◌+◌, ◌/◌, ◌<◌, ◌≤◌, true, length, get_or, set, refl, ap, ◌∙◌, arith}
use Rattle.std.proofs.lemmas.Bool.{and_parts}
use Rattle.std.proofs.lemmas.Bool.Decides.{nat_tests}
use Rattle.machine.specs.Effects.{effect}
use Rattle.machine.specs.Limits.{local_slots, outgoing_slots, registers, reserve_limit, slot_bytes}
use Rattle.machine.specs.States.{put}
use Rattle.machine.specs.Turns.{held, in_range, outgoing_in_range, register_in_range, turn_after, turn_called}
use Rattle.machine.specs.Words.{Start}
use Rattle.machine.specs.declared.places.LocalSlot.{LocalSlot}
use Rattle.machine.specs.declared.places.OutgoingSlot.{OutgoingSlot}
use Rattle.machine.specs.declared.places.Register.{Register}
use Rattle.machine.specs.declared.places.RegisterSet.{RegisterSet}
use Rattle.machine.specs.declared.steps.Step.{Step}
use Rattle.machine.specs.declared.steps.Step.TheVariants.{Copy, Set, Fetch, Back, Store, Keep, Reserve, Call}
use Rattle.machine.specs.declared.turns.Turn.TheVariants.{Reserved}
use Rattle.machine.specs.declared.words.Word.{Word}
use Rattle.machine.specs.declared.words.Word.TheVariants.{Number}
use Rattle.bench.specs.Benches.{Acted, Rewritten, bench_meaning}
use Rattle.bench.specs.Cells.{area, bench_steps, call_words, cell_count, first_local, first_outgoing, state_of, wiped, words}
use Rattle.bench.specs.declared.benches.Bench.{Bench}
use Rattle.bench.proofs.Rewrites.{with_cells}
use Rattle.bench.proofs.States.{called, put_local, put_outgoing, put_register, reserved}
use Rattle.bench.proofs.Words.{cell_word, words_set}

-- the step puts x into cell j and does nothing else
pub record Writes {W : Type 0} (stands : W → Start → Word) (a : Bench W) (step : Step) (j : ℕ) (x : W) : Type 0 where
  pub inside : j < cell_count
  pub state : (s : Start) → state_of (put j (stands x s) (words (λ c. stands c s) a.cells.now)) (turn_after step a.turn) a.calls a.routine ≡ effect step ((bench_meaning stands).state a s)

-- what a cell of a stands for, as a word of its area
word : {W : Type 0} (stands : W → Start → Word) (a : Bench W) (first n i j : ℕ) (d : W) → j ≡ first + i → i < n → j < cell_count → (s : Start) → stands (get_or a.cells.now j d) s ≡ area (words (λ c. stands c s) a.cells.now) first n i
word stands a first n i j d e h inside s = cell_word (λ c. stands c s) a.cells.now first n i j d e h (omega (arith, a.whole))

-- the bytes held have no more slots than there are
slot_there : {W : Type 0} (a : Bench W) (o : OutgoingSlot) → outgoing_in_range o a.turn ≡ true → o.0 < outgoing_slots
slot_there a o r = let held-slots : o.0 < held a.turn / slot_bytes = grind (arith, nat_tests) in omega (arith, a.sized)

module _ {W : Type 0} {stands : W → Start → Word} {a : Bench W} where
  -- a step that is `here` and there puts x into cell j
  pub acted_set : {step here : Step} {j : ℕ} {x : W} {whole : length (set a.cells.now j x) ≡ cell_count} {sized : held a.turn ≤ reserve_limit} {few : a.taken ≤ bench_steps} {counted : a.calls ≤ a.taken} → step ≡ here → in_range step a.turn ≡ true → (in_range here a.turn ≡ true → Writes stands a here j x) → Acted stands step a (with_cells a (set a.cells.now j x) whole sized few counted)
  acted_set {here = here} {j = j} {x = x} is allowed writes =
      let w = writes (rw is at allowed) in
      rw is record {
        state = λ s. ap (λ (w : ℕ → Word). state_of w (turn_after here a.turn) a.calls a.routine) (words_set (λ c. stands c s) a.cells.now j x (omega (arith, a.whole, w.inside))) ∙ w.state s;
        turn = refl;
        taken = refl;
        lent = refl;
      }

  pub copy_writes : {to from : Register} (d : W) → in_range (Copy to from) a.turn ≡ true → Writes stands a (Copy to from) to.0 (get_or a.cells.now from.0 d)
  copy_writes {to} {from} d r =
      let target : to.0 < registers = grind (arith, nat_tests) in
      let source : from.0 < registers = grind (arith, nat_tests) in
      record {
        inside = omega arith;
        state = λ s. rw (word stands a 0 registers from.0 from.0 d (omega arith) source (omega arith) s) (put_register (words (λ c. stands c s) a.cells.now) a.turn a.calls a.routine to.0 _ target);
      }

  pub set_writes : {to : Register} {k : ℕ} {x : W} → ((s : Start) → stands x s ≡ Number k) → in_range (Set to k) a.turn ≡ true → Writes stands a (Set to k) to.0 x
  set_writes {to} number r =
      let target : to.0 < registers = grind (arith, nat_tests) in
      record {
        inside = omega arith;
        state = λ s. rw (number s) (put_register (words (λ c. stands c s) a.cells.now) a.turn a.calls a.routine to.0 _ target);
      }

  pub fetch_writes : {to : Register} {from : LocalSlot} (d : W) → in_range (Fetch to from) a.turn ≡ true → Writes stands a (Fetch to from) to.0 (get_or a.cells.now (first_local + from.0) d)
  fetch_writes {to} {from} d r =
      let target : to.0 < registers = grind (arith, nat_tests) in
      let source : from.0 < local_slots = grind (arith, nat_tests) in
      record {
        inside = omega arith;
        state = λ s. rw (word stands a first_local local_slots from.0 (first_local + from.0) d refl source (omega arith) s) (put_register (words (λ c. stands c s) a.cells.now) a.turn a.calls a.routine to.0 _ target);
      }

  pub back_writes : {to : Register} {from : OutgoingSlot} (d : W) → in_range (Back to from) a.turn ≡ true → Writes stands a (Back to from) to.0 (get_or a.cells.now (first_outgoing + from.0) d)
  back_writes {to} {from} d r =
      let target : to.0 < registers = grind (arith, nat_tests) in
      let source : from.0 < outgoing_slots = slot_there a from (and_parts (register_in_range to) (outgoing_in_range from a.turn) r).1 in
      record {
        inside = omega arith;
        state = λ s. rw (word stands a first_outgoing outgoing_slots from.0 (first_outgoing + from.0) d refl source (omega arith) s) (put_register (words (λ c. stands c s) a.cells.now) a.turn a.calls a.routine to.0 _ target);
      }

  pub store_writes : {to : OutgoingSlot} {from : Register} (d : W) → in_range (Store to from) a.turn ≡ true → Writes stands a (Store to from) (first_outgoing + to.0) (get_or a.cells.now from.0 d)
  store_writes {to} {from} d r =
      let target : to.0 < outgoing_slots = slot_there a to (and_parts (outgoing_in_range to a.turn) (register_in_range from) r).0 in
      let source : from.0 < registers = grind (arith, nat_tests) in
      record {
        inside = omega arith;
        state = λ s. rw (word stands a 0 registers from.0 from.0 d (omega arith) source (omega arith) s) (put_outgoing (words (λ c. stands c s) a.cells.now) a.turn a.calls a.routine to.0 _ target);
      }

  pub keep_writes : {to : LocalSlot} {from : Register} (d : W) → in_range (Keep to from) a.turn ≡ true → Writes stands a (Keep to from) (first_local + to.0) (get_or a.cells.now from.0 d)
  keep_writes {to} {from} d r =
      let target : to.0 < local_slots = grind (arith, nat_tests) in
      let source : from.0 < registers = grind (arith, nat_tests) in
      record {
        inside = omega arith;
        state = λ s. rw (word stands a 0 registers from.0 from.0 d (omega arith) source (omega arith) s) (put_local (words (λ c. stands c s) a.cells.now) a.turn a.calls a.routine to.0 _ target);
      }

  pub acted_reserve : {b : Bench W} {bytes : ℕ} → Rewritten stands (wiped first_outgoing outgoing_slots) a b → Acted stands (Reserve bytes) a b
  acted_reserve {bytes = bytes} r = record {
    state = λ s. (λ i. state_of (r.cells s i) (Reserved bytes) (r.calls i) (r.routine i)) ∙ reserved (words (λ c. stands c s) a.cells.now) a.turn a.calls a.routine bytes;
    turn = r.turn;
    taken = r.taken;
    lent = r.lent;
  }

  -- b is a after the call was recorded, and before it was counted
  pub called_state : {b : Bench W} {routine : ℕ} (lost : RegisterSet) → Rewritten stands (call_words lost.0) a b → (s : Start) → state_of (words (λ c. stands c s) b.cells.now) (turn_called a.turn) (b.calls + 1) routine ≡ effect (Call routine lost) ((bench_meaning stands).state a s)
  called_state {routine = routine} lost r s =
      (λ i. state_of (r.cells s i) (turn_called a.turn) (r.calls i + 1) routine)
      ∙ called (words (λ c. stands c s) a.cells.now) a.turn a.calls a.routine routine lost
