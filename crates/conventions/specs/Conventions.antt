-- What a convention tells, and its laws. Assumes nothing.
use Rattle.std.specs.Prelude.{◌≡◌, ℕ, ◌+◌, ◌-◌, ◌<◌, ◌≤◌, Bool, true, false, cond, nat_lt}
use Rattle.machine.specs.Limits.{registers, local_slots, outgoing_slots}
use Rattle.machine.specs.Places.{holds}
use Rattle.machine.specs.declared.places.Register.{Register}
use Rattle.machine.specs.declared.places.RegisterSet.{RegisterSet}
use Rattle.conventions.specs.declared.arguments.Place.{Place}
use Rattle.conventions.specs.declared.arguments.Place.TheVariants.{Register as at_register, Outgoing}
use Rattle.conventions.specs.declared.arguments.Source.{Source}
use Rattle.conventions.specs.declared.arguments.Source.TheVariants.{Number, Register as Held, Local}

-- a call has at most this many arguments, hidden and given
abbrev pub argument_limit : ℕ
argument_limit = 32

-- what a convention answers; i counts given arguments, and hidden ones, from 0
pub record Answers : Type 0 where
  -- the hidden arguments, or one more than the limit for all that are more
  pub hidden : ℕ
  pub hidden_place : ℕ → Place
  pub hidden_source : ℕ → Source
  pub place : ℕ → Place
  -- the outgoing slots for n given arguments
  pub slots : ℕ → ℕ
  pub scratch : Register
  pub usable : RegisterSet
  pub lost : RegisterSet

-- the place of argument i, the hidden ones first
abbrev pub place_of : Answers → ℕ → Place
place_of a i = cond (nat_lt i a.hidden) (a.hidden_place i) (a.place (i - a.hidden))

-- an argument register is usable, and an outgoing slot is one of the slots
abbrev pub place_lawful : ℕ → ℕ → Place → Bool
place_lawful usable slots (at_register r) = holds usable r.0
place_lawful usable slots (Outgoing o) = nat_lt o.0 slots

-- a hidden source is a usable register, a local slot in range, or a number
abbrev pub source_lawful : ℕ → Source → Bool
source_lawful usable (Number k) = true
source_lawful usable (Held r) = holds usable r.0
source_lawful usable (Local n) = nat_lt n.0 local_slots

-- the laws, for every number n of given arguments that a call can have
pub record Lawful (a : Answers) : Type 0 where
  pub hidden_few : a.hidden ≤ argument_limit + 1
  pub different : (n i j : ℕ) → a.hidden + n ≤ argument_limit → i < a.hidden + n → j < a.hidden + n → place_of a i ≡ place_of a j → i ≡ j
  pub places : (n i : ℕ) → a.hidden + n ≤ argument_limit → i < a.hidden + n → place_lawful a.usable.0 (a.slots n) (place_of a i) ≡ true
  pub slots_few : (n : ℕ) → a.hidden + n ≤ argument_limit → a.slots n ≤ outgoing_slots
  pub scratch_in_range : a.scratch.0 < registers
  pub scratch_reserved : holds a.usable.0 a.scratch.0 ≡ false
  pub sources : (n i : ℕ) → a.hidden + n ≤ argument_limit → i < a.hidden → source_lawful a.usable.0 (a.hidden_source i) ≡ true
