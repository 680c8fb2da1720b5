-- The arguments of a call, and when a call is refused. Assumes nothing.
use Rattle.std.specs.Prelude.{◌≡◌, ℕ, zero, suc, ◌+◌, ◌-◌, ◌*◌, ◌/◌, ◌≤◌, Bool, true, cond, List, [], ◌∷◌, ◌++◌, length, Ok, Err, Result, nat_le}
use Rattle.std.specs.List.{list_all}
use Rattle.bounded_lists.specs.Lists.{items}
use Rattle.machine.specs.Limits.{outgoing_slots, reserve_unit, slot_bytes}
use Rattle.machine.specs.Places.{holds}
use Rattle.machine.specs.declared.refusals.Refusal.{Refusal}
use Rattle.machine.specs.declared.refusals.Refusal.TheVariants.{NotUsable, TooManyArguments}
use Rattle.conventions.specs.declared.arguments.Argument.{Argument}
use Rattle.conventions.specs.declared.arguments.Source.{Source}
use Rattle.conventions.specs.declared.arguments.Source.TheVariants.{Number, Register as Held, Local}
use Rattle.conventions.specs.declared.calls.Arguments.{Arguments}
use Rattle.conventions.specs.Arguments.{Arranged}
use Rattle.conventions.specs.Conventions.{Answers, argument_limit}

-- the first n hidden arguments
unfoldable pub hidden_arguments : Answers → ℕ → List Argument
hidden_arguments a zero = []
hidden_arguments a (suc n) = hidden_arguments a n ++ (record { place = a.hidden_place n; source = a.hidden_source n } ∷ [])

-- the given arguments from number i on
abbrev pub given_arguments : Answers → ℕ → List Source → List Argument
given_arguments a i [] = []
given_arguments a i (s ∷ ss) = record { place = a.place i; source = s } ∷ given_arguments a (i + 1) ss

-- the arguments of a call with these sources given: the hidden ones, then the given
abbrev pub arguments_of : Answers → List Source → List Argument
arguments_of a ss = hidden_arguments a a.hidden ++ given_arguments a 0 ss

-- a source that is a register is a usable one
abbrev pub source_usable : ℕ → Source → Bool
source_usable usable (Number k) = true
source_usable usable (Held r) = holds usable r.0
source_usable usable (Local n) = true

abbrev pub all_usable : ℕ → List Source → Bool
all_usable usable ss = list_all (source_usable usable) ss

-- a call is refused for too many arguments, then for a listed register that is not usable
abbrev pub call_verdict : Answers → List Source → Result (Unit {0}) Refusal
call_verdict a ss =
    cond (nat_le (a.hidden + length ss) argument_limit) (cond (all_usable a.usable.0 ss) (Ok tt) (Err NotUsable)) (Err TooManyArguments)

-- the bytes reserved for so many outgoing slots: a whole number of units
abbrev pub bytes_for : ℕ → ℕ
bytes_for slots = reserve_unit * ((slot_bytes * slots + (reserve_unit - 1)) / reserve_unit)

abbrev pub arguments_in : Arguments → List Argument
arguments_in t = items t.entries

-- the arguments of a call that is not refused: they can be put into their places
pub record Filled (a : Answers) (ss : List Source) (t : Arguments) : Type 0 where
  pub answer : call_verdict a ss ≡ Ok tt
  pub are : arguments_in t ≡ arguments_of a ss
  pub arranged : Arranged (arguments_of a ss) a.scratch.0 (a.slots (length ss))
  pub slots_few : a.slots (length ss) ≤ outgoing_slots

-- the answer to a call with these sources given
abbrev pub Called : Answers → List Source → Result Arguments Refusal → Type 0
Called a ss (Ok t) = Filled a ss t
Called a ss (Err f) = call_verdict a ss ≡ Err f
