-- Arguments: places and sources compared, looked up and in range. Assumes nothing.
use Rattle.std.specs.Prelude.{◌≡◌, ℕ, Bool, true, false, cond, not, ◌&&◌, List, [], ◌∷◌, Some, None, Option, ◌==◌, nat_lt}
use Rattle.std.specs.List.{AllByRecursion}
use Rattle.machine.specs.Limits.{registers, local_slots}
use Rattle.conventions.specs.declared.arguments.Argument.{Argument}
use Rattle.conventions.specs.declared.arguments.Place.{Place}
use Rattle.conventions.specs.declared.arguments.Place.TheVariants.{Register, Outgoing}
use Rattle.conventions.specs.declared.arguments.Source.{Source}
use Rattle.conventions.specs.declared.arguments.Source.TheVariants.{Number, Register as Held, Local}

-- the place that is register r
abbrev pub in_register : ℕ → Place
in_register r = Register (record { 0 = r })

-- the place that is outgoing slot o
abbrev pub in_slot : ℕ → Place
in_slot o = Outgoing (record { 0 = o })

-- the source that is register r
abbrev pub from_register : ℕ → Source
from_register r = Held (record { 0 = r })

abbrev pub same_place : Place → Place → Bool
same_place (Register a) (Register b) = a.0 == b.0
same_place (Register a) (Outgoing b) = false
same_place (Outgoing a) (Register b) = false
same_place (Outgoing a) (Outgoing b) = a.0 == b.0

abbrev pub same_source : Source → Source → Bool
same_source (Number a) (Number b) = a == b
same_source (Number a) (Held b) = false
same_source (Number a) (Local b) = false
same_source (Held a) (Number b) = false
same_source (Held a) (Held b) = a.0 == b.0
same_source (Held a) (Local b) = false
same_source (Local a) (Number b) = false
same_source (Local a) (Held b) = false
same_source (Local a) (Local b) = a.0 == b.0

-- the source of the argument at a place
abbrev pub source_at : List Argument → Place → Option Source
source_at [] p = None
source_at (a ∷ xs) p = cond (same_place a.place p) (Some a.source) (source_at xs p)

-- the source is the place itself
abbrev pub at_home : Argument → Bool
at_home a = elim a.source [ Number k ↦ false | Held r ↦ same_place a.place (Register r) | Local n ↦ false ]

-- a register below the last, and a local slot below the limit
abbrev pub source_in_range : Source → Bool
source_in_range (Number k) = true
source_in_range (Held r) = nat_lt r.0 registers
source_in_range (Local n) = nat_lt n.0 local_slots

-- a register below the last, and one of the slots reserved
abbrev pub place_in_range : ℕ → Place → Bool
place_in_range slots (Register r) = nat_lt r.0 registers
place_in_range slots (Outgoing o) = nat_lt o.0 slots

-- neither the place nor the source is register r
abbrev pub apart_from : ℕ → Argument → Bool
apart_from r a = not (same_place a.place (in_register r)) && not (same_source a.source (from_register r))

-- no two arguments have one place
abbrev pub Separate : List Argument → Type 0
Separate [] = Unit {0}
Separate (a ∷ xs) = (source_at xs a.place ≡ None) × Separate xs

-- arguments that can be put into their places: each in a place of its own, all in range, and none at or from the
-- scratch register
pub record Arranged (xs : List Argument) (scratch slots : ℕ) : Type 0 where
  pub separate : Separate xs
  pub places : AllByRecursion (λ a. place_in_range slots a.place ≡ true) xs
  pub sources : AllByRecursion (λ a. source_in_range a.source ≡ true) xs
  pub off_scratch : AllByRecursion (λ a. apart_from scratch a ≡ true) xs
  pub scratch_in_range : nat_lt scratch registers ≡ true
