-- The table of pending moves between registers. Assumes nothing.
use Rattle.std.specs.Prelude.{ℕ, zero, suc, Bool, cond, not, ◌&&◌, List, [], ◌∷◌, ◌++◌, is_some, Some, None, Option}
use Rattle.machine.specs.Limits.{registers}
use Rattle.machine.specs.declared.steps.Step.{Step}
use Rattle.machine.specs.declared.steps.Step.TheVariants.{Copy, Back}
use Rattle.conventions.specs.Arguments.{from_register, in_register, in_slot, same_place}
use Rattle.conventions.specs.declared.arguments.Place.{Place}
use Rattle.conventions.specs.declared.arguments.Place.TheVariants.{Register, Outgoing}
use Rattle.conventions.specs.declared.arguments.Source.{Source}
use Rattle.conventions.specs.declared.arguments.Source.TheVariants.{Number, Register as Held, Local}
use Rattle.order.specs.Indices.{first}
use Rattle.order.specs.Wants.{Wants, lowest_slot}

-- The present source of each register. A register that is not pending names itself.
abbrev pub Table : Type 0
Table = ℕ → Place

-- a register with another register as its source is pending
abbrev pub pending_source : ℕ → Option Source → Place
pending_source r None = in_register r
pending_source r (Some s) = elim s [ Number k ↦ in_register r | Held q ↦ Register q | Local n ↦ in_register r ]

abbrev pub opening_table : Wants → Table
opening_table w r = pending_source r (w.register r)

abbrev pub pending : Table → ℕ → Bool
pending t r = not (same_place (t r) (in_register r))

-- register e is pending and reads register d
abbrev pub reads : Table → ℕ → ℕ → Bool
reads t d e = pending t e && same_place (t e) (in_register d)

abbrev pub is_read : Table → ℕ → Bool
is_read t d = is_some (first (reads t d) registers)

-- pending, and read by no pending move
abbrev pub is_free : Table → ℕ → Bool
is_free t d = pending t d && not (is_read t d)

-- the pending moves that read s turned to read c
abbrev pub turned : Place → Place → Table → Table
turned s c t e = cond (pending t e && same_place (t e) s) c (t e)

-- What comes next: a register takes its source; a ring is opened at register d, by turning its reader to the outgoing slot o
-- that holds it; a ring is opened at d through the scratch; nothing is pending.
pub data Choice : Type 0 where
  take : ℕ → Choice
  reload : ℕ → ℕ → Choice
  spill : ℕ → Choice
  finished : Choice

-- every pending register is read, and d is the lowest pending one that an outgoing slot holds, if there is one
abbrev pub opening : Wants → Table → Choice
opening w t =
    elim (first (λ d. pending t d && is_some (lowest_slot w (from_register d))) registers) [
      | Some d ↦ elim (lowest_slot w (from_register d)) [ Some o ↦ reload d o | None ↦ finished ]
      | None ↦ elim (first (pending t) registers) [ Some d ↦ spill d | None ↦ finished ]
    ]

abbrev pub choose : Wants → Table → Choice
choose w t = elim (first (is_free t) registers) [ Some d ↦ take d | None ↦ opening w t ]

-- the step by which a register takes the word at a place
abbrev pub fill : ℕ → Place → Step
fill d (Register s) = Copy (record { 0 = d }) s
fill d (Outgoing o) = Back (record { 0 = d }) o

-- the steps that a choice gives
abbrev pub given : ℕ → Choice → Table → List Step
given scratch (take d) t = fill d (t d) ∷ []
given scratch (reload d o) t = []
given scratch (spill d) t = fill scratch (in_register d) ∷ []
given scratch finished t = []

-- the table that a choice leaves
abbrev pub next_table : ℕ → Choice → Table → Table
next_table scratch (take d) t = turned (t d) (in_register d) t
next_table scratch (reload d o) t = turned (in_register d) (in_slot o) t
next_table scratch (spill d) t = turned (in_register d) (in_register scratch) t
next_table scratch finished t = t

-- the steps of so many choices
unfoldable pub settle : Wants → ℕ → ℕ → Table → List Step
settle w scratch zero t = []
settle w scratch (suc n) t = given scratch (choose w t) t ++ settle w scratch n (next_table scratch (choose w t) t)

-- the register whose ring a choice opens through the scratch
abbrev pub spilled : Choice → List ℕ
spilled (take d) = []
spilled (reload d o) = []
spilled (spill d) = d ∷ []
spilled finished = []

-- those of so many choices
unfoldable pub spills : Wants → ℕ → ℕ → Table → List ℕ
spills w scratch zero t = []
spills w scratch (suc n) t = spilled (choose w t) ++ spills w scratch n (next_table scratch (choose w t) t)
