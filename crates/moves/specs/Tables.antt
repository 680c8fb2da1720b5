-- What the table of pending moves stands for. Assumes nothing.
use Rattle.std.specs.Prelude.{◌≡◌, ℕ, ◌+◌, ◌<◌, Bool, false, cond, not, ◌&&◌, List, ◌++◌, length, is_some, Some, None, Option, ◌==◌, nat_lt, slice_index_or}
use Rattle.machine.specs.Limits.{registers}
use Rattle.machine.specs.declared.steps.Step.{Step}
use Rattle.conventions.specs.Arguments.{from_register, in_register}
use Rattle.conventions.specs.declared.arguments.Place.{Place}
use Rattle.conventions.specs.declared.arguments.Place.TheVariants.{Register, Outgoing}
use Rattle.order.specs.Indices.{first}
use Rattle.order.specs.Tables.{Choice, Table, finished, pending, reads, reload, settle, spill, spills, take}
use Rattle.order.specs.Wants.{Wants, lowest_slot}
use Rattle.moves.specs.declared.choices.Choice.{Choice as CodedChoice}
use Rattle.moves.specs.declared.choices.Choice.TheVariants.{Reload, Spill, Take}
use Rattle.moves.specs.declared.pendings.PendingMoves.{PendingMoves}

-- registers past the last name themselves
abbrev pub table_in : PendingMoves → Table
table_in p r = cond (nat_lt r registers) (slice_index_or p.moves r (record { from = in_register 0 })).from (in_register r)

-- what comes next, where none says that nothing is pending
abbrev pub choice_in : Option CodedChoice → Choice
choice_in None = finished
choice_in (Some k) = elim k [ Take d ↦ take d.0 | Reload d o ↦ reload d.0 o.0 | Spill d ↦ spill d.0 ]

-- pending, and held by an outgoing slot
abbrev pub held : Wants → Table → ℕ → Bool
held w t d = pending t d && is_some (lowest_slot w (from_register d))

-- the register that a pending move reads
abbrev pub named_register : ℕ → Place → Option ℕ
named_register e (Register q) = cond (not (q.0 == e) && nat_lt q.0 registers) (Some q.0) None
named_register e (Outgoing o) = None

abbrev pub read_by : Table → ℕ → Option ℕ
read_by t e = named_register e (t e)

-- the marks say of each register whether a pending move below e reads it
pub record Marked (t : Table) (e : ℕ) (marks : List Bool) : Type 0 where
  pub marks_read : (d : ℕ) → d < registers → slice_index_or marks d false ≡ is_some (first (reads t d) e)
  pub whole : length marks ≡ registers

-- From table t, n choices added their steps to the moves, and r is how many rings they opened through the scratch.
pub record Settled (w : Wants) (scratch n : ℕ) (t : Table) (before after : List Step) (r : ℕ) : Type 0 where
  pub moves : after ≡ before ++ settle w scratch n t
  pub longer : length after ≡ length before + length (settle w scratch n t)
  pub rings : r ≡ length (spills w scratch n t)
