-- What each register and each outgoing slot is to hold. Assumes nothing.
use Rattle.std.specs.Prelude.{ℕ, Bool, false, List, Some, None, Option}
use Rattle.machine.specs.Limits.{registers, outgoing_slots}
use Rattle.conventions.specs.Arguments.{in_register, in_slot, same_source, source_at}
use Rattle.conventions.specs.declared.arguments.Argument.{Argument}
use Rattle.conventions.specs.declared.arguments.Source.{Source}
use Rattle.order.specs.Indices.{first}

-- the source of the argument in a register, and in an outgoing slot
pub record Wants : Type 0 where
  pub register : ℕ → Option Source
  pub outgoing : ℕ → Option Source

abbrev pub wants : List Argument → Wants
wants xs = record {
  register = λ r. source_at xs (in_register r);
  outgoing = λ o. source_at xs (in_slot o);
}

-- the source wanted is this one
abbrev pub is_source : Option Source → Source → Bool
is_source None s = false
is_source (Some t) s = same_source t s

-- the lowest register that wants this source
abbrev pub lowest_register : Wants → Source → Option ℕ
lowest_register w s = first (λ r. is_source (w.register r) s) registers

-- the lowest outgoing slot that wants this source
abbrev pub lowest_slot : Wants → Source → Option ℕ
lowest_slot w s = first (λ o. is_source (w.outgoing o) s) outgoing_slots
