-- What the table of wants stands for. Assumes nothing.
use Rattle.std.specs.Prelude.{ℕ, Some, None, Option, slice_index_or}
use Rattle.machine.specs.declared.places.OutgoingSlot.{OutgoingSlot}
use Rattle.machine.specs.declared.places.Register.{Register}
use Rattle.order.specs.Wants.{Wants}
use Rattle.moves.specs.declared.wants.Wants.{Wants as WantsTable}

abbrev pub wants_in : WantsTable → Wants
wants_in w = record {
  register = λ r. slice_index_or w.by_register r None;
  outgoing = λ o. slice_index_or w.by_slot o None;
}

-- the numbers of a register and a slot that were found
abbrev pub register_number : Option Register → Option ℕ
register_number None = None
register_number (Some r) = Some r.0

abbrev pub slot_number : Option OutgoingSlot → Option ℕ
slot_number None = None
slot_number (Some o) = Some o.0
