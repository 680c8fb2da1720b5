-- When a step is in range, and when it is in turn. Assumes nothing.
use Rattle.std.specs.Prelude.{ℕ, ◌/◌, ◌%◌, Bool, true, false, cond, not, ◌&&◌, List, [], ◌∷◌, Ok, Err, Result, ◌==◌, nat_le, nat_lt}
use Rattle.machine.specs.Limits.{registers, local_slots, reserve_unit, reserve_limit, slot_bytes}
use Rattle.machine.specs.declared.refusals.Refusal.{Refusal}
use Rattle.machine.specs.declared.refusals.Refusal.TheVariants.{OutOfRange, OutOfTurn, NoRoom}
use Rattle.machine.specs.declared.places.Register.{Register}
use Rattle.machine.specs.declared.places.LocalSlot.{LocalSlot}
use Rattle.machine.specs.declared.places.OutgoingSlot.{OutgoingSlot}
use Rattle.machine.specs.declared.turns.Turn.{Turn}
use Rattle.machine.specs.declared.turns.Turn.TheVariants.{Bare, Reserved, Called}
use Rattle.machine.specs.declared.steps.Step.{Step}
use Rattle.machine.specs.declared.steps.Step.TheVariants.{Copy, Set, Fetch, Back, Store, Keep, Reserve, Call, Pop}

abbrev pub register_in_range : Register → Bool
register_in_range r = nat_lt r.0 registers

abbrev pub local_in_range : LocalSlot → Bool
local_in_range n = nat_lt n.0 local_slots

-- a size is a multiple of the unit, from the unit to the limit
abbrev pub size_in_range : ℕ → Bool
size_in_range b = b % reserve_unit == 0 && (nat_le reserve_unit b && nat_le b reserve_limit)

-- the bytes that the turn holds
abbrev pub held : Turn → ℕ
held Bare = 0
held (Reserved b) = b
held (Called b) = b

-- only the slots of the bytes held are there
abbrev pub outgoing_in_range : OutgoingSlot → Turn → Bool
outgoing_in_range o t = nat_lt o.0 (held t / slot_bytes)

abbrev pub in_range : Step → Turn → Bool
in_range (Copy d s) t = register_in_range d && register_in_range s
in_range (Set d k) t = register_in_range d
in_range (Fetch d n) t = register_in_range d && local_in_range n
in_range (Back d o) t = register_in_range d && outgoing_in_range o t
in_range (Store o s) t = outgoing_in_range o t && register_in_range s
in_range (Keep n s) t = local_in_range n && register_in_range s
in_range (Reserve b) t = size_in_range b
in_range (Call r m) t = true
in_range (Pop b) t = size_in_range b

abbrev pub is_bare : Turn → Bool
is_bare Bare = true
is_bare (Reserved b) = false
is_bare (Called b) = false

abbrev pub is_called : Turn → Bool
is_called Bare = false
is_called (Reserved b) = false
is_called (Called b) = true

-- reserve comes when bare, pop when called with the same size, and nothing else when called
abbrev pub in_turn : Step → Turn → Bool
in_turn (Copy d s) t = not (is_called t)
in_turn (Set d k) t = not (is_called t)
in_turn (Fetch d n) t = not (is_called t)
in_turn (Back d o) t = not (is_called t)
in_turn (Store o s) t = not (is_called t)
in_turn (Keep n s) t = not (is_called t)
in_turn (Reserve b) t = is_bare t
in_turn (Call r m) t = not (is_called t)
in_turn (Pop b) t = is_called t && b == held t

-- a step out of range or out of turn is refused, in this order, and otherwise r is the answer
abbrev pub judged : {A : Type 0} → Step → Turn → Result A Refusal → Result A Refusal
judged p t r = cond (in_range p t) (cond (in_turn p t) r (Err OutOfTurn)) (Err OutOfRange)

-- an emitter's answer to a step at this turn and room
abbrev pub verdict : Step → Turn → ℕ → Result (Unit {0}) Refusal
verdict p t room = judged p t (cond (room == 0) (Err NoRoom) (Ok tt))

-- a call uses up what was reserved
abbrev pub turn_called : Turn → Turn
turn_called Bare = Bare
turn_called (Reserved b) = Called b
turn_called (Called b) = Called b

-- the turn that a step leaves
abbrev pub turn_after : Step → Turn → Turn
turn_after (Copy d s) t = t
turn_after (Set d k) t = t
turn_after (Fetch d n) t = t
turn_after (Back d o) t = t
turn_after (Store o s) t = t
turn_after (Keep n s) t = t
turn_after (Reserve b) t = Reserved b
turn_after (Call r m) t = turn_called t
turn_after (Pop b) t = Bare

-- the turn that a step leaves, or why it is refused
abbrev pub moved : Step → Turn → Result Turn Refusal
moved p t = judged p t (Ok (turn_after p t))

-- the turn that a list of steps leaves, or why its first refused step is refused
abbrev pub walked : List Step → Turn → Result Turn Refusal
walked [] t = Ok t
walked (p ∷ ps) t = elim (moved p t) [ Ok u ↦ walked ps u | Err f ↦ Err f ]
