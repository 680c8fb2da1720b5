-- A step as a command: its first byte, then its operands, each low byte first. Assumes nothing.
use Rattle.std.specs.Prelude.{◌≡◌, ℕ, zero, suc, ◌+◌, ◌*◌, ◌/◌, ◌%◌, ◌^◌, Bool, true, cond, ◌&&◌, List, [], ◌∷◌, ◌++◌, length, take, drop, Some, None, Ok, Err, Option, Result, nat_le, nat_lt}
use Rattle.machine.specs.declared.refusals.Refusal.{Refusal}
use Rattle.machine.specs.declared.refusals.Refusal.TheVariants.{CutShort, UnknownCommand}
use Rattle.machine.specs.declared.steps.Step.{Step}
use Rattle.machine.specs.declared.steps.Step.TheVariants.{Copy, Set, Fetch, Back, Store, Keep, Reserve, Call, Pop}
use Rattle.tape.specs.Opcodes.{first_byte, first_width, opcode_at, operand_bytes, second_width}
use Rattle.tape.specs.declared.commands.Command.{Command}
use Rattle.tape.specs.declared.opcodes.Opcode.{Opcode}
use Rattle.tape.specs.declared.opcodes.Opcode.TheVariants as op

-- the low w bytes of a number, low byte first
unfoldable pub little : ℕ → ℕ → List ℕ
little zero v = []
little (suc w) v = v % 256 ∷ little w (v / 256)

-- the number that bytes write, low byte first
unfoldable pub value : List ℕ → ℕ
value [] = 0
value (b ∷ bs) = b + 256 * value bs

abbrev pub command : Opcode → ℕ → ℕ → Command
command o a b = record { opcode = o; first = a; second = b }

-- a step's command; the second operand is 0 where there is none
abbrev pub command_of : Step → Command
command_of (Copy d s) = command op.Copy d.0 s.0
command_of (Set d k) = command op.Set d.0 k
command_of (Fetch d n) = command op.Fetch d.0 n.0
command_of (Back d o) = command op.Back d.0 o.0
command_of (Store o s) = command op.Store o.0 s.0
command_of (Keep n s) = command op.Keep n.0 s.0
command_of (Reserve b) = command op.Reserve b 0
command_of (Call r m) = command op.Call r m.0
command_of (Pop b) = command op.Pop b 0

abbrev pub step_by : Opcode → ℕ → ℕ → Step
step_by op.Copy a b = Copy (record { 0 = a }) (record { 0 = b })
step_by op.Set a b = Set (record { 0 = a }) b
step_by op.Fetch a b = Fetch (record { 0 = a }) (record { 0 = b })
step_by op.Back a b = Back (record { 0 = a }) (record { 0 = b })
step_by op.Store a b = Store (record { 0 = a }) (record { 0 = b })
step_by op.Keep a b = Keep (record { 0 = a }) (record { 0 = b })
step_by op.Reserve a b = Reserve a
step_by op.Call a b = Call a (record { 0 = b })
step_by op.Pop a b = Pop a

-- a command's step
abbrev pub step_of : Command → Step
step_of c = step_by c.opcode c.first c.second

-- the operands are numbers of their widths, as those of every step that a program holds
abbrev pub fits : Command → Bool
fits c = nat_lt c.first (2 ^ (8 * first_width c.opcode)) && nat_lt c.second (2 ^ (8 * second_width c.opcode))

-- the command of a step, whose operands are numbers of their widths
pub record CommandOf (p : Step) (c : Command) : Type 0 where
  pub is : c ≡ command_of p
  pub fit : fits c ≡ true

abbrev pub bytes_of : Command → List ℕ
bytes_of c = first_byte c.opcode ∷ (little (first_width c.opcode) c.first ++ little (second_width c.opcode) c.second)

-- how many they are
abbrev pub size : Command → ℕ
size c = operand_bytes c.opcode + 1

-- a step as bytes
unfoldable pub encode : Step → List ℕ
encode p = bytes_of (command_of p)

-- the step of a command with these operands and whatever follows them
abbrev pub step_at : Option Opcode → List ℕ → Result Step Refusal
step_at None bs = Err UnknownCommand
step_at (Some o) bs =
    cond (nat_le (operand_bytes o) (length bs))
    (Ok (step_by o (value (take (first_width o) bs)) (value (take (second_width o) (drop (first_width o) bs)))))
    (Err CutShort)

-- the step whose command the bytes begin with
unfoldable pub first_step : List ℕ → Result Step Refusal
first_step [] = Err CutShort
first_step (b ∷ bs) = step_at (opcode_at b) bs
