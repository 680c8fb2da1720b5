-- The first byte of each command, and how many bytes its operands take. Assumes nothing.
use Rattle.std.specs.Prelude.{ℕ, ◌+◌, cond, Some, None, Option, ◌==◌}
use Rattle.tape.specs.declared.opcodes.Opcode.{Opcode}
use Rattle.tape.specs.declared.opcodes.Opcode.TheVariants.{Copy, Set, Fetch, Back, Store, Keep, Reserve, Call, Pop}

abbrev pub first_byte : Opcode → ℕ
first_byte Copy = 1
first_byte Set = 2
first_byte Fetch = 3
first_byte Back = 4
first_byte Store = 5
first_byte Keep = 6
first_byte Reserve = 7
first_byte Call = 8
first_byte Pop = 9

-- op if its byte is b, and otherwise what comes after
abbrev try : ℕ → Opcode → Option Opcode → Option Opcode
try b op after = cond (b == first_byte op) (Some op) after

-- the command that begins with a byte, if any does
abbrev pub opcode_at : ℕ → Option Opcode
opcode_at b =
    try b Copy (try b Set (try b Fetch (try b Back (try b Store (try b Keep (try b Reserve (try b Call (try b Pop None))))))))

-- a register takes 1 byte, a slot or a size 2, a routine or a set 4, and a number 8
abbrev pub first_width : Opcode → ℕ
first_width Copy = 1
first_width Set = 1
first_width Fetch = 1
first_width Back = 1
first_width Store = 2
first_width Keep = 2
first_width Reserve = 2
first_width Call = 4
first_width Pop = 2

-- 0 where there is no second operand
abbrev pub second_width : Opcode → ℕ
second_width Copy = 1
second_width Set = 8
second_width Fetch = 2
second_width Back = 2
second_width Store = 1
second_width Keep = 1
second_width Reserve = 0
second_width Call = 4
second_width Pop = 0

-- the bytes of the operands together
abbrev pub operand_bytes : Opcode → ℕ
operand_bytes op = first_width op + second_width op
