-- The machine's limits, each named once. src/limits.rt has them for the code. Assumes nothing.
use Rattle.std.specs.Prelude.{ℕ}

-- registers are numbered from 0
abbrev pub registers : ℕ
registers = 32

-- local slots are numbered from 0
abbrev pub local_slots : ℕ
local_slots = 1024

-- outgoing slots are numbered from 0
abbrev pub outgoing_slots : ℕ
outgoing_slots = 32

-- a reservation is a multiple of this many bytes
abbrev pub reserve_unit : ℕ
reserve_unit = 16

-- the largest reservation, in bytes
abbrev pub reserve_limit : ℕ
reserve_limit = 256

-- one slot's bytes
abbrev pub slot_bytes : ℕ
slot_bytes = 8
