-- The conventions of the three boards, and what a board answers. Assumes nothing.
use Rattle.std.specs.Prelude.{ℕ, ◌-◌, cond, List, [], ◌∷◌, length, nat_lt, slice_index}
use Rattle.conventions.specs.declared.arguments.Place.{Place}
use Rattle.conventions.specs.declared.arguments.Source.TheVariants.{Number}
use Rattle.conventions.specs.Arguments.{in_register, in_slot}
use Rattle.conventions.specs.Conventions.{Answers}
use Rattle.conventions.specs.Tables.{numbers}
use Rattle.conventions.specs.declared.boards.Board.{Board}

-- the place of argument i, where these registers are the first places
abbrev pub in_order : List ℕ → ℕ → Place
in_order rs i = cond (nat_lt i (length rs)) (in_register (slice_index rs i)) (in_slot (i - length rs))

-- A convention without hidden arguments: argument registers in their order, then outgoing slots from 0 up; the scratch
-- register, the usable set and the lost set.
abbrev pub registers_first : List ℕ → ℕ → ℕ → ℕ → Answers
registers_first rs scratch usable lost = record {
  hidden = 0;
  hidden_place = λ i. in_register 0;
  hidden_source = λ i. Number 0;
  place = in_order rs;
  slots = λ n. n - length rs;
  scratch = record { 0 = scratch };
  usable = record { 0 = usable };
  lost = record { 0 = lost };
}

-- what a board answers
abbrev pub board_answers : Board → Answers
board_answers b = registers_first (numbers b.count b.registers) b.scratch.0 b.usable.0 b.lost.0

-- System V AMD64, registers numbered as x86-64 encodes them
abbrev pub sysv : Answers
sysv = registers_first (7 ∷ 6 ∷ 2 ∷ 1 ∷ 8 ∷ 9 ∷ []) 11 0x0000F7EF 0x00000FC7

-- AAPCS64
abbrev pub aapcs64 : Answers
aapcs64 = registers_first (0 ∷ 1 ∷ 2 ∷ 3 ∷ 4 ∷ 5 ∷ 6 ∷ 7 ∷ []) 16 0x1FFAFFFF 0x4007FFFF

-- RISC-V LP64
abbrev pub riscv : Answers
riscv = registers_first (10 ∷ 11 ∷ 12 ∷ 13 ∷ 14 ∷ 15 ∷ 16 ∷ 17 ∷ []) 31 0x7FFFFFE0 0xF003FCE2
