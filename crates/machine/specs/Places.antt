-- Sets of registers. Assumes nothing.
use Rattle.std.specs.Prelude.{ℕ, ◌/◌, ◌%◌, ◌^◌, Bool, ◌&&◌, ◌==◌, nat_lt}
use Rattle.machine.specs.Limits.{registers}

-- bit r of a set stands for register r
abbrev pub holds : ℕ → ℕ → Bool
holds set r = nat_lt r registers && (set / 2 ^ r) % 2 == 1
