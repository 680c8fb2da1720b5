-- The limit of a call's moves. src/limits.rt has it for the code. Assumes nothing.
use Rattle.std.specs.Prelude.{ℕ, ◌*◌}
use Rattle.conventions.specs.Conventions.{argument_limit}

-- a call has at most this many moves: each argument's own, and one more for each ring and each value that is spread
abbrev pub move_limit : ℕ
move_limit = 2 * argument_limit
