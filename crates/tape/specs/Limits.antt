-- The tape's limits, each named once. src/limits.rt has them for the code. Assumes nothing.
use Rattle.std.specs.Prelude.{ℕ}

-- the longest command, in bytes: a tape with fewer free bytes has no room
abbrev pub longest_command : ℕ
longest_command = 10

-- the longest tape that a reader takes, in bytes
abbrev pub tape_limit : ℕ
tape_limit = 65536
