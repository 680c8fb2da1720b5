-- Tables of argument registers: what a table tells, and the tests that make it lawful. Assumes nothing.
use Rattle.std.specs.Prelude.{ℕ, Bool, true, not, ◌&&◌, List, [], ◌∷◌, map, take, ◌==◌}
use Rattle.std.specs.List.{list_all, list_any}
use Rattle.machine.specs.Places.{holds}
use Rattle.machine.specs.declared.places.Register.{Register}

-- a board has at most this many argument registers
abbrev pub argument_registers : ℕ
argument_registers = 8

-- the numbers of the first n registers
abbrev pub numbers : ℕ → List Register → List ℕ
numbers n rs = map (λ r. r.0) (take n rs)

abbrev pub has : ℕ → List ℕ → Bool
has r rs = list_any (λ x. r == x) rs

-- no number stands twice
abbrev pub distinct : List ℕ → Bool
distinct [] = true
distinct (r ∷ rs) = not (has r rs) && distinct rs

-- the set holds each register
abbrev pub all_held : ℕ → List ℕ → Bool
all_held set rs = list_all (holds set) rs
