use Rattle.std.proofs.Common.{◌≡◌, ℕ, ◌<◌, get_or}
use Rattle.bench.specs.declared.origins.Origin.TheVariants.{Unknown, Register, Local}
use Rattle.bench.proofs.benches.opens.own_origins.Given as goal

abbrev pub invariant-loop-r : goal.invariant-loop-r
invariant-loop-r l = (k : ℕ) → k < l.r → get_or l.registers k Unknown ≡ Register (record { 0 = k })

abbrev pub invariant-loop-n : goal.invariant-loop-n
invariant-loop-n l = (k : ℕ) → k < l.n → get_or l.locals k Unknown ≡ Local (record { 0 = k })
