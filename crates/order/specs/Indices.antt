-- Going through the indices below a number, upwards. Assumes nothing.
use Rattle.std.specs.Prelude.{ℕ, zero, suc, Bool, cond, List, [], ◌++◌, Some, None, Option}

-- the lowest index below n that passes the test
unfoldable pub first : (ℕ → Bool) → ℕ → Option ℕ
first p zero = None
first p (suc n) = elim (first p n) [ Some i ↦ Some i | None ↦ cond (p n) (Some n) None ]

-- what f gives at each index below n, one after the other
unfoldable pub each : {A : Type 0} → (ℕ → List A) → ℕ → List A
each f zero = []
each f (suc n) = each f n ++ f n
