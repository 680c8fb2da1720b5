-- Different registers below a number are few. Assumes nothing.
use Rattle.std.proofs.Common.{◌≡◌, ℕ, ◌<◌, ◌≤◌, List, [], ◌∷◌, length, refl, arith}
use Rattle.std.proofs.lemmas.Bool.Decides.{nat_tests}
use Rattle.std.specs.List.{AllByRecursion}
use Rattle.least.specs.Counts.{Different, among}
use Rattle.order.proofs.Sums.{bit, bit_most, count, sum_change, sum_none, sum_ones}

-- different registers below n are at most n
pub different_few : (n : ℕ) (rs : List ℕ) → Different rs → AllByRecursion (λ r. r < n) rs → length rs ≤ n
different_few n rs different below =
    let ones = sum_ones (λ i. bit (among rs i)) n (λ i k. bit_most (among rs i)) in
    let all = counted n rs different below in
    omega arith
  where
    counted : (m : ℕ) (qs : List ℕ) → Different qs → AllByRecursion (λ r. r < m) qs → count (among qs) m ≡ length qs
    counted m [] d b = sum_none (λ i. bit (among [] i)) m (λ i k. refl)
    counted m (q ∷ qs) d b =
        let rest = counted m qs d.1 b.1 in
        let change = sum_change (λ i. bit (among (q ∷ qs) i)) (λ i. bit (among qs i)) m q b.0 (λ i k ne. grind (arith, nat_tests, ne)) in
        let one : bit (among (q ∷ qs) q) ≡ 1 = grind (arith, nat_tests) in
        let none : bit (among qs q) ≡ 0 = grind (arith, d.0) in
        omega arith
