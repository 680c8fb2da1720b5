-- The words of an area after the words were rewritten. Assumes nothing.
use Rattle.std.proofs.Common.{◌≡◌, ℕ, ◌+◌, ◌<◌, ◌≤◌, ◌⊎◌, arith}
use Rattle.std.proofs.Math.Path.{fun_ext}
use Rattle.std.proofs.lemmas.Bool.Decides.{nat_tests}
use Rattle.machine.specs.Effects.{lose}
use Rattle.machine.specs.Limits.{registers}
use Rattle.machine.specs.States.{blank, put}
use Rattle.machine.specs.declared.words.Word.{Word}
use Rattle.bench.specs.Cells.{area, copied, wiped}

module _ (w : ℕ → Word) (first n : ℕ) where
  pub area_put : (x : Word) (j i : ℕ) → j ≡ first + i → i < n → area (put j x w) first n ≡ put i x (area w first n)
  area_put x j i e h = fun_ext (λ k. grind (arith, nat_tests))

  pub area_wiped : (from m : ℕ) → from ≤ first → first + n ≤ from + m → area (wiped from m w) first n ≡ blank
  area_wiped from m begins ends = fun_ext (λ k. grind (arith, nat_tests))

  pub area_copied : (from : ℕ) → area (copied from first n w) first n ≡ area w from n
  area_copied from = fun_ext (λ k. grind (arith, nat_tests))

  -- what is not in the area leaves it alone
  pub put_elsewhere : (x : Word) (j : ℕ) → (j < first) ⊎ (first + n ≤ j) → area (put j x w) first n ≡ area w first n
  put_elsewhere x j out = fun_ext (λ k. grind (arith, nat_tests))

  pub wiped_elsewhere : (from m : ℕ) → (from + m ≤ first) ⊎ (first + n ≤ from) → area (wiped from m w) first n ≡ area w first n
  wiped_elsewhere from m out = fun_ext (λ k. grind (arith, nat_tests))

  pub copied_elsewhere : (from to m : ℕ) → (to + m ≤ first) ⊎ (first + n ≤ to) → area (copied from to m w) first n ≡ area w first n
  copied_elsewhere from to m out = fun_ext (λ k. grind (arith, nat_tests))

  pub lose_elsewhere : (m : ℕ) → registers ≤ first → area (lose m w) first n ≡ area w first n
  lose_elsewhere m h = fun_ext (λ k. grind (arith, nat_tests))

pub area_lose : (w : ℕ → Word) (m : ℕ) → area (lose m w) 0 registers ≡ lose m (area w 0 registers)
area_lose w m = fun_ext (λ k. grind (arith, nat_tests))
