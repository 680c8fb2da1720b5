-- A bounded list is no longer than its bound. Assumes nothing.
use Rattle.std.proofs.Common.{ℕ, ◌≤◌, length, arith}
use Rattle.std.proofs.lemmas.List.{length-take}
use Rattle.bounded_lists.specs.Lists.{items}
use Rattle.bounded_lists.specs.declared.lists.BoundedList.{BoundedList}

pub length-items : {A : Type 0} {N : ℕ} (l : BoundedList A N) → length (items l) ≤ N
length-items l = omega (arith, length-take l.count l.entries, l.few)
