-- The items that a bounded list holds. Assumes nothing.
use Rattle.std.specs.Prelude.{ℕ, List, take}
use Rattle.bounded_lists.specs.declared.lists.BoundedList.{BoundedList}

abbrev pub items : {A : Type 0} {N : ℕ} → BoundedList A N → List A
items l = take l.count l.entries
