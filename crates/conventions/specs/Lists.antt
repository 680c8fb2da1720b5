-- The sources that an argument list holds, and when it refuses one more. Assumes nothing.
use Rattle.std.specs.Prelude.{◌≡◌, ℕ, cond, List, [], ◌∷◌, ◌++◌, length, Ok, Err, Result, nat_lt}
use Rattle.bounded_lists.specs.Lists.{items}
use Rattle.machine.specs.Limits.{local_slots, registers}
use Rattle.machine.specs.declared.refusals.Refusal.{Refusal}
use Rattle.machine.specs.declared.refusals.Refusal.TheVariants.{ListFull, NoSuchLocalSlot, NoSuchRegister}
use Rattle.conventions.specs.Conventions.{argument_limit}
use Rattle.conventions.specs.declared.arguments.Source.{Source}
use Rattle.conventions.specs.declared.arguments.Source.TheVariants.{Number, Register as Held, Local}
use Rattle.conventions.specs.declared.lists.ArgumentList.{ArgumentList}

abbrev pub listed : ArgumentList → List Source
listed l = items l.sources

-- a register above the last and a local slot above the last are refused
abbrev pub source_verdict : Source → Result (Unit {0}) Refusal
source_verdict (Number k) = Ok tt
source_verdict (Held r) = cond (nat_lt r.0 registers) (Ok tt) (Err NoSuchRegister)
source_verdict (Local n) = cond (nat_lt n.0 local_slots) (Ok tt) (Err NoSuchLocalSlot)

-- the answer to one more source, where n are listed: a full list is told first
abbrev pub add_verdict : ℕ → Source → Result (Unit {0}) Refusal
add_verdict n s = cond (nat_lt n argument_limit) (source_verdict s) (Err ListFull)

-- what adding did to the list: one more at its end, or nothing at all
abbrev pub Grown : Source → Result (Unit {0}) Refusal → ArgumentList → ArgumentList → Type 0
Grown s (Ok _) a b = listed b ≡ listed a ++ (s ∷ [])
Grown s (Err _) a b = b ≡ a

-- the answer to adding a source, and what it did
pub record Added (s : Source) (r : Result (Unit {0}) Refusal) (a b : ArgumentList) : Type 0 where
  pub answer : r ≡ add_verdict (length (listed a)) s
  pub did : Grown s r a b
