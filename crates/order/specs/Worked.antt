-- Worked calls, from the definitions. Assumes nothing.
use Rattle.std.specs.Prelude.{◌≡◌, ℕ, List, [], ◌∷◌, length, replicate, Ok, Err}
use Rattle.machine.specs.declared.refusals.Refusal.TheVariants.{NotUsable, TooManyArguments}
use Rattle.machine.specs.declared.steps.Step.{Step}
use Rattle.machine.specs.declared.steps.Step.TheVariants.{Back, Copy, Fetch, Set, Store}
use Rattle.conventions.specs.Boards.{riscv, sysv}
use Rattle.conventions.specs.Calls.{arguments_of, bytes_for, call_verdict}
use Rattle.conventions.specs.Conventions.{Answers}
use Rattle.conventions.specs.Handles.{handle_first}
use Rattle.conventions.specs.declared.arguments.Source.{Source}
use Rattle.conventions.specs.declared.arguments.Source.TheVariants.{Number, Register, Local}
use Rattle.order.specs.Order.{order}

-- sources and moves by their numbers
abbrev r : ℕ → Source
r n = Register (record { 0 = n })

abbrev l : ℕ → Source
l n = Local (record { 0 = n })

abbrev k : ℕ → Source
k n = Number n

abbrev copy : ℕ → ℕ → Step
copy d s = Copy (record { 0 = d }) (record { 0 = s })

abbrev set : ℕ → ℕ → Step
set d n = Set (record { 0 = d }) n

abbrev fetch : ℕ → ℕ → Step
fetch d n = Fetch (record { 0 = d }) (record { 0 = n })

abbrev back : ℕ → ℕ → Step
back d o = Back (record { 0 = d }) (record { 0 = o })

abbrev store : ℕ → ℕ → Step
store o s = Store (record { 0 = o }) (record { 0 = s })

-- the moves of a call with these sources given
abbrev moves : Answers → List Source → List Step
moves a ss = order (arguments_of a ss) a.scratch.0

-- the bytes reserved for it
abbrev bytes : Answers → List Source → ℕ
bytes a ss = bytes_for (a.slots (length ss))

pub record Worked : Type 0 where
  pub exchange : moves sysv (r 6 ∷ r 7 ∷ []) ≡ copy 11 6 ∷ copy 6 7 ∷ copy 7 11 ∷ []
  pub exchange_read_twice : moves sysv (r 6 ∷ r 7 ∷ r 6 ∷ []) ≡ copy 2 6 ∷ copy 6 7 ∷ copy 7 2 ∷ []
  pub exchange_stored : moves sysv (r 6 ∷ r 7 ∷ r 2 ∷ r 1 ∷ r 8 ∷ r 9 ∷ r 7 ∷ []) ≡ store 0 7 ∷ copy 7 6 ∷ back 6 0 ∷ []
  pub exchange_stored_bytes : bytes sysv (r 6 ∷ r 7 ∷ r 2 ∷ r 1 ∷ r 8 ∷ r 9 ∷ r 7 ∷ []) ≡ 16
  pub local_spread : moves sysv (r 7 ∷ r 6 ∷ r 2 ∷ r 1 ∷ r 8 ∷ r 9 ∷ l 3 ∷ l 3 ∷ []) ≡ fetch 11 3 ∷ store 0 11 ∷ store 1 11 ∷ []
  pub number_shared : moves sysv (k 5 ∷ r 6 ∷ r 2 ∷ r 1 ∷ r 8 ∷ r 9 ∷ k 5 ∷ []) ≡ set 7 5 ∷ store 0 7 ∷ []
  pub none : moves sysv [] ≡ []
  pub none_bytes : bytes sysv [] ≡ 0
  pub in_place : moves sysv (r 7 ∷ []) ≡ []
  pub handle : moves (handle_first riscv) (r 10 ∷ []) ≡ copy 11 10 ∷ fetch 10 0 ∷ []
  pub most_bytes : (s : Source) → bytes sysv (replicate 32 s) ≡ 208
  pub too_many : (s : Source) → call_verdict (handle_first sysv) (replicate 32 s) ≡ Err TooManyArguments
  pub scratch_refused : call_verdict sysv (r 11 ∷ []) ≡ Err NotUsable
  pub usable_accepted : call_verdict sysv (r 10 ∷ []) ≡ Ok tt
