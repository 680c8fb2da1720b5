-- The counts N, C and M of a call's arguments. Assumes nothing.
use Rattle.std.specs.Prelude.{◌≡◌, ℕ, ◌+◌, ◌≤◌, Bool, true, false, cond, ◌||◌, ◌⊎◌, List, [], ◌∷◌, length, Some, ◌==◌, ◌≢◌}
use Rattle.std.specs.List.{AllByRecursion}
use Rattle.conventions.specs.Arguments.{at_home, from_register, in_register, in_slot, same_source, source_at}
use Rattle.conventions.specs.declared.arguments.Argument.{Argument}
use Rattle.conventions.specs.declared.arguments.Place.{Place}
use Rattle.conventions.specs.declared.arguments.Place.TheVariants.{Register, Outgoing}
use Rattle.conventions.specs.declared.arguments.Source.{Source}
use Rattle.conventions.specs.declared.arguments.Source.TheVariants.{Number, Register as Held, Local}

-- N: the arguments whose source is not their own place
abbrev pub needed : List Argument → ℕ
needed [] = 0
needed (a ∷ xs) = cond (at_home a) 0 1 + needed xs

-- register d is the place of an argument whose source is register s
abbrev pub Reads : List Argument → ℕ → ℕ → Type 0
Reads xs d s = source_at xs (in_register d) ≡ Some (from_register s)

-- a register is among these
abbrev pub among : List ℕ → ℕ → Bool
among [] r = false
among (q ∷ rs) r = q == r || among rs r

-- no register comes twice
abbrev pub Different : List ℕ → Type 0
Different [] = Unit {0}
Different (r ∷ rs) = (among rs r ≡ false) × Different rs

-- registers from the first to the last, each the place of an argument whose source is the next
pub data Chain (xs : List Argument) : ℕ → ℕ → List ℕ → Type 0 where
  last : {d : ℕ} → Chain xs d d (d ∷ [])
  link : {d e l : ℕ} {rs : List ℕ} → Reads xs d e → Chain xs e l rs → Chain xs d l (d ∷ rs)

-- a ring: two or more different registers, each the place of an argument whose source is the next, and after the last the first
pub record Ring (xs : List Argument) (rs : List ℕ) : Type 0 where
  pub first : ℕ
  pub final : ℕ
  pub chain : Chain xs first final rs
  pub closes : Reads xs final first
  pub different : Different rs
  pub two : 2 ≤ length rs

-- the place is one of these registers
abbrev pub within : List ℕ → Place → Bool
within rs (Register r) = among rs r.0
within rs (Outgoing o) = false

-- a closed ring: no register of it is the source of an argument outside it
pub record Closed (xs : List Argument) (rs : List ℕ) : Type 0 where
  pub ring : Ring xs rs
  pub alone : (p : Place) (r : ℕ) → among rs r ≡ true → source_at xs p ≡ Some (from_register r) → within rs p ≡ true

-- no register is in two of the lists
abbrev pub Disjoint : List (List ℕ) → Type 0
Disjoint [] = Unit {0}
Disjoint (rs ∷ rest) = AllByRecursion (λ qs. (r : ℕ) → among rs r ≡ true → among qs r ≡ false) rest × Disjoint rest

-- one of the lists has just these registers
abbrev pub Listed : List ℕ → List (List ℕ) → Type 0
Listed rs [] = ⊥
Listed rs (qs ∷ rest) = ((r : ℕ) → among rs r ≡ among qs r) ⊎ Listed rs rest

-- C: there are c closed rings
pub record Rings (xs : List Argument) (c : ℕ) : Type 0 where
  pub rings : List (List ℕ)
  pub closed : AllByRecursion (Closed xs) rings
  pub disjoint : Disjoint rings
  pub every : (rs : List ℕ) → Closed xs rs → Listed rs rings
  pub count : length rings ≡ c

-- a number or a local slot
abbrev pub is_value : Source → Bool
is_value (Number k) = true
is_value (Held r) = false
is_value (Local n) = true

-- a number or a local slot that is the source of an argument in an outgoing slot and of none in a register
pub record Spread (xs : List Argument) (v : Source) : Type 0 where
  pub value : is_value v ≡ true
  pub slot : ℕ
  pub wanted : source_at xs (in_slot slot) ≡ Some v
  pub unplaced : (r : ℕ) → source_at xs (in_register r) ≢ Some v

-- a source is among these
abbrev pub has_source : List Source → Source → Bool
has_source [] v = false
has_source (w ∷ vs) v = same_source w v || has_source vs v

abbrev pub Distinct : List Source → Type 0
Distinct [] = Unit {0}
Distinct (v ∷ vs) = (has_source vs v ≡ false) × Distinct vs

-- M: there are m such numbers and local slots
pub record Values (xs : List Argument) (m : ℕ) : Type 0 where
  pub values : List Source
  pub spread : AllByRecursion (Spread xs) values
  pub distinct : Distinct values
  pub every : (v : Source) → Spread xs v → has_source values v ≡ true
  pub count : length values ≡ m
