-- A call's arguments on origins: which are in their places. Assumes nothing.
use Rattle.std.proofs.Common.{◌≡◌, ℕ, true, false, cond, eqb, ltb, List, [], ◌∷◌, Some, sym, refl, ◌∙◌, inl, inr, arith}
use Rattle.std.specs.List.{AllByRecursion}
use Rattle.std.proofs.lemmas.Bool.{cases_Bool, cond-true}
use Rattle.std.proofs.lemmas.Bool.Decides.{nat_tests}
use Rattle.machine.specs.Limits.{registers, local_slots}
use Rattle.machine.specs.Words.{Start}
use Rattle.machine.specs.States.{State, begin}
use Rattle.machine.specs.Effects.{run}
use Rattle.machine.specs.declared.steps.Step.{Step}
use Rattle.conventions.specs.Arguments.{source_at, source_in_range}
use Rattle.conventions.specs.declared.arguments.Argument.{Argument}
use Rattle.conventions.specs.declared.arguments.Place.{Place}
use Rattle.conventions.specs.declared.arguments.Place.TheVariants.{Register, Outgoing}
use Rattle.conventions.specs.declared.arguments.Source.{Source}
use Rattle.conventions.specs.declared.arguments.Source.TheVariants.{Number, Register as Held, Local}
use Rattle.least.specs.Assignments.{Placed, place_word, reserved, source_word}
use Rattle.least.specs.Rivals.{Ordinary, Rival}
use Rattle.least.proofs.Origins.{Cell, register, local, outgoing, Origin, of_register, of_local, number, unknown, Map, after_all, allowed_moves, is_home, own, same_origin}
use Rattle.least.proofs.Starts.{Agrees, agrees, stands, told_apart}
use Rattle.conventions.proofs.Lookups.{looked_up}

abbrev pub cell_of : Place → Cell
cell_of (Register r) = register r.0
cell_of (Outgoing o) = outgoing o.0

abbrev pub origin_of : Source → Origin
origin_of (Number k) = number k
origin_of (Held r) = of_register r.0
origin_of (Local n) = of_local n.0

-- the argument at place p comes from source v
abbrev pub Wants : List Argument → Place → Source → Type 0
Wants xs p v = source_at xs p ≡ Some v

abbrev pub SourcesInRange : List Argument → Type 0
SourcesInRange xs = AllByRecursion (λ a. source_in_range a.source ≡ true) xs

-- each argument's place holds its source's origin
abbrev pub Right : Map → List Argument → Type 0
Right f xs = AllByRecursion (λ a. f (cell_of a.place) ≡ origin_of a.source) xs

place_origin : (s : Start) (f : Map) (σ : State) (p : Place) → Agrees s f σ → place_word σ p ≡ stands s (f (cell_of p))
place_origin s f σ (Register r) h = h (register r.0)
place_origin s f σ (Outgoing o) h = h (outgoing o.0)

source_origin : (s : Start) (v : Source) → source_in_range v ≡ true → source_word (begin s) v ≡ stands s (origin_of v)
source_origin s (Number k) e = refl
source_origin s (Held r) e = cond-true (ltb r.0 registers) _ _ e
source_origin s (Local n) e = cond-true (ltb n.0 local_slots) _ _ e

-- words that are right from every start come from origins that are right
module _ (τ : Start → State) (f : Map) (agree : (s : Start) → Agrees s f (τ s)) where
  right_on_origins : (xs : List Argument) → SourcesInRange xs → ((s : Start) → Ordinary s → Placed xs (begin s) (τ s)) → Right f xs
  right_on_origins [] es placed = tt
  right_on_origins (a ∷ xs) es placed = (
    told_apart _ _ (λ s ordinary. sym (place_origin s f (τ s) a.place (agree s)) ∙ (placed s ordinary).0 ∙ source_origin s a.source es.0),
    right_on_origins xs es.1 (λ s ordinary. (placed s ordinary).1),
  )

-- a rival is right on origins
pub rival_right : (xs : List Argument) (b : ℕ) (ps : List Step) → SourcesInRange xs → Rival xs b ps → Right (after_all ps own) xs
rival_right xs b ps es rival =
    let moves = allowed_moves b ps rival.moves in
    right_on_origins (λ s. run ps (reserved b (begin s))) (after_all ps own) (λ s. agrees s b ps moves) xs es rival.places

-- what sits below a limit in its own cell
within_limit : (n q r : ℕ) (o s : Origin) → same_origin o s ≡ eqb q r → same_origin unknown s ≡ false → ltb r n ≡ true → same_origin (cond (ltb q n) o unknown) s ≡ eqb q r
within_limit n q r o s same u e =
    elim (cases_Bool (ltb q n)) [ inl t ↦ rw t same | inr t ↦ rw t (u ∙ grind (arith, nat_tests, e, t)) ]

-- at first a source's origin sits in its own cell and in no other
pub sits_at_first : (v : Source) → source_in_range v ≡ true → (c : Cell) → same_origin (own c) (origin_of v) ≡ is_home (origin_of v) c
sits_at_first (Number k) e (register q) = grind (arith, cases_Bool (ltb q registers))
sits_at_first (Number k) e (local q) = grind (arith, cases_Bool (ltb q local_slots))
sits_at_first (Number k) e (outgoing q) = refl
sits_at_first (Held r) e (register q) = within_limit registers q r.0 (of_register q) (of_register r.0) refl refl e
sits_at_first (Held r) e (local q) = grind (arith, cases_Bool (ltb q local_slots))
sits_at_first (Held r) e (outgoing q) = refl
sits_at_first (Local n) e (register q) = grind (arith, cases_Bool (ltb q registers))
sits_at_first (Local n) e (local q) = within_limit local_slots q n.0 (of_local q) (of_local n.0) refl refl e
sits_at_first (Local n) e (outgoing q) = refl

-- where all is right, the place of each argument found holds its source's origin
pub right_at : (f : Map) (xs : List Argument) → Right f xs → (p : Place) (v : Source) → Wants xs p v → f (cell_of p) ≡ origin_of v
right_at f xs right p v found = looked_up (λ a. f (cell_of a.place) ≡ origin_of a.source) xs p v right found
