-- The arguments of a call under a lawful convention are arranged. Assumes nothing.
use Rattle.std.proofs.Common.{◌≡◌, ℕ, zero, suc, ◌+◌, ◌-◌, ◌<◌, ◌≤◌, true, false, eqb, List, [], ◌∷◌, length, get_or, None, sym, refl, ap, ◌∙◌, inl, inr, arith, length-append}
use Rattle.std.proofs.ByRecursion.{All-append, All-from_get_or, All-push, All-weaker}
use Rattle.std.proofs.lemmas.List.{get_or_append_left, get_or-append_right, get_or_at, length_push}
use Rattle.std.proofs.lemmas.Bool.{and_from, and_parts, both_ways, cases_Bool, cases_lt, eqb-true, lt-ltb, not_from_false}
use Rattle.std.proofs.lemmas.Bool.Decides.{nat_tests}
use Rattle.std.specs.List.{AllByRecursion}
use Rattle.machine.specs.Limits.{registers}
use Rattle.machine.specs.Places.{holds}
use Rattle.conventions.specs.Arguments.{Arranged, Separate, apart_from, from_register, in_register, place_in_range, same_place, same_source, source_at, source_in_range}
use Rattle.conventions.specs.Calls.{all_usable, arguments_of, given_arguments, hidden_arguments, source_usable}
use Rattle.conventions.specs.Conventions.{Answers, Lawful, argument_limit, place_lawful, place_of, source_lawful}
use Rattle.conventions.specs.declared.arguments.Argument.{Argument}
use Rattle.conventions.specs.declared.arguments.Place.{Place}
use Rattle.conventions.specs.declared.arguments.Place.TheVariants.{Register, Outgoing}
use Rattle.conventions.specs.declared.arguments.Source.{Source}
use Rattle.conventions.specs.declared.arguments.Source.TheVariants.{Number, Register as Held, Local}
use Rattle.conventions.proofs.Places.{place_same}

-- any argument will do where one is wanted
some_argument : Argument
some_argument = record { place = Register (record { 0 = 0 }); source = Number 0 }

none_at : (xs : List Argument) (p : Place) → ((k : ℕ) → k < length xs → (get_or xs k some_argument).place ≡ p → ⊥) → source_at xs p ≡ None
none_at [] p other = refl
none_at (x ∷ xs) p other =
    elim (cases_Bool (same_place x.place p)) [
      | inl same ↦ absurd (other 0 (omega arith) (place_same x.place p same))
      | inr apart ↦ rw apart (none_at xs p (λ k there. other (suc k) (omega arith)))
    ]

separate : (xs : List Argument)
    → ((i j : ℕ) → i < length xs → j < length xs → (get_or xs i some_argument).place ≡ (get_or xs j some_argument).place → i ≡ j) → Separate xs
separate [] different = tt
separate (x ∷ xs) different = (
  none_at xs x.place (λ k there same. let e : suc k ≡ 0 = different (suc k) 0 (omega arith) (omega arith) same in omega arith),
  separate xs (λ i j i-there j-there same. let e : suc i ≡ suc j = different (suc i) (suc j) (omega arith) (omega arith) same in omega arith),
)

-- what is known of a source under a convention
module _ (usable : ℕ) where
  given_lawful : (s : Source) → source_in_range s ≡ true → source_usable usable s ≡ true → source_lawful usable s ≡ true
  given_lawful (Number k) in_range used = refl
  given_lawful (Held r) in_range used = used
  given_lawful (Local n) in_range used = in_range

  lawful_in_range : (s : Source) → source_lawful usable s ≡ true → source_in_range s ≡ true
  lawful_in_range (Number k) law = refl
  lawful_in_range (Held r) law = grind (arith, nat_tests, law)
  lawful_in_range (Local n) law = law

  lawful_place_in_range : (slots : ℕ) (p : Place) → place_lawful usable slots p ≡ true → place_in_range slots p ≡ true
  lawful_place_in_range slots (Register r) law = grind (arith, nat_tests, law)
  lawful_place_in_range slots (Outgoing o) law = law

  module _ (scratch : ℕ) (reserved : holds usable scratch ≡ false) where
    place_off_scratch : (slots : ℕ) (p : Place) → place_lawful usable slots p ≡ true → same_place p (in_register scratch) ≡ false
    place_off_scratch slots (Register r) law =
        elim (cases_Bool (eqb r.0 scratch)) [
          | inl same ↦ let e : r.0 ≡ scratch = eqb-true r.0 scratch same in absurd (both_ways (holds usable scratch) reserved (ap (holds usable) (sym e) ∙ law))
          | inr apart ↦ apart
        ]
    place_off_scratch slots (Outgoing o) law = refl

    source_off_scratch : (s : Source) → source_lawful usable s ≡ true → same_source s (from_register scratch) ≡ false
    source_off_scratch (Number k) law = refl
    source_off_scratch (Held r) law = place_off_scratch 0 (Register r) law
    source_off_scratch (Local n) law = refl

-- the arguments by their numbers
module _ (a : Answers) where
  pub length-hidden : (n : ℕ) → length (hidden_arguments a n) ≡ n
  unfolding hidden_arguments
  length-hidden zero = refl
  length-hidden (suc n) = let more = length-hidden n in simp length_push (omega arith)

  get_or-hidden : (n i : ℕ) → i < n → get_or (hidden_arguments a n) i some_argument ≡ record { place = a.hidden_place i; source = a.hidden_source i }
  unfolding hidden_arguments
  get_or-hidden zero i below = absurd (omega arith)
  get_or-hidden (suc n) i below =
      let last : Argument = record { place = a.hidden_place n; source = a.hidden_source n } in
      let front = length-hidden n in
      elim (cases_lt i n) [
        | inl less ↦ get_or_append_left (hidden_arguments a n) (last ∷ []) some_argument i (omega arith) ∙ get_or-hidden n i less
        | inr more ↦ let same : i ≡ n = omega arith in rw same (get_or_at (hidden_arguments a n) last [] some_argument n front)
      ]

  pub length-given : (k : ℕ) (ss : List Source) → length (given_arguments a k ss) ≡ length ss
  length-given k [] = refl
  length-given k (s ∷ ss) = ap suc (length-given (k + 1) ss)

  place_given : (k : ℕ) (ss : List Source) (i : ℕ) → i < length ss → (get_or (given_arguments a k ss) i some_argument).place ≡ a.place (k + i)
  place_given k [] i below = absurd (omega arith)
  place_given k (s ∷ ss) zero below = ap a.place (omega arith)
  place_given k (s ∷ ss) (suc i) below = place_given (k + 1) ss i (omega arith) ∙ ap a.place (omega arith)

  length-arguments : (ss : List Source) → length (arguments_of a ss) ≡ a.hidden + length ss
  length-arguments ss = omega (arith, length-append (hidden_arguments a a.hidden) (given_arguments a 0 ss), length-hidden a.hidden, length-given 0 ss)

  place_at : (ss : List Source) (i : ℕ) → i < a.hidden + length ss → (get_or (arguments_of a ss) i some_argument).place ≡ place_of a i
  place_at ss i below =
      let hs = hidden_arguments a a.hidden in
      let gs = given_arguments a 0 ss in
      let count = length-hidden a.hidden in
      elim (cases_lt i a.hidden) [
        | inl less ↦
            let here : (get_or (arguments_of a ss) i some_argument).place ≡ a.hidden_place i =
            ap (λ (x : Argument). x.place) (get_or_append_left hs gs some_argument i (omega arith) ∙ get_or-hidden a.hidden i less) in
            grind (arith, nat_tests, here)
        | inr more ↦
            let here : (get_or (arguments_of a ss) i some_argument).place ≡ a.place (0 + (i - a.hidden)) =
            ap (λ (x : Argument). x.place) (get_or-append_right hs gs a.hidden i some_argument count more) ∙ place_given 0 ss (i - a.hidden) (omega arith) in
            let from : 0 + (i - a.hidden) ≡ i - a.hidden = omega arith in
            grind (arith, nat_tests, here ∙ ap a.place from)
      ]

module _ (a : Answers) where
  -- the source is one that the convention allows
  Sourced : Argument → Type 0
  Sourced x = source_lawful a.usable.0 x.source ≡ true

  hidden_sourced : (n : ℕ) → ((i : ℕ) → i < n → source_lawful a.usable.0 (a.hidden_source i) ≡ true)
      → AllByRecursion Sourced (hidden_arguments a n)
  unfolding hidden_arguments Sourced
  hidden_sourced zero each = tt
  hidden_sourced (suc n) each =
      All-push Sourced (hidden_arguments a n) (record { place = a.hidden_place n; source = a.hidden_source n })
      (hidden_sourced n (λ i below. each i (omega arith))) (each n (omega arith))

  given_sourced : (k : ℕ) (ss : List Source) → AllByRecursion (λ s. source_in_range s ≡ true) ss → all_usable a.usable.0 ss ≡ true
      → AllByRecursion Sourced (given_arguments a k ss)
  unfolding Sourced
  given_sourced k [] ranged used = tt
  given_sourced k (s ∷ ss) ranged used =
      let both = and_parts (source_usable a.usable.0 s) (all_usable a.usable.0 ss) used in
      (given_lawful a.usable.0 s ranged.0 both.0, given_sourced (k + 1) ss ranged.1 both.1)

all_both : {X : Type 0} (P Q : X → Type 0) (xs : List X) → AllByRecursion P xs → AllByRecursion Q xs → AllByRecursion (λ x. P x × Q x) xs
all_both P Q [] ps qs = tt
all_both P Q (x ∷ xs) ps qs = ((ps.0, qs.0), all_both P Q xs ps.1 qs.1)

module _ (a : Answers) (ss : List Source) (lawful : Lawful a) (fits : a.hidden + length ss ≤ argument_limit) where
  arguments_separate : Separate (arguments_of a ss)
  arguments_separate =
      let count = length-arguments a ss in
      let at = place_at a ss in
      separate (arguments_of a ss) (λ i j i-there j-there same.
      let i-below : i < a.hidden + length ss = omega arith in
      let j-below : j < a.hidden + length ss = omega arith in
      lawful.different (length ss) i j fits i-below j-below (sym (at i i-below) ∙ same ∙ at j j-below))

  arguments_placed : AllByRecursion (λ x. place_lawful a.usable.0 (a.slots (length ss)) x.place ≡ true) (arguments_of a ss)
  arguments_placed =
      let count = length-arguments a ss in
      All-from_get_or (λ x. place_lawful a.usable.0 (a.slots (length ss)) x.place ≡ true) (arguments_of a ss) some_argument (λ i there.
      let below : i < a.hidden + length ss = omega arith in
      ap (place_lawful a.usable.0 (a.slots (length ss))) (place_at a ss i below) ∙ lawful.places (length ss) i fits below)

  module _ (ranged : AllByRecursion (λ s. source_in_range s ≡ true) ss) (used : all_usable a.usable.0 ss ≡ true) where
    arguments_sourced : AllByRecursion (Sourced a) (arguments_of a ss)
    arguments_sourced =
        All-append (Sourced a) (hidden_arguments a a.hidden) (given_arguments a 0 ss)
        (hidden_sourced a a.hidden (λ i. lawful.sources (length ss) i fits))
        (given_sourced a 0 ss ranged used)

    pub arranged : Arranged (arguments_of a ss) a.scratch.0 (a.slots (length ss))
    unfolding Sourced
    arranged =
        let slots = a.slots (length ss) in
        let usable = a.usable.0 in
        let Placed : Argument → Type 0 = λ x. place_lawful usable slots x.place ≡ true in
        let apart : (x : Argument) → Placed x × Sourced a x → apart_from a.scratch.0 x ≡ true =
        λ x both.
        and_from _ _ (not_from_false _ (place_off_scratch usable a.scratch.0 lawful.scratch_reserved slots x.place both.0))
        (not_from_false _ (source_off_scratch usable a.scratch.0 lawful.scratch_reserved x.source both.1)) in
        record {
          separate = arguments_separate;
          places = All-weaker Placed _ (λ x. lawful_place_in_range usable slots x.place) (arguments_of a ss) arguments_placed;
          sources = All-weaker (Sourced a) _ (λ x. lawful_in_range usable x.source) (arguments_of a ss) arguments_sourced;
          off_scratch = All-weaker (λ x. Placed x × Sourced a x) _ apart (arguments_of a ss)
              (all_both Placed (Sourced a) (arguments_of a ss) arguments_placed arguments_sourced);
          scratch_in_range = lt-ltb a.scratch.0 registers lawful.scratch_in_range;
        }
