-- Arguments filled in one by one, to the arguments of a call. Assumes nothing.
use Rattle.std.proofs.Common.{◌≡◌, ℕ, ◌+◌, ◌<◌, ◌≤◌, true, List, [], ◌∷◌, ◌++◌, length, get_or, take, sym, ap, append_assoc, add-one, arith}
use Rattle.std.proofs.lemmas.List.{append-nil, length-take-le, take_more}
use Rattle.std.proofs.lemmas.Bool.Decides.{nat_tests}
use Rattle.conventions.specs.Calls.{Filled, all_usable, arguments_in, arguments_of, given_arguments, hidden_arguments}
use Rattle.conventions.specs.Conventions.{Answers, Lawful, argument_limit}
use Rattle.conventions.specs.Lists.{listed}
use Rattle.conventions.specs.declared.arguments.Argument.{Argument}
use Rattle.conventions.specs.declared.arguments.Place.{Place}
use Rattle.conventions.specs.declared.arguments.Source.{Source}
use Rattle.conventions.specs.declared.calls.Arguments.{Arguments}
use Rattle.conventions.specs.declared.lists.ArgumentList.{ArgumentList}
use Rattle.conventions.proofs.Arranging.{arranged}
use Rattle.conventions.proofs.Listing.{listed_in_range}

pub hidden_none : (a : Answers) (front : List Argument) → front ≡ front ++ hidden_arguments a 0
unfolding hidden_arguments
hidden_none a front = sym (append-nil front)

-- xs are those in front and the arguments filled in so far, and ys are one more
pub hidden_more : (a : Answers) (front xs ys : List Argument) (n : ℕ) (p : Place) (s : Source)
    → ys ≡ xs ++ (record { place = p; source = s } ∷ []) → p ≡ a.hidden_place n → s ≡ a.hidden_source n
    → xs ≡ front ++ hidden_arguments a n → ys ≡ front ++ hidden_arguments a (n + 1)
unfolding hidden_arguments
hidden_more a front xs ys n p s added place source so_far =
    rw add-one (cc (added, so_far, place, source, append_assoc front (hidden_arguments a n) (record { place = p; source = s } ∷ [])))

given_push : (a : Answers) (k : ℕ) (ss : List Source) (s : Source)
    → given_arguments a k (ss ++ (s ∷ [])) ≡ given_arguments a k ss ++ (record { place = a.place (k + length ss); source = s } ∷ [])
given_push a k [] s = let none : k ≡ k + 0 = omega arith in ap (λ i. record { place = a.place i; source = s } ∷ []) none
given_push a k (t ∷ ss) s =
    let at : k + 1 + length ss ≡ k + length (t ∷ ss) = omega arith in
    cc (given_push a (k + 1) ss s, ap a.place at)

pub given_more : (a : Answers) (front xs ys : List Argument) (ss : List Source) (i : ℕ) (p : Place) (d : Source)
    → ys ≡ xs ++ (record { place = p; source = get_or ss i d } ∷ []) → i < length ss → p ≡ a.place i
    → xs ≡ front ++ given_arguments a 0 (take i ss) → ys ≡ front ++ given_arguments a 0 (take (i + 1) ss)
given_more a front xs ys ss i p d added more place so_far =
    let last : List Argument = record { place = p; source = get_or ss i d } ∷ [] in
    let count : 0 + length (take i ss) ≡ i = omega (arith, length-take-le i ss (omega arith)) in
    let pushed : given_arguments a 0 (take (i + 1) ss) ≡ given_arguments a 0 (take i ss) ++ last =
    cc (take_more ss i d more, given_push a 0 (take i ss) (get_or ss i d), ap a.place count, place) in
    cc (added, pushed, so_far, append_assoc front (given_arguments a 0 (take i ss)) last)

pub filled : (a : Answers) (l : ArgumentList) (t : Arguments)
    → Lawful a → a.hidden + length (listed l) ≤ argument_limit → all_usable a.usable.0 (listed l) ≡ true
    → arguments_in t ≡ arguments_of a (listed l) → Filled a (listed l) t
filled a l t lawful fits used are = record {
  answer = grind (arith, nat_tests, used);
  are = are;
  arranged = arranged a (listed l) lawful fits (listed_in_range l) used;
  slots_few = lawful.slots_few (length (listed l)) fits;
}
