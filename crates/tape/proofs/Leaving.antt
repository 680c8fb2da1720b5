-- What a run over steps leaves of a space from which it takes their commands. Assumes nothing.
use Rattle.std.proofs.Common.{◌≡◌, ℕ, ◌+◌, ◌<◌, Bool, false, leb, List, [], ◌∷◌, ◌++◌, length, map, Some, None, Option, Iter, Bor, sym, refl, ap, ◌∙◌, subst, arith}
use Rattle.std.proofs.lemmas.Bool.{lt-leb}
use Rattle.std.proofs.lemmas.Bool.Decides.{nat_tests}
use Rattle.std.proofs.lemmas.Grind.{flat_map-append}
use Rattle.std.proofs.lemmas.List.{length-append}
use Rattle.std.specs.Iterator.{Yields, YieldsThen}
use Rattle.std.specs.List.{FoldsTo, flat_map}
use Rattle.std.specs.Option.{MatchOption}
use Rattle.std.specs.Slice.Iter.{iter_rest, iter_steps}
use Rattle.machine.specs.declared.steps.Step.{Step}
use Rattle.tape.specs.Limits.{longest_command}
use Rattle.tape.specs.Commands.{command_of, encode, size}
use Rattle.tape.proofs.Encoding.{length-encode}

-- how many bytes the commands of the steps take
abbrev room_of : List Step → ℕ
room_of ps = length (flat_map encode ps)

room_of_more : (p : Step) (ps : List Step) → room_of (p ∷ ps) ≡ length (encode p) + room_of ps
room_of_more p ps = length-append (encode p) (flat_map encode ps)

abbrev steps_in : List (Bor Step) → List Step
steps_in xs = map (λ x. x.now) xs

yielded : (xs : List (Bor Step)) (s t : Iter Step) → Yields iter_steps s xs t → iter_rest s ≡ steps_in xs ++ iter_rest t
yielded [] s t e = ap iter_rest e
yielded (x ∷ xs) s t (j, first, others) = first ∙ ap (λ ps. x.now ∷ ps) (yielded xs j t others)

none_left : (ps : List Step) → length ps ≡ 0 → room_of ps ≡ 0
none_left [] e = refl
none_left (p ∷ ps) e = absurd (omega arith)

same_test : (m n k : ℕ) → n ≡ m + k → leb longest_command k ≡ leb (m + longest_command) n
same_test m n k e = grind (arith, nat_tests, e)

module _ {F : Type 0} (Turn : F × ℕ → Bor Step → F × ℕ → Type 0) (takes : (p q : F × ℕ) (x : Bor Step) → Turn p x q → p.1 ≡ size (command_of x.now) + q.1) where
  taken : (xs : List (Bor Step)) (p q : F × ℕ) → FoldsTo Turn p xs q → p.1 ≡ room_of (steps_in xs) + q.1
  taken [] p q e = omega (arith, ap (λ r. r.1) e)
  taken (x ∷ xs) p q (j, turn, others) = omega (arith, takes p j x turn, taken xs j q others, room_of_more x.now (steps_in xs), length-encode x.now)

  -- the run went through, or broke off at a step whose command is longer than what was left
  pub leaves : (Broke : Bor Step → Type 0) (Told : ℕ → Type 0) (xs : List (Bor Step)) (o : Option (Bor Step)) (f : F) (space : ℕ) (q : F × ℕ) (s u : Iter Step) (r : Option ℕ) (answer : Bool) → YieldsThen iter_steps s xs o u → FoldsTo Turn (f, space) xs q → MatchOption o (r ≡ Some q.1) Broke → ((x : Bor Step) → Broke x → (r ≡ None) × (q.1 < size (command_of x.now))) → MatchOption r (answer ≡ false) Told → ((a : ℕ) → Told a → answer ≡ leb longest_command a) → answer ≡ leb (room_of (iter_rest s) + longest_command) space
  leaves Broke Told xs o f space q s u r answer (t, yields, ends) folds is broke tells told = by_end o ends is
    where
      left : space ≡ room_of (steps_in xs) + q.1
      left = taken xs (f, space) q folds

      all : room_of (iter_rest s) ≡ room_of (steps_in xs) + room_of (iter_rest t)
      all =
          ap room_of (yielded xs s t yields) ∙ ap length (flat_map-append encode (steps_in xs) (iter_rest t))
          ∙ length-append (flat_map encode (steps_in xs)) (flat_map encode (iter_rest t))

      by_end : (o : Option (Bor Step)) → iter_steps t o u → MatchOption o (r ≡ Some q.1) Broke → answer ≡ leb (room_of (iter_rest s) + longest_command) space
      by_end None ends is =
          let enough : answer ≡ leb longest_command q.1 = told q.1 (subst (λ r. MatchOption r (answer ≡ false) Told) is tells) in
          let none = none_left (iter_rest t) ends.0 in
          enough ∙ same_test (room_of (iter_rest s)) space q.1 (omega (arith, left, all, none))
      by_end (Some x) ends is =
          let short = broke x is in
          let refused : answer ≡ false = subst (λ r. MatchOption r (answer ≡ false) Told) short.0 tells in
          let more = ap room_of ends ∙ room_of_more x.now (iter_rest u) in
          refused ∙ sym (lt-leb (room_of (iter_rest s) + longest_command) space (omega (arith, left, all, more, short.1, length-encode x.now)))
