-- Reading a tape through, command by command. Assumes nothing.
use Rattle.std.proofs.Common.{◌≡◌, ℕ, ◌+◌, ◌-◌, ◌<◌, ◌≤◌, true, false, ltb, List, [], ◌∷◌, ◌++◌, length, take, drop, Some, None, Ok, Err, Option, Result, sym, refl, ap, ◌∙◌, subst, inl, inr, arith, take-add}
use Rattle.std.proofs.lemmas.List.{append_assoc, append-nil, drop-drop, length-drop}
use Rattle.std.proofs.lemmas.Bool.{cases_Bool, cond-false, cond-true, le-ltb, lt-ltb, ltb-false, ltb-true}
use Rattle.std.specs.List.{flat_map}
use Rattle.machine.specs.Turns.{is_bare, moved}
use Rattle.machine.specs.declared.refusals.Refusal.{Refusal}
use Rattle.machine.specs.declared.refusals.Refusal.TheVariants.{OutOfTurn, TooLong}
use Rattle.machine.specs.declared.steps.Step.{Step}
use Rattle.machine.specs.declared.turns.Turn.{Turn}
use Rattle.tape.specs.Limits.{tape_limit}
use Rattle.tape.specs.Commands.{command_of, encode, first_step, size}
use Rattle.tape.specs.Readings.{Reading, before, ended, read, reading, stopped}
use Rattle.tape.specs.Readers.{Asked, Passed, fault, next_step, step_in}
use Rattle.tape.specs.Whole.{outcome, tape_reads}
use Rattle.tape.specs.declared.readers.Fault.{Fault}
use Rattle.tape.specs.declared.readers.Part.{Part}
use Rattle.tape.specs.declared.readers.Reader.{Reader}
use Rattle.tape.proofs.Decoding.{read_none, read_refused, read_step}
use Rattle.tape.proofs.Encoding.{joined_more, length-encode}

-- the ways in which a reader may answer
data Next (t : Turn) (place : ℕ) (xs : List ℕ) : Result (Option Step) Fault → Type 0 where
  at_end : xs ≡ [] → is_bare t ≡ true → Next t place xs (Ok None)
  left_open : xs ≡ [] → is_bare t ≡ false → Next t place xs (Err (fault OutOfTurn place))
  none : (f : Refusal) → 0 < length xs → first_step xs ≡ Err f → Next t place xs (Err (fault f place))
  refused : (p : Step) (f : Refusal) → first_step xs ≡ Ok p → moved p t ≡ Err f → Next t place xs (Err (fault f place))
  taken : (p : Step) (u : Turn) → first_step xs ≡ Ok p → moved p t ≡ Ok u → Next t place xs (Ok (Some p))

next_way : (t : Turn) (place : ℕ) (xs : List ℕ) → Next t place xs (next_step t place xs)
next_way t place [] =
    elim (cases_Bool (is_bare t)) [
      | inl bare ↦ subst (Next t place []) (sym (cond-true _ _ _ bare)) (at_end refl bare)
      | inr open-ended ↦ subst (Next t place []) (sym (cond-false _ _ _ open-ended)) (left_open refl open-ended)
    ]
next_way t place (b ∷ bs) = by_command (first_step (b ∷ bs)) refl
  where
    by_turn : (p : Step) → first_step (b ∷ bs) ≡ Ok p → (r : Result Turn Refusal) → moved p t ≡ r → Next t place (b ∷ bs) (elim r [ Ok u ↦ Ok (Some p) | Err f ↦ Err (fault f place) ])
    by_turn p e (Ok u) m = taken p u e m
    by_turn p e (Err f) m = refused p f e m

    by_command : (r : Result Step Refusal) → first_step (b ∷ bs) ≡ r → Next t place (b ∷ bs) (elim r [ Ok p ↦ elim (moved p t) [ Ok u ↦ Ok (Some p) | Err f ↦ Err (fault f place) ] | Err f ↦ Err (fault f place) ])
    by_command (Ok p) e = by_turn p e (moved p t) refl
    by_command (Err f) e = none f (omega arith) e

-- steps read before a reading
abbrev after : List Step → Reading → Reading
after done r = record { steps = done ++ r.steps; turn = r.turn; left = r.left; stop = r.stop }

-- these steps of the tape bs were read, and the reader stands after them
pub record Through (bs : List ℕ) (done : List Step) (a : Reader) : Type 0 where
  pub tape : a.tape.now ≡ bs
  pub reads : reading bs ≡ after done (read 0 a.turn (drop a.place bs))
  -- and their commands are what it has passed
  pub front : flat_map encode done ≡ take a.place bs

-- the ways of an answer: the tape is too long, or one of the ways of what is left of it
data Way (a : Reader) : Result (Option Step) Fault → Type 0 where
  too_long : tape_limit < length a.tape.now → Way a (Err (fault TooLong 0))
  goes_on : {r : Result (Option Step) Fault} → length a.tape.now ≤ tape_limit → Next a.turn a.place (drop a.place a.tape.now) r → Way a r

way : (a : Reader) (r : Result (Option Part) Fault) (b : Reader) → Asked a r b → Way a (step_in r)
way a r b asked =
    let n = length a.tape.now in
    subst (Way a) (sym asked.answer)
    (elim (cases_Bool (ltb tape_limit n)) [
      | inl long ↦ subst (Way a) (sym (cond-true _ _ _ long)) (too_long (ltb-true tape_limit n long))
      | inr short ↦ subst (Way a) (sym (cond-false _ _ _ short)) (goes_on (ltb-false tape_limit n short) (next_way a.turn a.place (drop a.place a.tape.now)))
    ])

-- the reader passes one part more
pub through_more : (bs : List ℕ) (done : List Step) (a : Reader) (part : Part) (b : Reader) → Through bs done a → Asked a (Ok (Some part)) b → Through bs (done ++ (part.step ∷ [])) b
through_more bs done a part b th asked = by_way (way a (Ok (Some part)) b asked)
  where
    passed : Passed a part b
    passed = asked.went

    by_way : Way a (Ok (Some part.step)) → Through bs (done ++ (part.step ∷ [])) b
    by_way (goes_on short (taken p u e m)) =
        let xs = drop a.place bs in
        let reads-p : first_step xs ≡ Ok part.step = ap (λ l. first_step (drop a.place l)) (sym th.tape) ∙ e in
        let next : drop (size (command_of part.step)) xs ≡ drop b.place bs =
        drop-drop (size (command_of part.step)) a.place bs
        ∙ ap (λ n. drop n bs) (ap (λ n. a.place + n) (sym (length-encode part.step)) ∙ sym passed.next) in
        record {
          tape = ap (λ l. l.now) passed.tape ∙ th.tape;
          reads =
              th.reads
              ∙ ap (after done) (read_step xs a.turn b.turn part.step reads-p passed.turn ∙ ap (λ l. before part.step (read 0 b.turn l)) next)
              ∙ (λ i. record {
                steps = sym (append_assoc done (part.step ∷ []) (read 0 b.turn (drop b.place bs)).steps) i;
                turn = (read 0 b.turn (drop b.place bs)).turn;
                left = (read 0 b.turn (drop b.place bs)).left;
                stop = (read 0 b.turn (drop b.place bs)).stop;
              });
          front =
              joined_more done part.step
              ∙ (λ i. th.front i ++ sym passed.bytes i)
              ∙ ap (λ l. take a.place bs ++ l) (passed.there ∙ ap (λ l. take (length (encode part.step)) (drop a.place l)) th.tape)
              ∙ sym (take-add a.place (length (encode part.step)) bs)
              ∙ ap (λ n. take n bs) (sym passed.next);
        }

-- what is left of the tape decides what it reads as
module _ (bs : List ℕ) (done : List Step) (a : Reader) (th : Through bs done a) where
  left_of : drop a.place a.tape.now ≡ drop a.place bs
  left_of = ap (drop a.place) th.tape

  module _ (short : length a.tape.now ≤ tape_limit) where
    comes_to : (r : Reading) → read 0 a.turn (drop a.place a.tape.now) ≡ r → tape_reads bs ≡ outcome (length bs) (after done r)
    comes_to r e =
        cond-false (ltb tape_limit (length bs)) _ _ (le-ltb tape_limit (length bs) (omega (arith, ap length th.tape)))
        ∙ ap (outcome (length bs)) (th.reads ∙ ap (after done) (ap (read 0 a.turn) (sym left_of) ∙ e))

    ends : drop a.place a.tape.now ≡ [] → tape_reads bs ≡ outcome (length bs) (after done (ended a.turn))
    unfolding read
    ends none_left = comes_to (ended a.turn) (ap (read 0 a.turn) none_left)

    at_its_place : (f : Refusal) → read 0 a.turn (drop a.place a.tape.now) ≡ stopped a.turn (drop a.place a.tape.now) f → tape_reads bs ≡ Err (fault f a.place)
    at_its_place f e =
        let place : length bs - length (drop a.place a.tape.now) ≡ a.place =
        omega (arith, a.within, length-drop a.place a.tape.now, ap length th.tape) in
        comes_to (stopped a.turn (drop a.place a.tape.now) f) e ∙ ap (λ n. Err (fault f n)) place

  pub through_end : (b : Reader) → Asked a (Ok None) b → tape_reads bs ≡ Ok done
  through_end b asked = by_way (way a (Ok None) b asked)
    where
      by_way : Way a (Ok None) → tape_reads bs ≡ Ok done
      by_way (goes_on short (at_end none_left bare)) =
          ends short none_left ∙ cond-true (is_bare a.turn) _ _ bare ∙ ap (λ ps. Ok ps) (append-nil done)

  pub through_fault : (e : Fault) (b : Reader) → Asked a (Err e) b → tape_reads bs ≡ Err e
  through_fault e b asked = by_way e (way a (Err e) b asked)
    where
      by_way : (e : Fault) → Way a (Err e) → tape_reads bs ≡ Err e
      by_way e (too_long long) = cond-true (ltb tape_limit (length bs)) _ _ (lt-ltb tape_limit (length bs) (omega (arith, ap length th.tape)))
      by_way e (goes_on short (left_open none_left bare)) =
          let end : length bs ≡ a.place = omega (arith, a.within, length-drop a.place a.tape.now, ap length th.tape, ap length none_left) in
          ends short none_left ∙ cond-false (is_bare a.turn) _ _ bare ∙ ap (λ n. Err (fault OutOfTurn n)) end
      by_way e (goes_on short (none f some is)) = at_its_place short f (read_none (drop a.place a.tape.now) a.turn f some is)
      by_way e (goes_on short (refused p f is m)) = at_its_place short f (read_refused (drop a.place a.tape.now) a.turn p f is m)

-- less of the tape is left after each part
pub part_falls : (a : Reader) (part : Part) (b : Reader) → Asked a (Ok (Some part)) b → length b.tape.now - b.place < length a.tape.now - a.place
part_falls a part b asked =
    let passed : Passed a part b = asked.went in
    omega (arith, b.within, passed.next, length-encode part.step, ap (λ l. length l.now) passed.tape)

-- an answer that is known to be some part, or none
pub asked_as : (a b : Reader) (o known : Option Part) → o ≡ known → Asked a (Ok o) b → Asked a (Ok known) b
asked_as a b o known is = subst (λ o. Asked a (Ok o) b) is
