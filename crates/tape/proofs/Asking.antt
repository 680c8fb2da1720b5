-- A reader's answer where it passes a command. Assumes nothing.
use Rattle.std.proofs.Common.{◌≡◌, ℕ, ◌+◌, ◌-◌, ◌<◌, ◌≤◌, List, [], ◌∷◌, length, take, drop, Some, Ok, Result, sym, ap, ◌∙◌, subst, arith}
use Rattle.std.proofs.lemmas.List.{length-drop, length-take, take_rest}
use Rattle.std.proofs.lemmas.Bool.{cases_eq, cond-false, le-ltb}
use Rattle.machine.specs.Turns.{moved}
use Rattle.machine.specs.declared.refusals.Refusal.{Refusal}
use Rattle.machine.specs.declared.steps.Step.{Step}
use Rattle.machine.specs.declared.turns.Turn.{Turn}
use Rattle.tape.specs.Limits.{tape_limit}
use Rattle.tape.specs.Commands.{encode, first_step}
use Rattle.tape.specs.Readers.{Asked, Commanded, answer_at, next_step}
use Rattle.tape.specs.declared.readers.Part.{Part}
use Rattle.tape.specs.declared.readers.Reader.{Reader}

next_taken : (xs : List ℕ) (t u : Turn) (place : ℕ) (p : Step) → 0 < length xs → first_step xs ≡ Ok p → moved p t ≡ Ok u → next_step t place xs ≡ Ok (Some p)
next_taken [] t u place p some e m = absurd (omega arith)
next_taken (b ∷ bs) t u place p some e m = cc

module _ (a : Reader) where
  module _ (short : length a.tape.now ≤ tape_limit) where
    goes_on : answer_at a.tape.now a.place a.turn ≡ next_step a.turn a.place (drop a.place a.tape.now)
    goes_on = cond-false _ _ _ (le-ltb _ _ short)

    -- what is left of the tape, as a slice of it
    abbrev rest : List ℕ
    rest = take (length a.tape.now - a.place) (drop a.place a.tape.now)

    module _ (more : a.place ≡ length a.tape.now → ⊥) where
      some : 0 < length (drop a.place a.tape.now)
      some = simp length-drop (omega (arith, a.within, cases_eq a.place (length a.tape.now)))

      there : (r : Result Step Refusal) → Commanded rest r → Commanded (drop a.place a.tape.now) r
      there r = subst (λ xs. Commanded xs r) (take_rest a.tape.now a.place)

      module _ (p : Step) (r : Result Step Refusal) (is : r ≡ Ok p) (command : Commanded rest r) where
        reads : first_step (drop a.place a.tape.now) ≡ Ok p
        reads = sym (there r command).answer ∙ is

        front : take (length (encode p)) (drop a.place a.tape.now) ≡ encode p
        front = (there r command).bytes p is

        -- n is the command's size
        module _ (n : ℕ) (size_is : n ≡ length (encode p)) where
          pub within_part : a.place + n ≤ length a.tape.now
          within_part =
              omega (arith, ap length front, length-take (length (encode p)) (drop a.place a.tape.now), length-drop a.place a.tape.now)

          pub asked_passed : (part : Part) (b : Reader) → part.step ≡ p → part.place ≡ a.place → part.bytes.now ≡ take n (drop a.place a.tape.now) → b.tape ≡ a.tape → b.place ≡ a.place + n → moved p a.turn ≡ Ok b.turn → Asked a (Ok (Some part)) b
          asked_passed part b same place bytes tape next m =
              let whole : part.bytes.now ≡ take (length (encode p)) (drop a.place a.tape.now) =
              bytes ∙ ap (λ k. take k (drop a.place a.tape.now)) size_is in
              record {
                answer = ap (λ q. Ok (Some q)) same ∙ sym (goes_on ∙ next_taken (drop a.place a.tape.now) a.turn b.turn a.place p some reads m);
                went = record {
                  place = place;
                  bytes = whole ∙ front ∙ ap encode (sym same);
                  there = whole ∙ ap (λ q. take (length (encode q)) (drop a.place a.tape.now)) (sym same);
                  tape = tape;
                  next = next ∙ ap (λ k. a.place + k) size_is ∙ ap (λ q. a.place + length (encode q)) (sym same);
                  turn = ap (λ q. moved q a.turn) same ∙ m;
                };
              }
