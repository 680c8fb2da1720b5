-- Why the meaning of a tape is lawful: its turn is its state's, and gains join. Assumes nothing.
use Rattle.std.specs.Prelude.{◌≡◌, ℕ, ◌+◌, ◌≤◌, List, [], ◌++◌, length, take, drop, refl}
use Rattle.std.proofs.Common.{sym, ap, ◌∙◌, arith}
use Rattle.std.proofs.lemmas.List.{append_assoc, append-nil, drop-drop, drop_at, length-append, length-take-le, take-append-drop, take_at}
use Rattle.std.proofs.lemmas.Grind.{flat_map-append}
use Rattle.std.specs.List.{flat_map}
use Rattle.machine.specs.Words.{Start}
use Rattle.machine.specs.States.{begin}
use Rattle.machine.specs.Effects.{run}
use Rattle.machine.specs.declared.steps.Step.{Step}
use Rattle.machine.proofs.Walks.{run_turn}
use Rattle.tape.specs.Commands.{encode}
use Rattle.tape.specs.Tapes.{Gains, tape_steps, written}
use Rattle.tape.specs.declared.tapes.Tape.{Tape}

-- a tape's turn is the turn of its state
pub tape_turn : (e : Tape) (s : Start) → (run (tape_steps e) (begin s)).turn ≡ e.turn
tape_turn e s = run_turn (tape_steps e) (begin s) e.turn e.walks

-- writing ys right after xs is writing both
module _ (bs : List ℕ) (at : ℕ) (within : at ≤ length bs) (xs : List ℕ) where
  pub take_written : (to : ℕ) → to ≡ at + length xs → take to (written at xs to bs) ≡ take at bs ++ xs
  take_written to e =
      ap (take to) (sym (append_assoc (take at bs) xs (drop to bs)))
      ∙ take_at (take at bs ++ xs) (drop to bs) to (length-append (take at bs) xs ∙ omega (arith, length-take-le at bs within))

  pub drop_written : (to n : ℕ) → to ≡ at + length xs → drop (to + n) (written at xs to bs) ≡ drop (to + n) bs
  drop_written to n e =
      sym (drop-drop n to (written at xs to bs))
      ∙ ap (drop n) (ap (drop to) (sym (append_assoc (take at bs) xs (drop to bs)))
      ∙ drop_at (take at bs ++ xs) (drop to bs) to (length-append (take at bs) xs ∙ omega (arith, length-take-le at bs within)))
      ∙ drop-drop n to bs

  pub written_more : (ys : List ℕ) (to : ℕ) → to ≡ at + length xs → written to ys (to + length ys) (written at xs to bs) ≡ written at (xs ++ ys) (to + length ys) bs
  written_more ys to e =
      (λ i. take_written to e i ++ (ys ++ drop_written to (length ys) e i))
      ∙ append_assoc (take at bs) xs (ys ++ drop (to + length ys) bs)
      ∙ ap (λ zs. take at bs ++ zs) (sym (append_assoc xs ys (drop (to + length ys) bs)))

pub gains_none : (e : Tape) → Gains e [] e
gains_none e = record {
  lent = refl;
  steps = sym (append-nil (tape_steps e));
  used = omega arith;
  bytes = sym (take-append-drop e.used e.buffer.now);
}

pub gains_more : (a b c : Tape) (ps qs : List Step) → Gains a ps b → Gains b qs c → Gains a (ps ++ qs) c
gains_more a b c ps qs front back =
    let both = flat_map-append encode ps qs in
    record {
      lent = back.lent ∙ front.lent;
      steps = back.steps ∙ ap (λ ss. ss ++ qs) front.steps ∙ append_assoc (tape_steps a) ps qs;
      used = back.used ∙ ap (λ n. n + length (flat_map encode qs)) front.used ∙ omega (arith, ap length both, length-append (flat_map encode ps) (flat_map encode qs));
      bytes =
          back.bytes ∙ (λ i. written b.used (flat_map encode qs) (back.used i) (front.bytes i))
          ∙ written_more a.buffer.now a.used a.within (flat_map encode ps) (flat_map encode qs) b.used front.used
          ∙ (λ i. written a.used (sym both i) (sym back.used i) a.buffer.now);
    }
