-- Writing a tape again while it is read. Assumes nothing.
use Rattle.std.proofs.Common.{◌≡◌, ℕ, ◌+◌, ◌-◌, List, [], ◌∷◌, ◌++◌, length, Some, Ok, ap, ◌∙◌, subst, arith}
use Rattle.machine.specs.Emitters.{Ran}
use Rattle.machine.specs.Turns.{moved}
use Rattle.machine.specs.declared.steps.Step.{Step}
use Rattle.machine.proofs.Runs.{ran_join, ran_turn}
use Rattle.machine.proofs.Walks.{Goes, goes, walked_cons}
use Rattle.tape.specs.Commands.{encode}
use Rattle.tape.specs.Meanings.{tape_meaning}
use Rattle.tape.specs.Readers.{Asked, Passed}
use Rattle.tape.specs.declared.readers.Part.{Part}
use Rattle.tape.specs.declared.readers.Reader.{Reader}
use Rattle.tape.specs.declared.tapes.Tape.{Tape}
use Rattle.tape.proofs.Filling.{Spare, spare_more}
use Rattle.tape.proofs.Through.{Through, through_more}

-- what the reader has passed of the tape bs is written from a to b, and there is space for the rest
pub record Copying (bs : List ℕ) (a : Tape) (r : Reader) (b : Tape) : Type 0 where
  pub done : List Step
  pub through : Through bs done r
  pub ran : Ran tape_meaning done a b
  pub same_turn : b.turn ≡ r.turn
  pub spare : Spare b (length bs - r.place)

module _ (bs : List ℕ) (a : Tape) (r : Reader) (b : Tape) (copying : Copying bs a r b) where
  module _ (part : Part) (s : Reader) (asked : Asked r (Ok (Some part)) s) where
    passed : Passed r part s
    passed = asked.went

    goes_part : Goes part.step [] b.turn s.turn
    goes_part =
        goes part.step [] b.turn s.turn
        (walked_cons part.step [] b.turn s.turn (ap (moved part.step) copying.same_turn ∙ passed.turn))

    pub copying_more : (c : Tape) → Ran tape_meaning (part.step ∷ []) b c → Copying bs a s c
    copying_more c one = record {
      done = copying.done ++ (part.step ∷ []);
      through = through_more bs copying.done r part s copying.through asked;
      ran = ran_join tape_meaning copying.done (part.step ∷ []) a b c copying.ran one;
      same_turn = ran_turn tape_meaning part.step b c one ∙ grind (arith, goes_part.rest);
      spare =
          let tape : length s.tape.now ≡ length bs = ap (λ l. length l.now) passed.tape ∙ ap length copying.through.tape in
          let left : length bs - r.place ≡ length (encode part.step) + (length bs - s.place) = omega (arith, s.within, passed.next) in
          spare_more b c part.step (length bs - s.place) (subst (Spare b) left copying.spare) one;
    }
