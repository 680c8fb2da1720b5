-- Writing a whole list of steps on a tape with bytes to spare. Assumes nothing.
use Rattle.std.proofs.Common.{◌≡◌, ℕ, ◌+◌, ◌<◌, ◌≤◌, List, [], ◌∷◌, ◌++◌, length, drop, Ok, sym, refl, ap, ◌∙◌, arith}
use Rattle.std.proofs.lemmas.List.{append-nil}
use Rattle.std.proofs.lemmas.Bool.Decides.{nat_tests}
use Rattle.std.specs.List.{flat_map}
use Rattle.machine.specs.Emitters.{Ran}
use Rattle.machine.specs.Turns.{walked}
use Rattle.machine.specs.declared.steps.Step.{Step}
use Rattle.machine.specs.declared.turns.Turn.{Turn}
use Rattle.machine.specs.declared.turns.Turn.TheVariants.{Bare}
use Rattle.tape.specs.Limits.{longest_command, tape_limit}
use Rattle.tape.specs.Commands.{encode}
use Rattle.tape.specs.Meanings.{tape_meaning}
use Rattle.tape.specs.Tapes.{Gains, Opened, tape_steps, written}
use Rattle.tape.specs.Whole.{tape_reads, write_verdict}
use Rattle.tape.specs.declared.tapes.Tape.{Tape}
use Rattle.tape.specs.Readings.{all_fit}
use Rattle.tape.proofs.Rounds.{commands_read}
use Rattle.tape.proofs.Writing.{length-written}

-- a tape has this many bytes to write, and at least the longest command's bytes besides
abbrev pub Spare : Tape → ℕ → Type 0
Spare e n = e.used + n + longest_command ≤ length e.buffer.now

pub spare_room : (e : Tape) (n : ℕ) → Spare e n → 0 < tape_meaning.room e
spare_room e n spare = omega arith

-- one step is taken from the bytes to write
pub spare_more : (a b : Tape) (p : Step) (n : ℕ) → Spare a (length (encode p) + n) → Ran tape_meaning (p ∷ []) a b → Spare b n
spare_more a b p n spare ran =
    let gains : Gains a (p ∷ []) b = ran.gains in
    let used : b.used ≡ a.used + length (encode p) = gains.used ∙ ap (λ bs. a.used + length bs) (append-nil (encode p)) in
    let same : length b.buffer.now ≡ length a.buffer.now =
    ap length gains.bytes ∙ length-written a.buffer.now a.used (flat_map encode (p ∷ [])) b.used gains.used (omega arith) in
    omega arith

-- a new tape on which steps were written holds their commands, and then what was there
module _ (bs : List ℕ) (ps : List Step) (a b : Tape) (opened : Opened bs a) (ran : Ran tape_meaning ps a b) where
  pub filled_length : b.used ≡ length (flat_map encode ps)
  filled_length = omega (arith, opened.used, ran.gains.used)

  pub filled_bytes : b.buffer.now ≡ flat_map encode ps ++ drop (length (flat_map encode ps)) bs
  filled_bytes = ran.gains.bytes ∙ (λ i. written (opened.used i) (flat_map encode ps) (filled_length i) (opened.bytes i))

  -- and these read as the steps again
  pub filled_reads : length (flat_map encode ps) ≤ tape_limit → walked ps Bare ≡ Ok Bare → tape_reads (flat_map encode ps) ≡ Ok ps
  filled_reads short bare =
      let steps : tape_steps b ≡ ps = ran.gains.steps ∙ ap (λ ss. ss ++ ps) opened.steps in
      commands_read ps (flat_map encode ps) (record { bytes = refl; fit = ap all_fit (sym steps) ∙ b.fit; bare = bare; short = short })

-- the answer to steps that are written
pub written_answer : (ps : List Step) (space : ℕ) (u : Turn) → Ok u ≡ walked ps Bare → length (flat_map encode ps) + longest_command ≤ space → Ok (length (flat_map encode ps)) ≡ write_verdict ps space
written_answer ps space u walks enough = grind (arith, nat_tests, walks)
