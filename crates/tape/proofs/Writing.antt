-- Writing a command on a tape, as its bytes. Assumes nothing.
use Rattle.std.proofs.Common.{◌≡◌, ℕ, ◌+◌, ◌-◌, ◌≤◌, true, List, [], ◌∷◌, ◌++◌, length, take, drop, Ok, sym, refl, ap, ◌∙◌, subst, arith}
use Rattle.std.proofs.lemmas.List.{drop-drop, append-nil, length-append, length-drop, length-take-le}
use Rattle.std.proofs.lemmas.Bool.{and_from, and_parts}
use Rattle.std.specs.List.{flat_map}
use borrow.Rule.Slice.PartMut.{put_mid}
use Rattle.machine.specs.States.{begin}
use Rattle.machine.specs.Effects.{run}
use Rattle.machine.specs.Emitters.{Ran}
use Rattle.machine.specs.Turns.{moved, walked}
use Rattle.machine.specs.declared.steps.Step.{Step}
use Rattle.machine.specs.declared.turns.Turn.{Turn}
use Rattle.machine.specs.declared.turns.Turn.TheVariants.{Bare}
use Rattle.machine.proofs.Runs.{run_append}
use Rattle.machine.proofs.Walks.{walked_append, walked_cons}
use Rattle.tape.specs.Limits.{longest_command}
use Rattle.tape.specs.Commands.{CommandOf, bytes_of, command_of, encode, fits, size}
use Rattle.tape.specs.Readings.{Reading, all_fit, reading}
use Rattle.tape.specs.Tapes.{tape_steps, written}
use Rattle.tape.specs.Gaining.{take_written}
use Rattle.tape.specs.Meanings.{tape_meaning}
use Rattle.tape.specs.declared.commands.Command.{Command}
use Rattle.tape.specs.declared.tapes.Tape.{Tape}
use Rattle.tape.proofs.Decoding.{read_all}
use Rattle.tape.proofs.Encoding.{joined_more, length-encode, size_bound}

-- what a tape keeps of its used bytes x
pub record Sound (x : List ℕ) (t : Turn) : Type 0 where
  pub whole : flat_map encode (reading x).steps ≡ x
  pub fit : all_fit (reading x).steps ≡ true
  pub walks : walked (reading x).steps Bare ≡ Ok t

all_fit_more : (ps : List Step) (p : Step) → all_fit ps ≡ true → fits (command_of p) ≡ true → all_fit (ps ++ (p ∷ [])) ≡ true
all_fit_more [] p e fit = and_from (fits (command_of p)) true fit refl
all_fit_more (q ∷ ps) p e fit =
    let parts = and_parts (fits (command_of q)) (all_fit ps) e in
    and_from (fits (command_of q)) (all_fit (ps ++ (p ∷ []))) parts.0 (all_fit_more ps p parts.1 fit)

-- a step that fits and is taken comes after the used bytes x
module _ (x : List ℕ) (t u : Turn) (p : Step) (sound : Sound x t) (fit : fits (command_of p) ≡ true) (goes : moved p t ≡ Ok u) where
  abbrev more : List Step
  more = (reading x).steps ++ (p ∷ [])

  more_bytes : flat_map encode more ≡ x ++ encode p
  more_bytes = joined_more (reading x).steps p ∙ ap (λ bs. bs ++ encode p) sound.whole

  more_fit : all_fit more ≡ true
  more_fit = all_fit_more (reading x).steps p sound.fit fit

  more_walked : walked more Bare ≡ Ok u
  more_walked =
      walked_append (reading x).steps (p ∷ []) Bare t sound.walks ∙ walked_cons p [] t u goes

  pub steps_more : (reading (x ++ encode p)).steps ≡ more
  steps_more = ap (λ (r : Reading). r.steps) (ap reading (sym more_bytes) ∙ read_all more Bare u more_fit more_walked)

  pub sound_more : Sound (x ++ encode p) u
  sound_more = record {
    whole = ap (flat_map encode) steps_more ∙ more_bytes;
    fit = ap all_fit steps_more ∙ more_fit;
    walks = ap (λ ps. walked ps Bare) steps_more ∙ more_walked;
  }

pub length-written : (bs : List ℕ) (at : ℕ) (xs : List ℕ) (to : ℕ) → to ≡ at + length xs → to ≤ length bs → length (written at xs to bs) ≡ length bs
length-written bs at xs to e within =
    length-append (take at bs) (xs ++ drop to bs) ∙ omega (arith, length-take-le at bs (omega arith), length-append xs (drop to bs), length-drop to bs)

encode_short : (p : Step) → length (encode p) ≤ longest_command
encode_short p = subst (λ n. n ≤ longest_command) (sym (length-encode p)) (size_bound (command_of p))

-- a step that fits and is taken, its whole command written after what a holds
module _ (a : Tape) (p : Step) (u : Turn) (fit : fits (command_of p) ≡ true) (goes : moved p a.turn ≡ Ok u) where
  sound : Sound (take a.used a.buffer.now) a.turn
  sound = record { whole = a.whole; fit = a.fit; walks = a.walks }

  used_more : (used : ℕ) (bs : List ℕ) → used ≡ a.used + length (encode p) → bs ≡ written a.used (encode p) used a.buffer.now → take used bs ≡ take a.used a.buffer.now ++ encode p
  used_more used bs e wrote = ap (take used) wrote ∙ take_written a.buffer.now a.used a.within (encode p) used e

  -- the tape keeps what it kept
  wrote_sound : (used : ℕ) (bs : List ℕ) → used ≡ a.used + length (encode p) → bs ≡ written a.used (encode p) used a.buffer.now → Sound (take used bs) u
  wrote_sound used bs e wrote =
      subst (λ x. Sound x u) (sym (used_more used bs e wrote)) (sound_more (take a.used a.buffer.now) a.turn u p sound fit goes)

  wrote : (b : Tape) → a.used + longest_command ≤ length a.buffer.now → b.buffer.ghost_name ≡ a.buffer.ghost_name → b.used ≡ a.used + length (encode p) → b.buffer.now ≡ written a.used (encode p) b.used a.buffer.now → Ran tape_meaning (p ∷ []) a b
  wrote b room lent used bytes =
      let steps : tape_steps b ≡ tape_steps a ++ (p ∷ []) =
      ap (λ x. (reading x).steps) (used_more b.used b.buffer.now used bytes)
      ∙ steps_more (take a.used a.buffer.now) a.turn u p sound fit goes in
      let one : flat_map encode (p ∷ []) ≡ encode p = append-nil (encode p) in
      let short = encode_short p in
      let same_length : length b.buffer.now ≡ length a.buffer.now =
      ap length bytes ∙ length-written a.buffer.now a.used (encode p) b.used used (omega arith) in
      record {
        state = λ s. ap (λ ps. run ps (begin s)) steps ∙ run_append (tape_steps a) (p ∷ []) (begin s);
        taken = ap length steps ∙ length-append (tape_steps a) (p ∷ []);
        room_left = omega arith;
        gains = record {
          lent = lent;
          steps = steps;
          used = used ∙ ap (λ bs. a.used + length bs) (sym one);
          bytes = bytes ∙ ap (λ bs. written a.used bs b.used a.buffer.now) (sym one);
        };
      }

-- the whole command c of the step p is written as xs; n is its size
module _ (a : Tape) (p : Step) (u : Turn) (c : Command) (n : ℕ) (xs : List ℕ) (takes : CommandOf p c) (whole : n ≡ size c) (bytes : xs ≡ bytes_of c) where
  used_all : a.used + n ≡ a.used + length (encode p)
  used_all = omega (arith, whole, ap size takes.is, length-encode p)

  abbrev after : List ℕ
  after = put_mid a.used (a.used + n - a.used) a.buffer.now xs

  bytes_all : after ≡ written a.used (encode p) (a.used + n) a.buffer.now
  unfolding encode
  bytes_all =
      let every : xs ≡ bytes_of (command_of p) = bytes ∙ ap bytes_of takes.is in
      let at : a.used + (a.used + n - a.used) ≡ a.used + n = omega arith in
      let past : drop (a.used + n - a.used) (drop a.used a.buffer.now) ≡ drop (a.used + n) a.buffer.now =
      drop-drop (a.used + n - a.used) a.used a.buffer.now ∙ ap (λ k. drop k a.buffer.now) at in
      (λ i. take a.used a.buffer.now ++ (every i ++ past i))

  module _ (goes : moved p a.turn ≡ Ok u) (room : a.used + longest_command ≤ length a.buffer.now) where
    fit : fits (command_of p) ≡ true
    fit = sym (ap fits takes.is) ∙ takes.fit

    pub done_within : a.used + n ≤ length after
    done_within =
        let short = encode_short p in
        omega (arith, used_all, ap length bytes_all, length-written a.buffer.now a.used (encode p) (a.used + n) used_all (omega (arith, used_all)))

    pub done_sound : Sound (take (a.used + n) after) u
    done_sound = wrote_sound a p u fit goes (a.used + n) after used_all bytes_all

    pub done_ran : (b : Tape) → b.buffer.ghost_name ≡ a.buffer.ghost_name → b.used ≡ a.used + n → b.buffer.now ≡ after → Ran tape_meaning (p ∷ []) a b
    done_ran b lent used now =
        wrote a p u fit goes b room lent (used ∙ used_all) (now ∙ bytes_all ∙ ap (λ m. written a.used (encode p) m a.buffer.now) (sym used))
