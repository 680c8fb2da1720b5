-- What bytes read as, command by command. Assumes nothing.
use Rattle.std.proofs.Common.{◌≡◌, ℕ, zero, suc, ◌+◌, ◌<◌, true, List, [], ◌∷◌, ◌++◌, length, drop, None, Ok, Err, refl, ap, ◌∙◌, arith}
use Rattle.std.proofs.lemmas.List.{drop_at}
use Rattle.std.proofs.lemmas.Bool.{and_parts}
use Rattle.std.specs.List.{flat_map}
use Rattle.machine.specs.Turns.{moved, turn_after, walked}
use Rattle.machine.specs.declared.refusals.Refusal.{Refusal}
use Rattle.machine.specs.declared.steps.Step.{Step}
use Rattle.machine.specs.declared.turns.Turn.{Turn}
use Rattle.machine.proofs.Walks.{goes}
use Rattle.tape.specs.Opcodes.{operand_bytes}
use Rattle.tape.specs.Commands.{command_of, encode, first_step, fits, size}
use Rattle.tape.specs.Readings.{Reading, all_fit, before, read, stopped}
use Rattle.tape.proofs.Encoding.{first_step_encode, length-encode}

-- the bytes of the latest command are passed over
read_past : (k : ℕ) (t : Turn) (bs : List ℕ) → read k t bs ≡ read 0 t (drop k bs)
unfolding read
read_past zero t bs = refl
read_past (suc k) t [] = refl
read_past (suc k) t (b ∷ bs) = read_past k t bs

-- a command that is taken
pub read_step : (xs : List ℕ) (t u : Turn) (p : Step) → first_step xs ≡ Ok p → moved p t ≡ Ok u → read 0 t xs ≡ before p (read 0 u (drop (size (command_of p)) xs))
unfolding read first_step
read_step [] t u p e m = absurd (grind (arith, e))
read_step (b ∷ bs) t u p e m =
    let k = operand_bytes (command_of p).opcode in
    let one : suc k ≡ k + 1 = omega arith in
    let rest : read k u bs ≡ read 0 u (drop (k + 1) (b ∷ bs)) = read_past k u bs ∙ ap (λ n. read 0 u (drop n (b ∷ bs))) one in
    cc

-- bytes that begin no command
pub read_none : (xs : List ℕ) (t : Turn) (f : Refusal) → 0 < length xs → first_step xs ≡ Err f → read 0 t xs ≡ stopped t xs f
unfolding read
read_none [] t f some e = absurd (omega arith)
read_none (b ∷ bs) t f some e = cc

-- a command that is refused
pub read_refused : (xs : List ℕ) (t : Turn) (p : Step) (f : Refusal) → first_step xs ≡ Ok p → moved p t ≡ Err f → read 0 t xs ≡ stopped t xs f
unfolding read first_step
read_refused [] t p f e m = absurd (grind (arith, e))
read_refused (b ∷ bs) t p f e m = cc

-- a step's command, with more after it
read_encode : (p : Step) (rest : List ℕ) (t u : Turn) → fits (command_of p) ≡ true → moved p t ≡ Ok u → read 0 t (encode p ++ rest) ≡ before p (read 0 u rest)
read_encode p rest t u fit m =
    read_step (encode p ++ rest) t u p (first_step_encode p rest fit) m
    ∙ ap (λ xs. before p (read 0 u xs)) (drop_at (encode p) rest (size (command_of p)) (length-encode p))

-- all of these steps were read, and nothing else was there
abbrev pub all_read : List Step → Turn → Reading
all_read ps u = record { steps = ps; turn = u; left = []; stop = None }

-- the commands of steps read as these steps
pub read_all : (ps : List Step) (t u : Turn) → all_fit ps ≡ true → walked ps t ≡ Ok u → read 0 t (flat_map encode ps) ≡ all_read ps u
unfolding read
read_all [] t u fit e = ap (all_read []) (grind (arith, e))
read_all (p ∷ ps) t u fit e =
    let parts = and_parts (fits (command_of p)) (all_fit ps) fit in
    let go = goes p ps t u e in
    let first : moved p t ≡ Ok (turn_after p t) = grind (arith, go.in_its_range, go.in_its_turn) in
    read_encode p (flat_map encode ps) t (turn_after p t) parts.0 first
    ∙ ap (before p) (read_all ps (turn_after p t) u parts.1 go.rest)
