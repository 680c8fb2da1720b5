-- What whole tapes read as. Assumes nothing.
use Rattle.std.specs.Prelude.{◌≡◌, ℕ, ◌+◌, ◌-◌, ◌≤◌, true, cond, List, ◌++◌, length, drop, Some, None, Ok, Err, vec_items, Result, Vec, nat_lt}
use Rattle.std.specs.List.{flat_map}
use Rattle.std.specs.declared.alloc.Global.{Global}
use Rattle.machine.specs.Turns.{is_bare, walked}
use Rattle.machine.specs.declared.refusals.Refusal.{Refusal}
use Rattle.machine.specs.declared.refusals.Refusal.TheVariants.{NoRoom, OutOfTurn, TooLong}
use Rattle.machine.specs.declared.steps.Step.{Step}
use Rattle.machine.specs.declared.turns.Turn.TheVariants.{Bare}
use Rattle.tape.specs.Limits.{longest_command, tape_limit}
use Rattle.tape.specs.Commands.{encode}
use Rattle.tape.specs.Readings.{Reading, all_fit, reading}
use Rattle.tape.specs.Readers.{fault}
use Rattle.tape.specs.declared.readers.Fault.{Fault}
use Rattle.tape.specs.declared.errors.ReadError.{ReadError}
use Rattle.tape.specs.declared.errors.ReadError.TheVariants.{Memory, Refused}
use Rattle.tape.specs.declared.errors.RewriteError.{RewriteError}
use Rattle.tape.specs.declared.errors.RewriteError.TheVariants.{Buffer, Tape}

-- what a reading of a tape of n bytes comes to: its steps if it ends bare, and otherwise why it is
-- refused and at which byte
abbrev pub outcome : ℕ → Reading → Result (List Step) Fault
outcome n r =
    elim r.stop [
      | Some f ↦ Err (fault f (n - length r.left))
      | None ↦ cond (is_bare r.turn) (Ok r.steps) (Err (fault OutOfTurn n))
    ]

-- what a tape reads as
abbrev pub tape_reads : List ℕ → Result (List Step) Fault
tape_reads bs = cond (nat_lt tape_limit (length bs)) (Err (fault TooLong 0)) (outcome (length bs) (reading bs))

-- whether it reads as anything
abbrev pub checked : Result (List Step) Fault → Result (Unit {0}) Fault
checked (Ok ps) = Ok tt
checked (Err f) = Err f

-- the tape was read into a list, unless that found no memory for an accepted one
abbrev pub Read : List ℕ → Result (Vec Step Global) ReadError → Type 0
Read bs (Ok v) = tape_reads bs ≡ Ok (vec_items v)
Read bs (Err (Refused f)) = tape_reads bs ≡ Err f
Read bs (Err Memory) = (ps : List Step) × (tape_reads bs ≡ Ok ps)

-- the list is these steps, unless it found no memory
abbrev pub ReadAs : List Step → Result (Vec Step Global) ReadError → Type 0
ReadAs ps (Ok v) = vec_items v ≡ ps
ReadAs ps (Err (Refused f)) = ⊥
ReadAs ps (Err Memory) = Unit {0}

-- the bytes are the tape of these steps: their commands, written from bare to bare and not too long
pub record TapeOf (ps : List Step) (bs : List ℕ) : Type 0 where
  pub bytes : bs ≡ flat_map encode ps
  pub fit : all_fit ps ≡ true
  pub bare : walked ps Bare ≡ Ok Bare
  pub short : length bs ≤ tape_limit

-- the answer to steps to be written as a tape: the first step's refusal that is out of range or out of
-- turn, then no room unless ten bytes are to spare, and otherwise the tape's length
abbrev pub write_verdict : List Step → ℕ → Result ℕ Refusal
write_verdict ps space =
    elim (walked ps Bare) [
      | Ok _ ↦ cond (nat_lt space (length (flat_map encode ps) + longest_command)) (Err NoRoom) (Ok (length (flat_map encode ps)))
      | Err f ↦ Err f
    ]

-- a tape that was written, ends bare and is not too long reads as the steps written
abbrev pub ReadsBack : List Step → Result ℕ Refusal → Type 0
ReadsBack ps (Ok n) = n ≤ tape_limit → walked ps Bare ≡ Ok Bare → tape_reads (flat_map encode ps) ≡ Ok ps
ReadsBack ps (Err _) = Unit {0}

-- the buffer begins with the tape and is otherwise as it was, or nothing has changed
abbrev pub Filled : {E : Type 0} → List ℕ → Result ℕ E → List ℕ → List ℕ → Type 0
Filled tape (Ok _) before after = after ≡ tape ++ drop (length tape) before
Filled tape (Err _) before after = after ≡ before

-- the answer to a tape of n bytes to be written again: why it is refused, then no room unless ten bytes
-- are to spare, and otherwise its length
abbrev pub rewritten : Result (List Step) Fault → ℕ → ℕ → Result ℕ RewriteError
rewritten (Ok _) n space = cond (nat_lt space (n + longest_command)) (Err (Buffer NoRoom)) (Ok n)
rewritten (Err f) n space = Err (Tape f)

abbrev pub rewrite_verdict : List ℕ → ℕ → Result ℕ RewriteError
rewrite_verdict bs space = rewritten (tape_reads bs) (length bs) space
