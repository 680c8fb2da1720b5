-- Round trips: what the commands of steps read as. Assumes nothing.
use Rattle.std.proofs.Common.{◌≡◌, ℕ, ltb, List, length, Ok, Err, Result, Vec, refl, ap, ◌∙◌, arith}
use Rattle.std.proofs.lemmas.Bool.{cond-false, le-ltb}
use Rattle.std.specs.declared.alloc.Global.{Global}
use Rattle.machine.specs.declared.steps.Step.{Step}
use Rattle.machine.specs.declared.turns.Turn.TheVariants.{Bare}
use Rattle.tape.specs.Limits.{tape_limit}
use Rattle.tape.specs.Readings.{reading}
use Rattle.tape.specs.Whole.{Read, ReadAs, TapeOf, checked, outcome, tape_reads}
use Rattle.tape.specs.declared.errors.ReadError.{ReadError}
use Rattle.tape.specs.declared.readers.Fault.{Fault}
use Rattle.tape.specs.declared.errors.ReadError.TheVariants.{Memory, Refused as Unread}
use Rattle.tape.proofs.Decoding.{read_all}

-- the commands of steps read as these steps
pub commands_read : (ps : List Step) (bs : List ℕ) → TapeOf ps bs → tape_reads bs ≡ Ok ps
commands_read ps bs c =
    cond-false (ltb tape_limit (length bs)) _ _ (le-ltb tape_limit (length bs) c.short)
    ∙ ap (outcome (length bs)) (ap reading c.bytes ∙ read_all ps Bare Bare c.fit c.bare)

pub read_as : (bs : List ℕ) (r : Result (Vec Step Global) ReadError) → Read bs r → (ps : List Step) → TapeOf ps bs → ReadAs ps r
read_as bs (Ok v) e ps c = grind (arith, commands_read ps bs c, e)
read_as bs (Err (Unread f)) e ps c = grind (arith, commands_read ps bs c, e)
read_as bs (Err Memory) e ps c = tt

-- what the check of a tape tells of it
pub accepted : (r : Result (List Step) Fault) → Ok tt ≡ checked r → (ps : List Step) × (r ≡ Ok ps)
accepted (Ok ps) ok = (ps, refl)
accepted (Err f) ok = absurd (grind (arith, ok))

pub refused : (r : Result (List Step) Fault) (f : Fault) → Err f ≡ checked r → r ≡ Err f
refused (Ok ps) f e = absurd (grind (arith, e))
refused (Err g) f e = cc

-- a tape that was checked is refused no more
pub not_both : (r : Result (List Step) Fault) (f : Fault) → Ok tt ≡ checked r → r ≡ Err f → ⊥
not_both (Ok ps) f ok e = grind (arith, e)
not_both (Err g) f ok e = grind (arith, ok)
