-- What errors print. Assumes nothing.
use Rattle.std.specs.Prelude.{ℕ, List, codes}
use Rattle.machine.specs.Refusals.{refusal_text}
use Rattle.tape.specs.declared.errors.ReadError.{ReadError}
use Rattle.tape.specs.declared.errors.ReadError.TheVariants.{Memory, Refused}
use Rattle.tape.specs.declared.errors.RewriteError.{RewriteError}
use Rattle.tape.specs.declared.errors.RewriteError.TheVariants.{Buffer, Tape}
use Rattle.tape.specs.declared.readers.Fault.{Fault}

-- a fault prints its refusal
abbrev pub fault_text : Fault → List ℕ
fault_text e = refusal_text e.refusal

abbrev pub read_error_text : ReadError → List ℕ
read_error_text (Refused e) = fault_text e
read_error_text Memory = codes "no memory"

abbrev pub rewrite_error_text : RewriteError → List ℕ
rewrite_error_text (Tape e) = fault_text e
rewrite_error_text (Buffer f) = refusal_text f
