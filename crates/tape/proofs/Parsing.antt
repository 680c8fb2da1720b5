-- The command that bytes begin with, and that its bytes are its step's. Assumes nothing.
use Rattle.std.proofs.Common.{◌≡◌, ℕ, suc, ◌+◌, ◌<◌, ◌≤◌, leb, List, [], ◌∷◌, ◌++◌, length, take, drop, Some, None, Ok, Err, Option, sym, refl, ap, ◌∙◌, subst, arith, rules, take-add}
use Rattle.std.proofs.lemmas.List.{length-drop, length-take-le}
use Rattle.std.proofs.lemmas.Bool.{cond-false, cond-true, le-leb, lt-leb}
use Rattle.std.proofs.lemmas.Bool.Decides.{nat_tests}
use Rattle.std.specs.Option.{ok_or}
use Rattle.machine.specs.declared.refusals.Refusal.{Refusal}
use Rattle.machine.specs.declared.refusals.Refusal.TheVariants.{CutShort, UnknownCommand}
use Rattle.tape.specs.Opcodes.{first_byte, first_width, opcode_at, operand_bytes, second_width}
use Rattle.tape.specs.Commands.{bytes_of, command, encode, first_step, little, step_at, step_by, value}
use Rattle.tape.specs.Readers.{Commanded}
use Rattle.tape.specs.declared.opcodes.Opcode.{Opcode}

-- an opcode that was found, and one that was not
pub found : (o : Option Opcode) (q : Opcode) → Ok q ≡ ok_or o UnknownCommand → o ≡ Some q
found (Some p) q e = cc
found None q e = absurd (cc)

pub not_found : (o : Option Opcode) (f : Refusal) → Err f ≡ ok_or o UnknownCommand → (o ≡ None) × (f ≡ UnknownCommand)
not_found (Some p) f e = absurd (cc)
not_found None f e = (refl, cc)

opcode_byte : (b : ℕ) (o : Opcode) → opcode_at b ≡ Some o → b ≡ first_byte o
opcode_byte b o e = grind (arith, nat_tests, e)

-- a second operand that is not there is not written
encode_step : (o : Opcode) (a b : ℕ) → encode (step_by o a b) ≡ bytes_of (command o a b)
unfolding encode little
encode_step o a b = search rules

pub parsed_empty : (xs : List ℕ) → length xs ≡ 0 → Commanded xs (Err CutShort)
unfolding first_step
parsed_empty [] empty = record { answer = refl; bytes = λ p e. absurd (grind (arith, e)) }
parsed_empty (b ∷ bs) empty = absurd (omega arith)

-- a first byte b and what follows it
module _ (b : ℕ) (bs : List ℕ) where
  pub parsed_none : opcode_at b ≡ None → Commanded (b ∷ bs) (Err UnknownCommand)
  unfolding first_step
  parsed_none none = record {
    answer = sym (ap (λ o. step_at o bs) none);
    bytes = λ p e. absurd (grind (arith, e));
  }

  module _ (o : Opcode) (known : opcode_at b ≡ Some o) where
    at_opcode : first_step (b ∷ bs) ≡ step_at (Some o) bs
    unfolding first_step
    at_opcode = ap (λ k. step_at k bs) known

    pub parsed_short : length bs < operand_bytes o → Commanded (b ∷ bs) (Err CutShort)
    parsed_short short = record {
      answer = sym (at_opcode ∙ cond-false (leb (operand_bytes o) (length bs)) _ _ (lt-leb _ _ short));
      bytes = λ p e. absurd (grind (arith, e));
    }

    -- the operands m and n, read from the bytes ys and zs
    module _ (m n : ℕ) (ys zs : List ℕ)
        (ys-there : ys ≡ take (first_width o) bs)
        (zs-there : zs ≡ take (second_width o) (drop (first_width o) bs))
        (enough : operand_bytes o ≤ length bs) where
      answered : m ≡ value ys → n ≡ value zs → Ok (step_by o m n) ≡ first_step (b ∷ bs)
      answered m-is n-is =
          let all = cond-true (leb (operand_bytes o) (length bs)) _ _ (le-leb _ _ enough) in
          let m-there : m ≡ value (take (first_width o) bs) = m-is ∙ ap value ys-there in
          let n-there : n ≡ value (take (second_width o) (drop (first_width o) bs)) = n-is ∙ ap value zs-there in
          (λ i. Ok (step_by o (m-there i) (n-there i))) ∙ sym (at_opcode ∙ all)

      front : little (length ys) m ≡ ys → little (length zs) n ≡ zs → take (length (encode (step_by o m n))) (b ∷ bs) ≡ encode (step_by o m n)
      front m-again n-again =
          let w = first_width o in
          let x = second_width o in
          let width-m : length ys ≡ w = ap length ys-there ∙ length-take-le w bs (omega arith) in
          let width-n : length zs ≡ x = ap length zs-there ∙ length-take-le x (drop w bs) (simp length-drop (omega arith)) in
          let low : little w m ≡ take w bs = ap (λ k. little k m) (sym width-m) ∙ m-again ∙ ys-there in
          let high : little x n ≡ take x (drop w bs) = ap (λ k. little k n) (sym width-n) ∙ n-again ∙ zs-there in
          let bytes : encode (step_by o m n) ≡ take (suc (w + x)) (b ∷ bs) =
          encode_step o m n ∙ (λ i. sym (opcode_byte b o known) i ∷ (low i ++ high i)) ∙ ap (λ l. b ∷ l) (sym (take-add w x bs)) in
          ap (λ l. take (length l) (b ∷ bs)) bytes ∙ ap (λ k. take k (b ∷ bs)) (length-take-le (suc (w + x)) (b ∷ bs) (omega arith)) ∙ sym bytes

      pub parsed : m ≡ value ys → n ≡ value zs → little (length ys) m ≡ ys → little (length zs) n ≡ zs → Commanded (b ∷ bs) (Ok (step_by o m n))
      parsed m-is n-is m-again n-again = record {
        answer = answered m-is n-is;
        bytes = λ p e.
            let same : step_by o m n ≡ p = cc in
            subst (λ q. take (length (encode q)) (b ∷ bs) ≡ encode q) same (front m-again n-again);
      }
