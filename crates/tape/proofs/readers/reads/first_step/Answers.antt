use Rattle.std.proofs.Common.{◌≡◌, ◌<◌, ◌≤◌, ◌∷◌, length, take, drop, Err, rules}
use Rattle.std.proofs.lemmas.Result.{err_from_is_err_and}
use Rattle.machine.specs.declared.refusals.Refusal.TheVariants.{CutShort}
use Rattle.tape.specs.Opcodes.{first_width, operand_bytes, second_width}
use Rattle.tape.proofs.Parsing.{found, not_found, parsed, parsed_empty, parsed_none, parsed_short}
use Rattle.tape.proofs.readers.reads.first_step.Goals as goal

pub returns-in_err-byte : goal.returns-in_err-byte
returns-in_err-byte c =
    let none : length c.args.bytes.now ≡ 0 = search rules in
    let is : c.from_residual.result ≡ Err CutShort = search rules in
    rw is (parsed_empty c.args.bytes.now none)

pub returns-in_err-opcode : goal.returns-in_err-opcode
returns-in_err-opcode c =
    let p = err_from_is_err_and c.from_residual-in_err-opcode.result c.from_residual-in_err-opcode.ensures.1 in
    let split : c.args.bytes.now ≡ c.in_ok-byte.byte.now ∷ c.in_ok-byte.operands.now = search rules in
    let none = not_found _ _ c.in_err-opcode.ensures in
    rw (p.1, p.2, none.1, split) (parsed_none _ _ none.0)

pub returns-in_err-first : goal.returns-in_err-first
returns-in_err-first c =
    let split : c.args.bytes.now ≡ c.in_ok-byte.byte.now ∷ c.in_ok-byte.operands.now = search rules in
    let is : c.from_residual-in_err-first.result ≡ Err CutShort = search rules in
    let short : length c.in_ok-byte.operands.now < operand_bytes c.in_ok-opcode.opcode = search rules in
    rw (is, split) (parsed_short _ _ _ (found _ _ c.in_ok-opcode.ensures) short)

pub returns-in_err-second : goal.returns-in_err-second
returns-in_err-second c =
    let split : c.args.bytes.now ≡ c.in_ok-byte.byte.now ∷ c.in_ok-byte.operands.now = search rules in
    let is : c.from_residual-in_err-second.result ≡ Err CutShort = search rules in
    let short : length c.in_ok-byte.operands.now < operand_bytes c.in_ok-opcode.opcode = search rules in
    rw (is, split) (parsed_short _ _ _ (found _ _ c.in_ok-opcode.ensures) short)

pub returns : goal.returns
returns c =
    let split : c.args.bytes.now ≡ c.in_ok-byte.byte.now ∷ c.in_ok-byte.operands.now = search rules in
    let bs = c.in_ok-byte.operands.now in
    let o = c.in_ok-opcode.opcode in
    let first = c.number.ensures in
    let second = c.number-2.ensures in
    let first-there : c.in_ok-first.first.now ≡ take (first_width o) bs = search rules in
    let second-there : c.in_ok-second.second.now ≡ take (second_width o) (drop (first_width o) bs) = search rules in
    let enough : operand_bytes o ≤ length bs = search rules in
    rw (c.step.ensures, split)
    (parsed _ bs o (found _ _ c.in_ok-opcode.ensures) _ _ _ _ first-there second-there enough first.is second.is first.again second.again)
