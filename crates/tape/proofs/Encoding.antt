-- Commands and the bytes that they are written as. Assumes nothing.
use Rattle.std.proofs.Common.{◌≡◌, ℕ, ◌+◌, ◌-◌, ◌*◌, ◌^◌, ◌<◌, ◌≤◌, true, ltb, leb, List, [], ◌∷◌, ◌++◌, length, get_or, take, drop, set, length-set, Some, Ok, refl, ap, ◌∙◌, arith, rules}
use Rattle.std.proofs.lemmas.List.{append_assoc, append-nil, at_drop_more, drop_all, drop_at, length-drop, length-append, take_at}
use Rattle.std.proofs.lemmas.Bool.{and_parts, cond-true, le-leb, ltb-true}
use Rattle.std.proofs.lemmas.Grind.{flat_map-append}
use Rattle.std.proofs.lemmas.Slice.{take-put_mid}
use Rattle.std.specs.List.{flat_map}
use Rattle.std.specs.Int.{to_le_bytes, w64}
use borrow.Rule.Slice.PartMut.{put_mid}
use Rattle.machine.specs.declared.steps.Step.{Step}
use Rattle.tape.specs.Limits.{longest_command}
use Rattle.tape.specs.Opcodes.{first_byte, first_width, opcode_at, second_width}
use Rattle.tape.specs.Commands.{bytes_of, command_of, encode, first_step, fits, little, size, step_at, step_by, step_of, value}
use Rattle.tape.specs.declared.commands.Command.{Command}
use Rattle.tape.specs.declared.opcodes.Opcode.{Opcode}
use Rattle.tape.proofs.Numbers.{length-little, take-le_bytes, value_little}

-- the space with a first byte v and the first operand ys written
abbrev pub half : List ℕ → ℕ → ℕ → List ℕ → List ℕ
half space v w ys = put_mid 1 (1 + w - 1) (set space 0 v) ys

-- and with the second operand zs, which fills what is left
module _ (space : List ℕ) (v w x : ℕ) (ys zs : List ℕ) (all : length space ≡ 1 + w + x) (first : length ys ≡ w) where
  begun : take 1 (set space 0 v) ≡ v ∷ []
  begun = at_start space (omega arith)
    where
      at_start : (bs : List ℕ) → 0 < length bs → take 1 (set bs 0 v) ≡ v ∷ []
      at_start [] some = absurd (omega arith)
      at_start (b ∷ bs) some = refl

  command_written : put_mid (1 + w) (length (half space v w ys) - (1 + w)) (half space v w ys) zs ≡ v ∷ (ys ++ zs)
  command_written =
      let front : take (1 + w) (half space v w ys) ≡ v ∷ ys =
      take-put_mid 1 (1 + w - 1) (set space 0 v) ys (1 + w) (omega arith) (simp length-set (omega arith)) ∙ ap (λ bs. bs ++ ys) begun in
      let nothing : drop (length (half space v w ys) - (1 + w)) (drop (1 + w) (half space v w ys)) ≡ [] =
      drop_all (length (half space v w ys) - (1 + w)) (drop (1 + w) (half space v w ys)) (simp length-drop (omega arith)) in
      (λ i. front i ++ (zs ++ nothing i)) ∙ ap (λ bs. v ∷ (ys ++ bs)) (append-nil zs)

opcode_at_byte : (o : Opcode) → opcode_at (first_byte o) ≡ Some o
opcode_at_byte o = search rules

-- two operands, with more after them
module _ (a b w x : ℕ) (rest : List ℕ) where
  operands : List ℕ
  operands = (little w a ++ little x b) ++ rest

  module _ (fit-a : a < 2 ^ (8 * w)) (fit-b : b < 2 ^ (8 * x)) where
    first_operand : value (take w operands) ≡ a
    unfolding operands
    first_operand =
        ap value (ap (take w) (append_assoc (little w a) (little x b) rest) ∙ take_at (little w a) (little x b ++ rest) w (length-little w a))
        ∙ value_little w a fit-a

    second_operand : value (take x (drop w operands)) ≡ b
    unfolding operands
    second_operand =
        ap (λ (bs : List ℕ). value (take x bs))
        (ap (drop w) (append_assoc (little w a) (little x b) rest) ∙ drop_at (little w a) (little x b ++ rest) w (length-little w a))
        ∙ ap value (take_at (little x b) rest x (length-little x b)) ∙ value_little x b fit-b

  enough : w + x ≤ length operands
  unfolding operands
  enough = simp (length-append, length-little) (omega arith)

-- a command's bytes, with more after them, begin with its step
first_step_bytes : (c : Command) (rest : List ℕ) → fits c ≡ true → first_step (bytes_of c ++ rest) ≡ Ok (step_of c)
unfolding first_step operands
first_step_bytes c rest fit =
    let w = first_width c.opcode in
    let x = second_width c.opcode in
    let a = c.first in
    let b = c.second in
    let p = and_parts (ltb a (2 ^ (8 * w))) (ltb b (2 ^ (8 * x))) fit in
    let fit-a : a < 2 ^ (8 * w) = ltb-true a (2 ^ (8 * w)) p.0 in
    let fit-b : b < 2 ^ (8 * x) = ltb-true b (2 ^ (8 * x)) p.1 in
    ap (λ o. step_at o (operands a b w x rest)) (opcode_at_byte c.opcode)
    ∙ cond-true (leb (w + x) (length (operands a b w x rest))) _ _ (le-leb (w + x) (length (operands a b w x rest)) (enough a b w x rest))
    ∙ (λ i. Ok (step_by c.opcode (first_operand a b w x rest fit-a fit-b i) (second_operand a b w x rest fit-a fit-b i)))

step_again : (p : Step) → step_of (command_of p) ≡ p
step_again p = search rules

pub first_step_encode : (p : Step) (rest : List ℕ) → fits (command_of p) ≡ true → first_step (encode p ++ rest) ≡ Ok p
unfolding encode
first_step_encode p rest fit = first_step_bytes (command_of p) rest fit ∙ ap (λ q. Ok q) (step_again p)

pub length-bytes : (c : Command) → length (bytes_of c) ≡ size c
length-bytes c = simp (length-append, length-little) (omega arith)

pub length-encode : (p : Step) → length (encode p) ≡ size (command_of p)
unfolding encode
length-encode p = length-bytes (command_of p)

pub size_bound : (c : Command) → size c ≤ longest_command
size_bound c = search rules

widths : (o : Opcode) → (first_width o ≤ 8) × (second_width o ≤ 8)
widths o = search rules

-- a command's bytes, as they are written one part after another
pub bytes_written : (c : Command) (space ys zs : List ℕ) (v w x : ℕ) → v ≡ first_byte c.opcode → w ≡ first_width c.opcode → x ≡ second_width c.opcode → length space ≡ size c → ys ≡ take w (to_le_bytes w64 c.first) → zs ≡ take x (to_le_bytes w64 c.second) → put_mid (1 + w) (length (half space v w ys) - (1 + w)) (half space v w ys) zs ≡ bytes_of c
bytes_written c space ys zs v w x v-is w-is x-is all first second =
    let wide = widths c.opcode in
    let low : ys ≡ little w c.first = first ∙ take-le_bytes w c.first (omega arith) in
    let high : zs ≡ little x c.second = second ∙ take-le_bytes x c.second (omega arith) in
    command_written space v w x ys zs (omega arith) (ap length low ∙ length-little w c.first)
    ∙ (λ i. v-is i ∷ ((low ∙ ap (λ n. little n c.first) w-is) i ++ (high ∙ ap (λ n. little n c.second) x-is) i))

-- the commands of what is left of a list, one step on
pub left_more : (ps : List Step) (i : ℕ) (d : Step) → i < length ps → length (flat_map encode (drop i ps)) ≡ length (encode (get_or ps i d)) + length (flat_map encode (drop (i + 1) ps))
left_more ps i d h =
    at_drop_more (λ qs. length (flat_map encode qs)) ps i d h ∙ length-append (encode (get_or ps i d)) (flat_map encode (drop (i + 1) ps))

-- the commands of one step more
pub joined_more : (ps : List Step) (p : Step) → flat_map encode (ps ++ (p ∷ [])) ≡ flat_map encode ps ++ encode p
joined_more ps p = flat_map-append encode ps (p ∷ []) ∙ ap (λ bs. flat_map encode ps ++ bs) (append-nil (encode p))
