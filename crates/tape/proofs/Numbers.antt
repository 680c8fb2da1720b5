-- Numbers as bytes, low byte first. Assumes nothing.
use Rattle.std.proofs.Common.{◌≡◌, ℕ, zero, suc, ◌+◌, ◌*◌, ◌/◌, ◌%◌, ◌^◌, ◌<◌, ◌≤◌, List, [], ◌∷◌, ◌++◌, length, get_or, take, sym, refl, ap, append_assoc, ◌∙◌, subst, arith, pow_mono}
use Rattle.std.proofs.Math.Seq.{get_or-append_seam}
use Rattle.std.proofs.lemmas.List.{append-nil, length-append}
use Rattle.std.proofs.lemmas.Nat.{shr-shr, div_below, div-mul-add, mod-mul-add, div-add-mod', mul-add-lt, pow-add}
use Rattle.std.proofs.Math.Nat.{div-div-eq-div-mul}
use Rattle.std.specs.Int.{bytes_low_first, to_le_bytes, w64}
use Rattle.std.specs.List.{push}
use Rattle.tape.specs.Commands.{little, value}

pub length-little : (w v : ℕ) → length (little w v) ≡ w
unfolding little
length-little zero v = refl
length-little (suc w) v = ap suc (length-little w (v / 256))

pub get_or-little : (w v i : ℕ) → i < w → get_or (little w v) i 0 ≡ (v / 2 ^ (8 * i)) % 256
unfolding little
get_or-little zero v i h = absurd (omega arith)
get_or-little (suc w) v zero h = ap (λ n. n % 256) (grind arith)
get_or-little (suc w) v (suc i) h =
    get_or-little w (v / 256) i (omega arith)
    ∙ ap (λ n. n % 256) (shr-shr v 8 (8 * i) ∙ ap (λ k. v / 2 ^ k) (omega arith))

take-little : (w x v : ℕ) → w ≤ x → take w (little x v) ≡ little w v
unfolding little
take-little zero x v h = refl
take-little (suc w) zero v h = absurd (omega arith)
take-little (suc w) (suc x) v h = ap (λ bs. v % 256 ∷ bs) (take-little w x (v / 256) (omega arith))

-- the library's bytes of a number are these
little_from : (i w v u : ℕ) → u ≡ v / 256 ^ i → bytes_low_first i w v ≡ little w u
unfolding little
little_from i zero v u e = refl
little_from zero (suc w) v u e =
    let same : v ≡ u = omega arith in
    let next : u / 256 ≡ v / 256 ^ 1 = ap (λ n. n / 256) (sym same) in
    (λ k. same k % 256 ∷ little_from 1 w v (u / 256) next k)
little_from (suc i) (suc w) v u e =
    let power : 256 ^ suc (suc i) ≡ 256 ^ suc i * 256 = ap (λ k. 256 ^ k) (omega arith) ∙ pow-add 256 (suc i) 1 in
    let next : u / 256 ≡ v / 256 ^ suc (suc i) = ap (λ n. n / 256) e ∙ div-div-eq-div-mul v (256 ^ suc i) 256 ∙ ap (λ n. v / n) (sym power) in
    (λ k. sym e k % 256 ∷ little_from (suc (suc i)) w v (u / 256) next k)

le_bytes_is : (v : ℕ) → to_le_bytes w64 v ≡ little 8 v
le_bytes_is v = little_from 0 8 v v (omega arith)

pub take-le_bytes : (w v : ℕ) → w ≤ 8 → take w (to_le_bytes w64 v) ≡ little w v
take-le_bytes w v h = ap (take w) (le_bytes_is v) ∙ take-little w 8 v h

-- one byte more is eight bits more
more_bits : (n : ℕ) → 2 ^ (8 * suc n) ≡ 2 ^ (8 * n) * 256
more_bits n = ap (λ k. 2 ^ k) (omega arith) ∙ pow-add 2 (8 * n) 8

pub value_little : (w v : ℕ) → v < 2 ^ (8 * w) → value (little w v) ≡ v
unfolding little value
value_little zero v h = omega arith
value_little (suc w) v h =
    let more = more_bits w in
    let high : v / 256 < 2 ^ (8 * w) = div_below v 256 (2 ^ (8 * w)) (omega arith) (omega arith) in
    let rest = value_little w (v / 256) high in
    omega (arith, div-add-mod' v 256)

-- one byte more at the low end
module _ (b n v : ℕ) (byte : b < 256) where
  number_fits : v < 2 ^ (8 * n) → v * 256 + b < 2 ^ (8 * suc n)
  number_fits high = omega (arith, more_bits n, mul-add-lt v 256 b (2 ^ (8 * n)) high byte)

  little_more : (bs : List ℕ) → little n v ≡ bs → little (suc n) (v * 256 + b) ≡ b ∷ bs
  unfolding little
  little_more bs e = rw (mod-mul-add v 256 b byte, div-mul-add v 256 b byte, e)

-- the bytes write the number, and the number writes them again
pub record Writes (v : ℕ) (bs : List ℕ) : Type 0 where
  pub value_is : v ≡ value bs
  pub again : little (length bs) v ≡ bs
  pub fit : v < 2 ^ (8 * length bs)

writes_none : Writes 0 []
unfolding little value
writes_none = record { value_is = refl; again = refl; fit = omega arith }

writes_more : (b v : ℕ) (bs : List ℕ) → b < 256 → Writes v bs → Writes (v * 256 + b) (b ∷ bs)
unfolding value
writes_more b v bs byte w = record {
  value_is = omega (arith, w.value_is);
  again = little_more b (length bs) v byte bs w.again;
  fit = number_fits b (length bs) v byte w.fit;
}

-- a loop from the last byte down: those after the bytes that are left write the number so far
pub record WritesFrom (bs left : List ℕ) (v : ℕ) : Type 0 where
  pub done : List ℕ
  pub parts : bs ≡ left ++ done
  pub writes : Writes v done

pub writes_from_end : (bs : List ℕ) → WritesFrom bs bs 0
writes_from_end bs = record { done = []; parts = sym (append-nil bs); writes = writes_none }

pub writes_whole : (bs left : List ℕ) (v : ℕ) → length left ≡ 0 → WritesFrom bs left v → Writes v bs
writes_whole bs [] v none w = subst (Writes v) (sym w.parts) w.writes
writes_whole bs (b ∷ left) v none w = absurd (omega arith)

module _ (bs left rest : List ℕ) (b v : ℕ) (next : left ≡ push rest b) (w : WritesFrom bs left v) where
  parts_next : bs ≡ rest ++ (b ∷ w.done)
  parts_next = w.parts ∙ ap (λ xs. xs ++ w.done) next ∙ append_assoc rest (b ∷ []) w.done

  -- at most seven bytes leave the place for one more
  pub room_for_more : length bs ≤ 8 → v < 2 ^ 56
  room_for_more few =
      let count : length bs ≡ length rest + suc (length w.done) = ap length parts_next ∙ length-append rest (b ∷ w.done) in
      let most : 8 * length w.done ≤ 56 = omega arith in
      omega (arith, w.writes.fit, pow_mono most)

  module _ (bytes : (i : ℕ) → get_or bs i 0 < 256) where
    pub byte_next : b < 256
    byte_next =
        let at : get_or bs (length rest) 0 ≡ b = ap (λ xs. get_or xs (length rest) 0) parts_next ∙ get_or-append_seam rest b w.done 0 in
        omega (arith, bytes (length rest))

    pub writes_earlier : WritesFrom bs rest (v * 256 + b)
    writes_earlier = record { done = b ∷ w.done; parts = parts_next; writes = writes_more b v w.done byte_next w.writes }
