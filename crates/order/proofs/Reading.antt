-- Where every pending register is read, the pending registers read one another, each once. Assumes nothing.
use Rattle.std.proofs.Common.{◌≡◌, ℕ, ◌<◌, ◌≤◌, Bool, true, false, ◌&&◌, sym, refl, ◌∙◌, inl, inr, arith}
use Rattle.std.proofs.lemmas.Bool.{and_from, and_parts, cases_Bool, cases_eq}
use Rattle.machine.specs.Limits.{registers}
use Rattle.conventions.specs.Arguments.{in_register, same_place}
use Rattle.order.specs.Indices.{first}
use Rattle.order.specs.Tables.{Table, pending, reads}
use Rattle.order.proofs.Choosing.{NoneFree}
use Rattle.order.proofs.Indices.{cases_option, first_some}
use Rattle.conventions.proofs.Places.{place_same, register_same}
use Rattle.order.proofs.Sums.{bit, bit_most, sum, sum_at, sum_most, sum_none, sum_once, sum_some, sum_swap, sum_tight, sum_two}

-- pending register d is read by pending register e
abbrev linked : Table → ℕ → ℕ → Bool
linked t d e = pending t d && reads t d e

pub reads_place : (t : Table) (d e : ℕ) → reads t d e ≡ true → t e ≡ in_register d
reads_place t d e h = place_same (t e) (in_register d) (and_parts (pending t e) (same_place (t e) (in_register d)) h).1

bit_true : (b : Bool) → 0 < bit b → b ≡ true
bit_true true h = refl
bit_true false h = absurd (omega arith)

module _ (t : Table) (n : ℕ) (read : (d : ℕ) → d < n → pending t d ≡ true → (e : ℕ) × (e < n) × (reads t d e ≡ true)) where
  -- every pending register has a reader
  has_reader : (d : ℕ) → d < n → bit (pending t d) ≤ sum (λ e. bit (linked t d e)) n
  has_reader d h =
      elim (cases_Bool (pending t d)) [
        | inl yes' ↦
            let e = read d h yes' in
            let at = sum_at (λ k. bit (linked t d k)) n e.0 e.1 in
            let one : bit (linked t d e.0) ≡ 1 = grind (arith, yes', e.2) in
            let bound = bit_most (pending t d) in
            omega arith
        | inr no' ↦ let none : bit (pending t d) ≡ 0 = grind (arith, no') in omega arith
      ]

  -- and every pending register reads at most one
  reads_one : (e : ℕ) → e < n → sum (λ d. bit (linked t d e)) n ≤ bit (pending t e)
  reads_one e h =
      elim (cases_Bool (pending t e)) [
        | inl yes' ↦
            let once = sum_once (λ d. bit (linked t d e)) n (λ d. bit_most (linked t d e))
            (λ i j k l p q.
            let left = reads_place t i e (and_parts (pending t i) (reads t i e) (bit_true (linked t i e) p)).1 in
            let right = reads_place t j e (and_parts (pending t j) (reads t j e) (bit_true (linked t j e) q)).1 in
            register_same i j (sym left ∙ right)) in
            let one : bit (pending t e) ≡ 1 = grind (arith, yes') in
            omega arith
        | inr no' ↦
            let none = sum_none (λ d. bit (linked t d e)) n (λ d k. grind (arith, no')) in
            omega arith
      ]

  -- so the sums are equal, and each register has and is one reader
  counted : sum (λ d. bit (pending t d)) n ≡ sum (λ d. sum (λ e. bit (linked t d e)) n) n
  counted =
      let more = sum_most (λ d. bit (pending t d)) (λ d. sum (λ e. bit (linked t d e)) n) n has_reader in
      let less = sum_most (λ e. sum (λ d. bit (linked t d e)) n) (λ e. bit (pending t e)) n reads_one in
      let swap = sum_swap (λ d e. bit (linked t d e)) n n in
      omega arith

  reads_pending : (e : ℕ) → e < n → pending t e ≡ true → (d : ℕ) × (d < n) × (linked t d e ≡ true)
  reads_pending e h yes' =
      let swap = sum_swap (λ d k. bit (linked t d k)) n n in
      let total : sum (λ k. bit (pending t k)) n ≤ sum (λ k. sum (λ d. bit (linked t d k)) n) n = omega (arith, counted) in
      let tight = sum_tight (λ k. sum (λ d. bit (linked t d k)) n) (λ k. bit (pending t k)) n reads_one total e h in
      let one : bit (pending t e) ≡ 1 = grind (arith, yes') in
      let some = sum_some (λ d. bit (linked t d e)) n (omega arith) in
      (some.0, some.1, bit_true (linked t some.0 e) some.2)

  one_reader : (d i j : ℕ) → d < n → i < n → j < n → linked t d i ≡ true → linked t d j ≡ true → i ≡ j
  one_reader d i j h k l p q =
      elim (cases_eq i j) [
        | inl same ↦ same
        | inr ne ↦
            let tight = sum_tight (λ c. bit (pending t c)) (λ c. sum (λ e. bit (linked t c e)) n) n has_reader (omega (arith, counted)) d h in
            let two = sum_two (λ e. bit (linked t d e)) n i j k l ne in
            let left : bit (linked t d i) ≡ 1 = grind (arith, p) in
            let right : bit (linked t d j) ≡ 1 = grind (arith, q) in
            let most = bit_most (pending t d) in
            absurd (omega arith)
      ]

-- where none is free, every pending register is read
pub none_free_read : (t : Table) → NoneFree t → (d : ℕ) → d < registers → pending t d ≡ true → (e : ℕ) × (e < registers) × (reads t d e ≡ true)
none_free_read t none d h yes' =
    elim (cases_option (first (reads t d) registers)) [
      | inl e ↦ let low = first_some (reads t d) registers e.0 e.1 in (e.0, low.below, low.passes)
      | inr unread ↦ absurd (grind (arith, none d h, yes', unread))
    ]

-- what a pending register names is a pending register
pub onto : (t : Table) → NoneFree t → (e : ℕ) → e < registers → pending t e ≡ true → (r : ℕ) × (r < registers) × (pending t r ≡ true) × (t e ≡ in_register r)
onto t none e h yes' =
    let found = reads_pending t registers (none_free_read t none) e h yes' in
    let parts = and_parts (pending t found.0) (reads t found.0 e) found.2 in
    (found.0, found.1, parts.0, reads_place t found.0 e parts.1)

-- and it is read by no other
pub reader_unique : (t : Table) → NoneFree t → (d i j : ℕ) → d < registers → i < registers → j < registers → pending t d ≡ true → reads t d i ≡ true → reads t d j ≡ true → i ≡ j
reader_unique t none d i j h k l yes' p q =
    one_reader t registers (none_free_read t none) d i j h k l (and_from (pending t d) (reads t d i) yes' p) (and_from (pending t d) (reads t d j) yes' q)
