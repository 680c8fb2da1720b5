-- What is known of a choice, and the table after so many choices. Assumes nothing.
use Rattle.std.proofs.Common.{◌≡◌, ℕ, zero, suc, ◌<◌, Bool, true, false, ◌&&◌, is_some, Some, None, sym, subst, inl, inr, arith}
use Rattle.machine.specs.Limits.{registers}
use Rattle.conventions.specs.Arguments.{from_register}
use Rattle.order.specs.Indices.{first}
use Rattle.order.specs.Tables.{Choice, Table, choose, finished, is_free, next_table, opening, pending, reload, spill, take}
use Rattle.order.specs.Wants.{Wants, lowest_slot}
use Rattle.order.proofs.Indices.{Lowest, cases_option, first_none, first_some}

-- no register is free
abbrev pub NoneFree : Table → Type 0
NoneFree t = (r : ℕ) → r < registers → is_free t r ≡ false

-- each choice with what is known when it is made
pub data Chosen (w : Wants) (t : Table) : Choice → Type 0 where
  takes : {d : ℕ} → Lowest (is_free t) registers d → Chosen w t (take d)
  reloads : {d o : ℕ} → NoneFree t → d < registers → pending t d ≡ true → lowest_slot w (from_register d) ≡ Some o → Chosen w t (reload d o)
  spills : {d : ℕ} → NoneFree t → ((r : ℕ) → r < registers → pending t r ≡ true → lowest_slot w (from_register r) ≡ None) → Lowest (pending t) registers d → Chosen w t (spill d)
  finishes : ((r : ℕ) → r < registers → pending t r ≡ false) → Chosen w t finished

-- a register that is pending and that a slot holds
abbrev held : Wants → Table → ℕ → Bool
held w t d = pending t d && is_some (lowest_slot w (from_register d))

chosen_opening : (w : Wants) (t : Table) → NoneFree t → Chosen w t (opening w t)
chosen_opening w t none =
    elim (cases_option (first (held w t) registers)) [
      | inl s ↦
          let low = first_some (held w t) registers s.0 s.1 in
          elim (cases_option (lowest_slot w (from_register s.0))) [
            | inl o ↦ let is : opening w t ≡ reload s.0 o.0 = grind (arith, s.1, o.1) in
                subst (Chosen w t) (sym is) (reloads none low.below (grind (arith, low.passes)) o.1)
            | inr no_slot ↦ absurd (grind (arith, low.passes, no_slot))
          ]
      | inr nothing ↦
          let unheld : (r : ℕ) → r < registers → pending t r ≡ true → lowest_slot w (from_register r) ≡ None =
          λ r h p. elim (cases_option (lowest_slot w (from_register r))) [
            | inl o ↦ absurd (grind (arith, first_none (held w t) registers nothing r h, p, o.1))
            | inr no_slot ↦ no_slot
          ] in
          elim (cases_option (first (pending t) registers)) [
            | inl d ↦ let is : opening w t ≡ spill d.0 = grind (arith, nothing, d.1) in
                subst (Chosen w t) (sym is) (spills none unheld (first_some (pending t) registers d.0 d.1))
            | inr idle ↦ let is : opening w t ≡ finished = grind (arith, nothing, idle) in
                subst (Chosen w t) (sym is) (finishes (first_none (pending t) registers idle))
          ]
    ]

pub chosen : (w : Wants) (t : Table) → Chosen w t (choose w t)
chosen w t =
    elim (cases_option (first (is_free t) registers)) [
      | inl d ↦ let is : choose w t ≡ take d.0 = grind (arith, d.1) in
          subst (Chosen w t) (sym is) (takes (first_some (is_free t) registers d.0 d.1))
      | inr none ↦ let is : choose w t ≡ opening w t = grind (arith, none) in
          subst (Chosen w t) (sym is) (chosen_opening w t (first_none (is_free t) registers none))
    ]

-- the table after so many choices
unfoldable pub tables : Wants → ℕ → ℕ → Table → Table
tables w scratch zero t = t
tables w scratch (suc n) t = tables w scratch n (next_table scratch (choose w t) t)
