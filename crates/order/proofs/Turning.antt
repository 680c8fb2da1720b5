-- What turning readers leaves pending, read and free. Assumes nothing.
use Rattle.std.proofs.Common.{◌≡◌, ℕ, true, false, not, sym, ap, ◌∙◌, inl, inr, arith}
use Rattle.std.proofs.lemmas.Bool.{and_from, and_parts, cases_Bool}
use Rattle.conventions.specs.Arguments.{in_register, in_slot, same_place}
use Rattle.conventions.specs.declared.arguments.Place.{Place}
use Rattle.order.specs.Tables.{Choice, Table, finished, next_table, pending, reads, reload, spill, take, turned}
use Rattle.conventions.proofs.Places.{place_refl, place_same, register_same, same_places}

-- an entry is turned, or it stays
pub data Turned (s c : Place) (t : Table) (e : ℕ) : Type 0 where
  turns : pending t e ≡ true → t e ≡ s → turned s c t e ≡ c → Turned s c t e
  stays : (pending t e ≡ true → t e ≡ s → ⊥) → turned s c t e ≡ t e → Turned s c t e

pub turning : (s c : Place) (t : Table) (e : ℕ) → Turned s c t e
turning s c t e =
    elim (cases_Bool (pending t e)) [
      | inl p ↦ elim (cases_Bool (same_place (t e) s)) [
        | inl q ↦ turns p (place_same (t e) s q) (grind (arith, p, q))
        | inr q ↦ stays (λ _ same. absurd (grind (arith, q, same_places (t e) s same))) (grind (arith, p, q))
      ]
      | inr p ↦ stays (λ yes' _. absurd (grind (arith, p, yes'))) (grind (arith, p))
    ]

-- an entry that names itself is not pending, and the other way round
pub idle_names : (t : Table) (e : ℕ) → pending t e ≡ false → t e ≡ in_register e
idle_names t e h = place_same (t e) (in_register e) (grind (arith, h))

pub names_idle : (t : Table) (e : ℕ) → t e ≡ in_register e → pending t e ≡ false
names_idle t e h = grind (arith, same_places (t e) (in_register e) h)

pub names_pending : (t : Table) (e : ℕ) → (t e ≡ in_register e → ⊥) → pending t e ≡ true
names_pending t e h =
    elim (cases_Bool (pending t e)) [ inl yes' ↦ yes' | inr no' ↦ absurd (h (idle_names t e no')) ]

pub pending_names : (t : Table) (e : ℕ) → pending t e ≡ true → t e ≡ in_register e → ⊥
pending_names t e h same = grind (arith, h, names_idle t e same)

pub pending_at : (t u : Table) (e : ℕ) → t e ≡ u e → pending t e ≡ pending u e
pending_at t u e h = ap (λ (p : Place). not (same_place p (in_register e))) h

-- an idle entry stays idle
pub turned_idle : (s c : Place) (t : Table) (e : ℕ) → pending t e ≡ false → turned s c t e ≡ t e
turned_idle s c t e h = grind (arith, h)

pub next_idle : (scratch : ℕ) (k : Choice) (t : Table) (e : ℕ) → pending t e ≡ false → pending (next_table scratch k t) e ≡ false
next_idle scratch (take d) t e h = pending_at (turned (t d) (in_register d) t) t e (turned_idle (t d) (in_register d) t e h) ∙ h
next_idle scratch (reload d o) t e h = pending_at (turned (in_register d) (in_slot o) t) t e (turned_idle (in_register d) (in_slot o) t e h) ∙ h
next_idle scratch (spill d) t e h = pending_at (turned (in_register d) (in_register scratch) t) t e (turned_idle (in_register d) (in_register scratch) t e h) ∙ h
next_idle scratch finished t e h = h

-- an entry turned to another place than its own register stays pending
pub turned_pending : (s c : Place) (t : Table) (e : ℕ) → (c ≡ in_register e → ⊥) → pending (turned s c t) e ≡ pending t e
turned_pending s c t e other =
    elim (turning s c t e) [
      | turns p q is ↦ names_pending (turned s c t) e (λ same. other (sym is ∙ same)) ∙ sym p
      | stays n is ↦ pending_at (turned s c t) t e is
    ]

-- the register that takes its source is pending no more
pub taken_idle : (t : Table) (d : ℕ) → pending t d ≡ true → turned (t d) (in_register d) t d ≡ in_register d
taken_idle t d h = grind (arith, h, place_refl (t d))

-- the readers of c are those that were and are not turned from it, and those that were turned to it
pub turned_reads : (s c : Place) (t : Table) (d e : ℕ) → (c ≡ in_register d → ⊥) → reads (turned s c t) d e ≡ true → (t e ≡ in_register d) × (s ≡ in_register d → ⊥) × (reads t d e ≡ true)
turned_reads s c t d e other h =
    let parts = and_parts (pending (turned s c t) e) (same_place (turned s c t e) (in_register d)) h in
    let names = place_same (turned s c t e) (in_register d) parts.1 in
    elim (turning s c t e) [
      | turns p q is ↦ absurd (other (sym is ∙ names))
      | stays n is ↦
          let was = sym is ∙ names in
          let p : pending t e ≡ true = sym (pending_at (turned s c t) t e is) ∙ parts.0 in
          (was, λ same. n p (was ∙ sym same), and_from (pending t e) (same_place (t e) (in_register d)) p (same_places (t e) (in_register d) was))
    ]

-- neither an outgoing slot nor the scratch is a pending register
pub slot_other : (o e : ℕ) → in_slot o ≡ in_register e → ⊥
slot_other o e same = grind (arith, same_places (in_slot o) (in_register e) same)

pub scratch_other : (t : Table) (scratch : ℕ) → pending t scratch ≡ false → (e : ℕ) → pending t e ≡ true → in_register scratch ≡ in_register e → ⊥
scratch_other t scratch idle e p same = grind (arith, p, idle, ap (pending t) (register_same scratch e same))

-- a register that is pending after a turning was so before
pub turned_was : (s c : Place) (t : Table) (r : ℕ) → pending (turned s c t) r ≡ true → pending t r ≡ true
turned_was s c t r p =
    elim (turning s c t r) [ turns q at is ↦ q | stays n is ↦ sym (pending_at (turned s c t) t r is) ∙ p ]
