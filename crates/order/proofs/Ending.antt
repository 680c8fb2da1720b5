-- After enough choices nothing is pending. Assumes nothing.
use Rattle.std.proofs.Common.{◌≡◌, ℕ, zero, suc, ◌+◌, ◌*◌, ◌<◌, ◌≤◌, true, false, not, ◌⊎◌, is_some, None, sym, refl, ap, inl, inr, arith}
use Rattle.std.proofs.lemmas.Bool.{cases_Bool}
use Rattle.machine.specs.Limits.{registers}
use Rattle.conventions.specs.Arguments.{in_register, in_slot}
use Rattle.conventions.specs.declared.arguments.Place.{Place}
use Rattle.order.specs.Indices.{first}
use Rattle.order.specs.Order.{choices}
use Rattle.order.specs.Tables.{Choice, Table, choose, finished, is_free, next_table, pending, reads, reload, spill, take, turned}
use Rattle.order.specs.Wants.{Wants}
use Rattle.order.proofs.Choosing.{Chosen, NoneFree, chosen, finishes, reloads, spills, tables, takes}
use Rattle.order.proofs.Indices.{cases_option, first_found, first_some}
use Rattle.conventions.proofs.Places.{register_same}
use Rattle.order.proofs.Sums.{bit, bit_most, count, sum_at, sum_change, sum_ones, sum_same}
use Rattle.order.proofs.Turning.{names_idle, next_idle, pending_at, scratch_other, slot_other, taken_idle, turned_idle, turned_pending, turned_reads}

-- 1 where no register is free
abbrev pub stuck : Table → ℕ
stuck t = bit (not (is_some (first (is_free t) registers)))

-- what every choice lowers
measure : Table → ℕ
measure t = 2 * count (pending t) registers + stuck t

pub stuck_one : (t : Table) → NoneFree t → stuck t ≡ 1
stuck_one t none =
    elim (cases_option (first (is_free t) registers)) [
      | inl d ↦ let low = first_some (is_free t) registers d.0 d.1 in absurd (grind (arith, none d.0 low.below, low.passes))
      | inr e ↦ grind (arith, e)
    ]

pub unstuck : (t : Table) (d : ℕ) → d < registers → is_free t d ≡ true → stuck t ≡ 0
unstuck t d h free = let found = first_found (is_free t) registers d h free in grind (arith, found.1)

-- a register that takes its source is pending no more, and the others stay as they are
pub take_count : (t : Table) (d : ℕ) → d < registers → pending t d ≡ true → count (pending (turned (t d) (in_register d) t)) registers + 1 ≡ count (pending t) registers
take_count t d h p =
    let u : Table = turned (t d) (in_register d) t in
    let here : pending u d ≡ false = names_idle u d (taken_idle t d p) in
    let change = sum_change (λ e. bit (pending u e)) (λ e. bit (pending t e)) registers d h
    (λ e k ne. ap bit (turned_pending (t d) (in_register d) t e (λ same. ne (sym (register_same d e same))))) in
    let zero' : bit (pending u d) ≡ 0 = grind (arith, here) in
    let one : bit (pending t d) ≡ 1 = grind (arith, p) in
    omega arith

take_lowers : (t : Table) (d : ℕ) → d < registers → pending t d ≡ true → measure (turned (t d) (in_register d) t) < measure t
unfolding measure
take_lowers t d h p =
    let fewer = take_count t d h p in
    let most = bit_most (not (is_some (first (is_free (turned (t d) (in_register d) t)) registers))) in
    omega arith

-- a ring that is opened leaves the same registers pending
opening_kept : (s c : Place) (t : Table) → ((e : ℕ) → pending t e ≡ true → c ≡ in_register e → ⊥) → (e : ℕ) → pending (turned s c t) e ≡ pending t e
opening_kept s c t other e =
    elim (cases_Bool (pending t e)) [
      | inl yes' ↦ turned_pending s c t e (other e yes')
      | inr no' ↦ pending_at (turned s c t) t e (turned_idle s c t e no')
    ]

pub opening_count : (s c : Place) (t : Table) → ((e : ℕ) → pending t e ≡ true → c ≡ in_register e → ⊥) → count (pending (turned s c t)) registers ≡ count (pending t) registers
opening_count s c t other =
    sum_same (λ e. bit (pending (turned s c t) e)) (λ e. bit (pending t e)) registers (λ e k. ap bit (opening_kept s c t other e))

-- and d is free then
pub opening_frees : (t : Table) (c : Place) (d : ℕ) → d < registers → pending t d ≡ true → ((e : ℕ) → pending t e ≡ true → c ≡ in_register e → ⊥) → stuck (turned (in_register d) c t) ≡ 0
opening_frees t c d h p other =
    let u : Table = turned (in_register d) c t in
    let unread : first (reads u d) registers ≡ None =
    elim (cases_option (first (reads u d) registers)) [
      | inl e ↦
          let low = first_some (reads u d) registers e.0 e.1 in
          absurd ((turned_reads (in_register d) c t d e.0 (other d p) low.passes).1 refl)
      | inr e ↦ e
    ] in
    unstuck u d h (grind (arith, opening_kept (in_register d) c t other d, p, unread))

opening_lowers : (t : Table) (c : Place) (d : ℕ) → NoneFree t → d < registers → pending t d ≡ true → ((e : ℕ) → pending t e ≡ true → c ≡ in_register e → ⊥) → measure (turned (in_register d) c t) < measure t
unfolding measure
opening_lowers t c d none h p other =
    let same = opening_count (in_register d) c t other in
    let before = stuck_one t none in
    let after = opening_frees t c d h p other in
    omega arith

lowers : (w : Wants) (scratch : ℕ) (t : Table) (k : Choice) → Chosen w t k → pending t scratch ≡ false → (measure (next_table scratch k t) < measure t) ⊎ ((r : ℕ) → r < registers → pending t r ≡ false)
lowers w scratch t (take d) (takes low) idle = inl (take_lowers t d low.below (grind (arith, low.passes)))
lowers w scratch t (reload d o) (reloads none h p slot) idle = inl (opening_lowers t (in_slot o) d none h p (λ e q. slot_other o e))
lowers w scratch t (spill d) (spills none unheld low) idle =
    inl (opening_lowers t (in_register scratch) d none low.below low.passes (scratch_other t scratch idle))
lowers w scratch t finished (finishes all) idle = inr all

tables_idle : (w : Wants) (scratch n : ℕ) (t : Table) (r : ℕ) → pending t r ≡ false → pending (tables w scratch n t) r ≡ false
unfolding tables
tables_idle w scratch zero t r h = h
tables_idle w scratch (suc n) t r h =
    tables_idle w scratch n (next_table scratch (choose w t) t) r (next_idle scratch (choose w t) t r h)

none_pending : (t : Table) (r : ℕ) → r < registers → measure t ≤ 1 → pending t r ≡ false
unfolding measure
none_pending t r h few =
    let at = sum_at (λ e. bit (pending t e)) registers r h in
    elim (cases_Bool (pending t r)) [
      | inl yes' ↦ let one : bit (pending t r) ≡ 1 = grind (arith, yes') in absurd (omega arith)
      | inr no' ↦ no'
    ]

ends_by : (w : Wants) (scratch n : ℕ) (t : Table) → pending t scratch ≡ false → measure t ≤ suc n → (r : ℕ) → r < registers → pending (tables w scratch n t) r ≡ false
unfolding tables
ends_by w scratch zero t idle few r h = none_pending t r h few
ends_by w scratch (suc n) t idle few r h =
    let u : Table = next_table scratch (choose w t) t in
    elim (lowers w scratch t (choose w t) (chosen w t) idle) [
      | inl less ↦ ends_by w scratch n u (next_idle scratch (choose w t) t scratch idle) (omega arith) r h
      | inr all ↦ tables_idle w scratch n u r (next_idle scratch (choose w t) t r (all r h))
    ]

measure_most : (t : Table) → measure t ≤ suc choices
unfolding measure
measure_most t =
    let ones = sum_ones (λ e. bit (pending t e)) registers (λ e k. bit_most (pending t e)) in
    let one = bit_most (not (is_some (first (is_free t) registers))) in
    omega arith

pub ends : (w : Wants) (scratch : ℕ) (t : Table) → pending t scratch ≡ false → (r : ℕ) → r < registers → pending (tables w scratch choices t) r ≡ false
ends w scratch t idle r h = ends_by w scratch choices t idle (measure_most t) r h
