-- While a register is pending, it is read by nobody, or just by those that read it at first. Assumes nothing.
use Rattle.std.proofs.Common.{◌≡◌, ℕ, ◌<◌, true, false, ◌⊎◌, List, Some, None, Option, sym, ap, ◌∙◌, subst, inl, inr, arith}
use Rattle.std.proofs.lemmas.Bool.{and_from, cases_Bool}
use Rattle.machine.specs.Limits.{registers}
use Rattle.conventions.specs.Arguments.{from_register, in_register, in_slot, same_place, source_at}
use Rattle.conventions.specs.declared.arguments.Argument.{Argument}
use Rattle.conventions.specs.declared.arguments.Place.{Place}
use Rattle.conventions.specs.declared.arguments.Source.{Source}
use Rattle.conventions.specs.declared.arguments.Source.TheVariants.{Number, Register as Held, Local}
use Rattle.least.specs.Counts.{Reads}
use Rattle.order.specs.Tables.{Choice, Table, finished, next_table, opening_table, pending, pending_source, reads, reload, spill, take, turned}
use Rattle.order.specs.Wants.{Wants, wants}
use Rattle.order.proofs.Choosing.{Chosen, NoneFree, takes}
use Rattle.conventions.proofs.Places.{place_same, register_same, same_places}
use Rattle.order.proofs.Reading.{onto, reads_place}
use Rattle.order.proofs.Turning.{next_idle, pending_names, scratch_other, slot_other, stays, taken_idle, turned_reads, turned_was, turning, turns}

-- the opening table has just the arguments' registers
pub opening_reads : (xs : List Argument) (e r : ℕ) → opening_table (wants xs) e ≡ in_register r → (e ≡ r → ⊥) → Reads xs e r
opening_reads xs e r h ne = held (source_at xs (in_register e)) h
  where
    held : (o : Option Source) → pending_source e o ≡ in_register r → o ≡ Some (from_register r)
    held None h' = absurd (ne (register_same e r h'))
    held (Some (Number k)) h' = absurd (ne (register_same e r h'))
    held (Some (Held q)) h' = ap (λ k. Some (from_register k)) (register_same q.0 r h')
    held (Some (Local n)) h' = absurd (ne (register_same e r h'))

pub reads_opening : (xs : List Argument) (e r : ℕ) → Reads xs e r → opening_table (wants xs) e ≡ in_register r
reads_opening xs e r h = ap (pending_source e) h

-- nobody reads the register
abbrev pub Unread : Table → ℕ → Type 0
Unread t r = (e : ℕ) → e < registers → reads t r e ≡ true → ⊥

-- just its first readers read the register
pub record AsFirst (o t : Table) (r : ℕ) : Type 0 where
  pub read_first : (e : ℕ) → e < registers → reads t r e ≡ true → o e ≡ in_register r
  pub first_read : (e : ℕ) → e < registers → o e ≡ in_register r → t e ≡ in_register r

-- o is the opening table and t the present one
pub record Faithful (o : Table) (scratch : ℕ) (t : Table) : Type 0 where
  pub idle_scratch : pending t scratch ≡ false
  pub readers : (r : ℕ) → pending t r ≡ true → Unread t r ⊎ AsFirst o t r

pub faithful_first : (o : Table) (scratch : ℕ) → pending o scratch ≡ false → Faithful o scratch o
faithful_first o scratch idle = record {
  idle_scratch = idle;
  readers = λ r p. inr (record { read_first = λ e k h. reads_place o r e h; first_read = λ e k h. h });
}

-- readers turned to a place that is no pending register
turned_readers : (o : Table) (scratch : ℕ) (s c : Place) (t : Table) → Faithful o scratch t → (r : ℕ) → pending (turned s c t) r ≡ true → (c ≡ in_register r → ⊥) → Unread (turned s c t) r ⊎ AsFirst o (turned s c t) r
turned_readers o scratch s c t f r p other =
    elim (cases_Bool (same_place s (in_register r))) [
      | inl from ↦ inl (λ e k h. (turned_reads s c t r e other h).1 (place_same s (in_register r) from))
      | inr apart ↦ elim (f.readers r (turned_was s c t r p)) [
        | inl unread ↦ inl (λ e k h. unread e k (turned_reads s c t r e other h).2)
        | inr first ↦ inr (record {
          read_first = λ e k h. first.read_first e k (turned_reads s c t r e other h).2;
          first_read = λ e k h.
              let was = first.first_read e k h in
              elim (turning s c t e) [
                | turns q at is ↦ absurd (grind (arith, apart, same_places s (in_register r) (sym at ∙ was)))
                | stays n is ↦ is ∙ was
              ];
        })
      ]
    ]

-- every choice keeps a table faithful
pub faithful_next : (o : Table) (w : Wants) (scratch : ℕ) (t : Table) (k : Choice) → Chosen w t k → Faithful o scratch t → Faithful o scratch (next_table scratch k t)
faithful_next o w scratch t (take d) (takes low) f = record {
  idle_scratch = next_idle scratch (take d) t scratch f.idle_scratch;
  readers = λ r p. turned_readers o scratch (t d) (in_register d) t f r p
      (λ same. let u : Table = turned (t d) (in_register d) t in
      pending_names u r p (subst (λ j. u j ≡ in_register j) (register_same d r same) (taken_idle t d (grind (arith, low.passes)))));
}
faithful_next o w scratch t (reload d s) c f = record {
  idle_scratch = next_idle scratch (reload d s) t scratch f.idle_scratch;
  readers = λ r p. turned_readers o scratch (in_register d) (in_slot s) t f r p (slot_other s r);
}
faithful_next o w scratch t (spill d) c f = record {
  idle_scratch = next_idle scratch (spill d) t scratch f.idle_scratch;
  readers = λ r p. turned_readers o scratch (in_register d) (in_register scratch) t f r p
      (scratch_other t scratch f.idle_scratch r (turned_was (in_register d) (in_register scratch) t r p));
}
faithful_next o w scratch t finished c f = f

-- where a pending register is read, its readers are the first ones
pub read_as_first : (o : Table) (scratch : ℕ) (t : Table) → Faithful o scratch t → (r e : ℕ) → pending t r ≡ true → e < registers → reads t r e ≡ true → AsFirst o t r
read_as_first o scratch t f r e p k h = elim (f.readers r p) [ inl unread ↦ absurd (unread e k h) | inr first ↦ first ]

-- where none is free, a pending register has its first source
pub none_free_first : (o : Table) (scratch : ℕ) (t : Table) → Faithful o scratch t → NoneFree t → (e : ℕ) → e < registers → pending t e ≡ true → t e ≡ o e
none_free_first o scratch t f none e h p =
    let named = onto t none e h p in
    let read : reads t named.0 e ≡ true = and_from (pending t e) (same_place (t e) (in_register named.0)) p (same_places (t e) (in_register named.0) named.3) in
    named.3 ∙ sym ((read_as_first o scratch t f named.0 e named.2 h read).read_first e h read)
