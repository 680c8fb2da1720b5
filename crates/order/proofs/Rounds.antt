-- The closed ring through a register that is spilled. Assumes nothing.
use Rattle.std.proofs.Common.{◌≡◌, ℕ, zero, suc, ◌+◌, ◌<◌, ◌≤◌, true, List, [], ◌∷◌, length, Some, None, sym, refl, ap, ◌∙◌, subst, inl, inr, arith}
use Rattle.std.proofs.lemmas.Bool.{and_from, and_parts, cases_eq, ltb-true}
use Rattle.std.proofs.lemmas.Bool.Decides.{nat_tests}
use Rattle.std.specs.List.{AllByRecursion}
use Rattle.machine.specs.Limits.{outgoing_slots, registers}
use Rattle.conventions.specs.Arguments.{from_register, in_register, in_slot, place_in_range, same_place, source_at}
use Rattle.conventions.specs.declared.arguments.Argument.{Argument}
use Rattle.conventions.specs.declared.arguments.Place.{Place}
use Rattle.conventions.specs.declared.arguments.Place.TheVariants.{Register, Outgoing}
use Rattle.conventions.specs.declared.arguments.Source.{Source}
use Rattle.least.specs.Counts.{Chain, Closed, Different, Reads, Ring, among, last, link, within}
use Rattle.order.specs.Tables.{Table, opening_table, pending, reads}
use Rattle.order.specs.Wants.{is_source, lowest_slot, wants}
use Rattle.least.proofs.Chains.{all_among, chain_fresh, chain_head, ring_before}
use Rattle.order.proofs.Few.{different_few}
use Rattle.order.proofs.Choosing.{NoneFree}
use Rattle.order.proofs.Indices.{first_none}
use Rattle.conventions.proofs.Places.{register_same, same_places}
use Rattle.order.proofs.Readers.{Faithful, none_free_first, opening_reads, read_as_first, reads_opening}
use Rattle.order.proofs.Reading.{none_free_read, reader_unique, reads_place}
use Rattle.order.proofs.Turning.{names_pending, pending_names}

-- a ring that ends at d, of registers pending in t
pub record Round (xs : List Argument) (t : Table) (d : ℕ) (rs : List ℕ) : Type 0 where
  pub ring : Ring xs rs
  pub ends_at : ring.final ≡ d
  pub inside : (r : ℕ) → among rs r ≡ true → (r < registers) × (pending t r ≡ true)

module _ (xs : List Argument) (scratch : ℕ) (t : Table) (f : Faithful (opening_table (wants xs)) scratch t) (none : NoneFree t) where
  -- who reads a pending register reads it in the arguments
  reader_reads : (r e : ℕ) → pending t r ≡ true → e < registers → reads t r e ≡ true → Reads xs e r
  reader_reads r e p k h =
      let parts = and_parts (pending t e) (same_place (t e) (in_register r)) h in
      let at = reads_place t r e h in
      let first = (read_as_first (opening_table (wants xs)) scratch t f r e p k h).read_first e k h in
      opening_reads xs e r first (λ same. pending_names t e parts.0 (at ∙ ap in_register (sym same)))

  -- and the other way round
  reads_reader : (r e : ℕ) → r < registers → pending t r ≡ true → e < registers → (e ≡ r → ⊥) → Reads xs e r → reads t r e ≡ true
  reads_reader r e l p k ne h =
      let some = none_free_read t none r l p in
      let as_first = read_as_first (opening_table (wants xs)) scratch t f r some.0 p some.1 some.2 in
      let at = as_first.first_read e k (reads_opening xs e r h) in
      and_from (pending t e) (same_place (t e) (in_register r)) (names_pending t e (λ same. ne (register_same e r (sym same ∙ at)))) (same_places (t e) (in_register r) at)

  -- the chain grows at its front until the last register reads the first
  grow : (d n x : ℕ) (rs : List ℕ) → Chain xs x d rs → Different rs → AllByRecursion (λ r. (r < registers) × (pending t r ≡ true)) rs → registers < length rs + n → (qs : List ℕ) × Round xs t d qs
  grow d zero x rs c different inside long =
      let few = different_few registers rs different (below rs inside) in
      absurd (omega arith)
    where
      below : (qs : List ℕ) → AllByRecursion (λ r. (r < registers) × (pending t r ≡ true)) qs → AllByRecursion (λ r. r < registers) qs
      below [] a = tt
      below (q ∷ qs) a = (a.0.0, below qs a.1)
  grow d (suc n) x rs c different inside long =
      let all = all_among (λ r. (r < registers) × (pending t r ≡ true)) rs inside in
      let here = all x (chain_head xs c) in
      let reader = none_free_read t none x here.0 here.1 in
      let e = reader.0 in
      let link-to = reader_reads x e here.1 reader.1 reader.2 in
      let parts = and_parts (pending t e) (same_place (t e) (in_register x)) reader.2 in
      elim (cases_eq e d) [
        | inl same ↦
            let closing : Reads xs d x = subst (λ k. Reads xs k x) same link-to in
            let apart : d ≡ x → ⊥ = λ at. pending_names t e parts.0 (reads_place t x e reader.2 ∙ ap in_register (sym (same ∙ at))) in (
              rs,
              record {
                ring = record { first = x; final = d; chain = c; closes = closing; different = different; two = two_long c apart };
                ends_at = refl;
                inside = all;
              },
            )
        | inr ne ↦
            let fresh = chain_fresh xs c different e link-to ne in
            grow d n e (e ∷ rs) (link link-to c) (fresh, different) ((reader.1, parts.0), inside) (omega arith)
      ]
    where
      two_long : {y l : ℕ} {qs : List ℕ} → Chain xs y l qs → (l ≡ y → ⊥) → 2 ≤ length qs
      two_long last apart = absurd (apart refl)
      two_long (link {rs = q ∷ rest} p chain) apart = omega arith
      two_long (link {rs = []} p chain) apart = elim chain [ ]

  pub round : (d : ℕ) → d < registers → pending t d ≡ true → (qs : List ℕ) × Round xs t d qs
  round d h p = grow d registers d (d ∷ []) last (refl, tt) ((h, p), tt) (omega arith)

  -- it is closed where no outgoing slot wants a pending register
  pub round-closed :
      (d : ℕ) (rs : List ℕ) →
      Round xs t d rs →
      ((r : ℕ) → r < registers → pending t r ≡ true → lowest_slot (wants xs) (from_register r) ≡ None) →
      ((p : Place) (s : Source) → source_at xs p ≡ Some s → place_in_range outgoing_slots p ≡ true) →
      Closed xs rs
  round-closed d rs r unheld ranged = record { ring = r.ring; alone = alone }
    where
      alone : (p : Place) (k : ℕ) → among rs k ≡ true → source_at xs p ≡ Some (from_register k) → within rs p ≡ true
      alone (Outgoing o) k m h =
          let here = r.inside k m in
          let free = first_none (λ j. is_source (source_at xs (in_slot j)) (from_register k)) outgoing_slots (unheld k here.0 here.1) o.0 in
          let below = ltb-true o.0 outgoing_slots (ranged (Outgoing o) (from_register k) h) in
          absurd (grind (arith, nat_tests, free below, h))
      alone (Register q) k m h =
          let here = r.inside k m in
          let before = ring_before xs rs r.ring k m in
          let inside = r.inside before.0 before.2 in
          let below = ltb-true q.0 registers (ranged (Register q) (from_register k) h) in
          elim (cases_eq q.0 k) [
            | inl same ↦ ap (among rs) same ∙ m
            | inr ne ↦ elim (cases_eq before.0 k) [
              | inl self ↦
                  let loop = reads_opening xs k k (subst (λ j. Reads xs j k) self before.1) in
                  let same = none_free_first (opening_table (wants xs)) scratch t f none k here.0 here.1 in
                  absurd (pending_names t k here.1 (same ∙ loop))
              | inr other ↦
                  let one = reads_reader k q.0 here.0 here.1 below ne h in
                  let two = reads_reader k before.0 here.0 here.1 inside.0 other before.1 in
                  let same = reader_unique t none k q.0 before.0 here.0 below inside.0 here.1 one two in
                  ap (among rs) same ∙ before.2
            ]
          ]
