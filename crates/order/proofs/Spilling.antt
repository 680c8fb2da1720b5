-- The rings opened through the scratch are the closed rings. Assumes nothing.
use Rattle.std.proofs.Common.{◌≡◌, ℕ, zero, suc, ◌+◌, ◌<◌, true, false, ◌⊎◌, List, [], ◌∷◌, length, Some, sym, refl, ap, ◌∙◌, subst, inl, inr, arith, length-append}
use Rattle.std.proofs.ByRecursion.{All-weaker}
use Rattle.std.proofs.lemmas.Bool.{and_from, cases_Bool, ltb-true}
use Rattle.std.specs.List.{AllByRecursion}
use Rattle.machine.specs.Limits.{outgoing_slots, registers}
use Rattle.conventions.specs.Arguments.{from_register, in_register, in_slot, place_in_range, same_place, source_at}
use Rattle.conventions.specs.declared.arguments.Argument.{Argument}
use Rattle.conventions.specs.declared.arguments.Place.{Place}
use Rattle.conventions.specs.declared.arguments.Source.{Source}
use Rattle.least.specs.Counts.{Closed, Disjoint, Listed, Reads, Rings, among}
use Rattle.order.specs.Order.{choices, opened}
use Rattle.order.specs.Tables.{Choice, Table, choose, finished, is_free, next_table, opening_table, pending, reads, reload, spill, spilled, spills as spills_of, take, turned}
use Rattle.order.specs.Wants.{Wants, is_source, lowest_slot, wants}
use Rattle.least.proofs.Chains.{chain_head, chain_last, reaches_last, ring_apart, ring_before, ring_next, ring_same}
use Rattle.order.proofs.Choosing.{Chosen, NoneFree, chosen, reloads, spills, tables, takes}
use Rattle.order.proofs.Ending.{ends}
use Rattle.order.proofs.Indices.{first_found, first_some}
use Rattle.conventions.proofs.Places.{register_same, same_places}
use Rattle.order.proofs.Wanting.{is_source_some}
use Rattle.order.proofs.Readers.{Faithful, faithful_first, faithful_next, opening_reads, read_as_first, reads_opening}
use Rattle.order.proofs.Reading.{none_free_read}
use Rattle.order.proofs.Rounds.{Round, round, round-closed}
use Rattle.order.proofs.Turning.{names_pending, pending_at, pending_names, scratch_other, slot_other, stays, taken_idle, turned_reads, turned_was, turning, turns}

-- a register that is pending and read
abbrev Waits : Table → ℕ → Type 0
Waits t r = (pending t r ≡ true) × ((e : ℕ) × (e < registers) × (reads t r e ≡ true))

-- readers turned to a place that is no pending register: who waits after, waited before
turned_waits : (s c : Place) (t : Table) (r : ℕ) → (c ≡ in_register r → ⊥) → Waits (turned s c t) r → Waits t r
turned_waits s c t r other waits =
    (turned_was s c t r waits.0, (waits.1.0, waits.1.1, (turned_reads s c t r waits.1.0 other waits.1.2).2))

next_waits : (w : Wants) (scratch : ℕ) (t : Table) (k : Choice) → Chosen w t k → pending t scratch ≡ false → (r : ℕ) → Waits (next_table scratch k t) r → Waits t r
next_waits w scratch t (take d) (takes low) idle r waits =
    let u : Table = turned (t d) (in_register d) t in
    turned_waits (t d) (in_register d) t r
    (λ same. pending_names u r waits.0 (subst (λ j. u j ≡ in_register j) (register_same d r same) (taken_idle t d (grind (arith, low.passes)))))
    waits
next_waits w scratch t (reload d o) c idle r waits =
    turned_waits (in_register d) (in_slot o) t r (slot_other o r) waits
next_waits w scratch t (spill d) c idle r waits =
    turned_waits (in_register d) (in_register scratch) t r
    (scratch_other t scratch idle r (turned_was (in_register d) (in_register scratch) t r waits.0))
    waits
next_waits w scratch t finished c idle r waits = waits

-- the registers of a ring are pending, with their first sources
abbrev Untouched : Table → Table → List ℕ → Type 0
Untouched o t rs = (r : ℕ) → among rs r ≡ true → (pending t r ≡ true) × (t r ≡ o r)

-- rings found from table t on
record Found (xs : List Argument) (t : Table) (rings : List (List ℕ)) : Type 0 where
  closed : AllByRecursion (Closed xs) rings
  waiting : AllByRecursion (λ rs. (r : ℕ) → among rs r ≡ true → Waits t r) rings
  disjoint : Disjoint rings
  every : (rs : List ℕ) → Closed xs rs → Untouched (opening_table (wants xs)) t rs → Listed rs rings

-- the choice opens a ring with these registers through the scratch
abbrev Opens : Choice → List ℕ → Type 0
Opens (take d) rs = ⊥
Opens (reload d o) rs = ⊥
Opens (spill d) rs = among rs d ≡ true
Opens finished rs = ⊥

module _ (xs : List Argument) (scratch : ℕ) (ranged : (p : Place) (s : Source) → source_at xs p ≡ Some s → place_in_range outgoing_slots p ≡ true) where
  -- a register of an untouched ring is read by one of the ring
  untouched_read : (t : Table) (rs : List ℕ) → Closed xs rs → Untouched (opening_table (wants xs)) t rs → (r : ℕ) → among rs r ≡ true → (e : ℕ) × (e < registers) × (reads t r e ≡ true)
  untouched_read t rs closed as_first r m =
      let before = ring_before xs rs closed.ring r m in
      let here = as_first before.0 before.2 in
      let at = here.1 ∙ reads_opening xs before.0 r before.1 in
      let below = ltb-true before.0 registers (ranged (in_register before.0) (from_register r) before.1) in
      (before.0, below, and_from (pending t before.0) (same_place (t before.0) (in_register r)) here.0 (same_places (t before.0) (in_register r) at))

  -- a ring stays untouched where readers of a place are turned that none of its registers names
  turned_untouched : (s c : Place) (t : Table) (rs : List ℕ) → Untouched (opening_table (wants xs)) t rs → ((r : ℕ) → among rs r ≡ true → t r ≡ s → ⊥) → Untouched (opening_table (wants xs)) (turned s c t) rs
  turned_untouched s c t rs as_first apart r m =
      elim (turning s c t r) [
        | turns p at is ↦ absurd (apart r m at)
        | stays n is ↦ (pending_at (turned s c t) t r is ∙ (as_first r m).0, is ∙ (as_first r m).1)
      ]

  -- what a register of an untouched ring names is in the ring
  names_within : (t : Table) (rs : List ℕ) → Closed xs rs → Untouched (opening_table (wants xs)) t rs → (r : ℕ) → among rs r ≡ true → (k : ℕ) × (t r ≡ in_register k) × (among rs k ≡ true)
  names_within t rs closed as_first r m =
      let after = ring_next xs rs closed.ring r m in
      (after.0, (as_first r m).1 ∙ reads_opening xs r after.0 after.1, after.2)

  take_untouched : (t : Table) (rs : List ℕ) (d : ℕ) → Faithful (opening_table (wants xs)) scratch t → d < registers → is_free t d ≡ true → Closed xs rs → Untouched (opening_table (wants xs)) t rs → Untouched (opening_table (wants xs)) (turned (t d) (in_register d) t) rs
  take_untouched t rs d f below free closed as_first = turned_untouched (t d) (in_register d) t rs as_first apart
    where
      apart : (r : ℕ) → among rs r ≡ true → t r ≡ t d → ⊥
      apart r m same =
          let named = names_within t rs closed as_first r m in
          let at : t d ≡ in_register named.0 = sym same ∙ named.1 in
          let p : pending t d ≡ true = grind (arith, free) in
          let read = and_from (pending t d) (same_place (t d) (in_register named.0)) p (same_places (t d) (in_register named.0) at) in
          let first = (read_as_first (opening_table (wants xs)) scratch t f named.0 d (as_first named.0 named.2).0 below read).read_first d below read in
          let reads-it = opening_reads xs d named.0 first (λ e. pending_names t d p (at ∙ ap in_register (sym e))) in
          let in-ring = closed.alone (in_register d) named.0 named.2 reads-it in
          let reader = untouched_read t rs closed as_first d in-ring in
          let found = first_found (reads t d) registers reader.0 reader.1 reader.2 in
          grind (arith, free, found.1)

  opening_untouched : (c : Place) (t : Table) (rs : List ℕ) (d : ℕ) → (among rs d ≡ true → ⊥) → Closed xs rs → Untouched (opening_table (wants xs)) t rs → Untouched (opening_table (wants xs)) (turned (in_register d) c t) rs
  opening_untouched c t rs d outside closed as_first =
      turned_untouched (in_register d) c t rs as_first
      (λ r m same.
      let named = names_within t rs closed as_first r m in
      outside (ap (among rs) (register_same d named.0 (sym same ∙ named.1)) ∙ named.2))

  slot_outside : (rs : List ℕ) (d o : ℕ) → Closed xs rs → lowest_slot (wants xs) (from_register d) ≡ Some o → among rs d ≡ true → ⊥
  slot_outside rs d o closed slot m =
      let low = first_some (λ j. is_source (source_at xs (in_slot j)) (from_register d)) outgoing_slots o slot in
      let wanted : source_at xs (in_slot o) ≡ Some (from_register d) = is_source_some (source_at xs (in_slot o)) (from_register d) low.passes in
      grind (arith, closed.alone (in_slot o) d m wanted)

  -- a ring that is not opened by a choice stays untouched
  next_untouched : (t : Table) (k : Choice) → Chosen (wants xs) t k → Faithful (opening_table (wants xs)) scratch t → (rs : List ℕ) → Closed xs rs → Untouched (opening_table (wants xs)) t rs → Opens k rs ⊎ Untouched (opening_table (wants xs)) (next_table scratch k t) rs
  next_untouched t (take d) (takes low) f rs closed as_first = inr (take_untouched t rs d f low.below low.passes closed as_first)
  next_untouched t (reload d o) (reloads none h p slot) f rs closed as_first =
      inr (opening_untouched (in_slot o) t rs d (slot_outside rs d o closed slot) closed as_first)
  next_untouched t (spill d) c f rs closed as_first =
      elim (cases_Bool (among rs d)) [
        | inl m ↦ inl m
        | inr out ↦ inr (opening_untouched (in_register scratch) t rs d (λ m. grind (arith, out, m)) closed as_first)
      ]
  next_untouched t finished c f rs closed as_first = inr as_first

  -- rings found from the next table on, where the choice opens none through the scratch
  found_pass : (t : Table) (k : Choice) → Chosen (wants xs) t k → Faithful (opening_table (wants xs)) scratch t → ((rs : List ℕ) → Opens k rs → ⊥) → (rings : List (List ℕ)) → Found xs (next_table scratch k t) rings → Found xs t rings
  found_pass t k c f never rings found = record {
    closed = found.closed;
    waiting = All-weaker _ _ (λ rs waits r m. next_waits (wants xs) scratch t k c f.idle_scratch r (waits r m)) rings found.waiting;
    disjoint = found.disjoint;
    every = λ rs closed as_first. elim (next_untouched t k c f rs closed as_first) [ inl opens ↦ absurd (never rs opens) | inr still ↦ found.every rs closed still ];
  }

  -- and where it opens one at d
  found_spill : (t : Table) (d : ℕ) → Chosen (wants xs) t (spill d) → Faithful (opening_table (wants xs)) scratch t → (qs : List ℕ) → Round xs t d qs → Closed xs qs → NoneFree t → (rings : List (List ℕ)) → Found xs (next_table scratch (spill d) t) rings → Found xs t (qs ∷ rings)
  found_spill t d c f qs loop closed none rings found = record {
    closed = (closed, found.closed);
    waiting = (
      λ r m. let here = loop.inside r m in (here.1, none_free_read t none r here.0 here.1),
      All-weaker _ _ (λ rs waits r m. next_waits (wants xs) scratch t (spill d) c f.idle_scratch r (waits r m)) rings found.waiting,
    );
    disjoint = (apart rings found.closed found.waiting, found.disjoint);
    every = λ rs other as_first. elim (next_untouched t (spill d) c f rs other as_first) [
      | inl m ↦ inl (ring_same xs rs qs other.ring loop.ring d m at_end)
      | inr still ↦ inr (found.every rs other still)
    ];
  }
    where
      at_end : among qs d ≡ true
      at_end = ap (among qs) (sym loop.ends_at) ∙ chain_last xs loop.ring.chain

      -- d is read by nobody then, so that no later ring has it
      unread : Waits (turned (in_register d) (in_register scratch) t) d → ⊥
      unread waits =
          (turned_reads (in_register d) (in_register scratch) t d waits.1.0
          (scratch_other t scratch f.idle_scratch d (loop.inside d at_end).1)
          waits.1.2).1 refl

      apart : (rest : List (List ℕ)) → AllByRecursion (Closed xs) rest → AllByRecursion (λ rs. (r : ℕ) → among rs r ≡ true → Waits (next_table scratch (spill d) t) r) rest → AllByRecursion (λ rs. (r : ℕ) → among qs r ≡ true → among rs r ≡ false) rest
      apart [] all waits = tt
      apart (rs ∷ rest) all waits = (
        λ r m. elim (cases_Bool (among rs r)) [
          | inr no' ↦ no'
          | inl yes' ↦
              let end = reaches_last xs rs all.0.ring loop.ring.chain r m yes' in
              absurd (unread (waits.0 d (ap (among rs) (sym loop.ends_at) ∙ end)))
        ],
        apart rest all.1 waits.1,
      )

  -- one choice more in front
  found_next : (t : Table) (k : Choice) → Chosen (wants xs) t k → Faithful (opening_table (wants xs)) scratch t → (rings : List (List ℕ)) → Found xs (next_table scratch k t) rings → (more : List (List ℕ)) × Found xs t more × (length more ≡ length (spilled k) + length rings)
  found_next t (take d) c f rings found = (rings, found_pass t (take d) c f (λ rs never. never) rings found, omega arith)
  found_next t (reload d o) c f rings found = (rings, found_pass t (reload d o) c f (λ rs never. never) rings found, omega arith)
  found_next t (spill d) (spills none unheld low) f rings found =
      let loop = round xs scratch t f none d low.below low.passes in
      let closed = round-closed xs scratch t f none d loop.0 loop.1 unheld ranged in
      (loop.0 ∷ rings, found_spill t d (spills none unheld low) f loop.0 loop.1 closed none rings found, omega arith)
  found_next t finished c f rings found = (rings, found_pass t finished c f (λ rs never. never) rings found, omega arith)

  -- where nothing is pending, no ring is untouched
  found_none : (t : Table) → ((r : ℕ) → r < registers → pending t r ≡ false) → Found xs t []
  found_none t idle = record {
    closed = tt;
    waiting = tt;
    disjoint = tt;
    every = λ rs closed as_first.
        let start = chain_head xs closed.ring.chain in
        let after = ring_next xs rs closed.ring closed.ring.first start in
        let below = ltb-true closed.ring.first registers (ranged (in_register closed.ring.first) (from_register after.0) after.1) in
        absurd (grind (arith, idle closed.ring.first below, (as_first closed.ring.first start).0));
  }

  found_all : (n : ℕ) (t : Table) → Faithful (opening_table (wants xs)) scratch t → ((r : ℕ) → r < registers → pending (tables (wants xs) scratch n t) r ≡ false) → (rings : List (List ℕ)) × Found xs t rings × (length rings ≡ length (spills_of (wants xs) scratch n t))
  unfolding tables spills_of
  found_all zero t f idle = ([], found_none t idle, refl)
  found_all (suc n) t f idle =
      let k = choose (wants xs) t in
      let c = chosen (wants xs) t in
      let later = found_all n (next_table scratch k t) (faithful_next (opening_table (wants xs)) (wants xs) scratch t k c f) idle in
      let more = found_next t k c f later.0 later.1 in
      (more.0, more.1, more.2 ∙ ap (λ m. length (spilled k) + m) later.2 ∙ sym (length-append (spilled k) (spills_of (wants xs) scratch n (next_table scratch k t))))

  -- C is the number of rings opened through the scratch
  pub rings_opened : pending (opening_table (wants xs)) scratch ≡ false → Rings xs (length (opened (wants xs) scratch))
  rings_opened idle =
      let o = opening_table (wants xs) in
      let all = found_all choices o (faithful_first o scratch idle) (ends (wants xs) scratch o idle) in
      record {
        rings = all.0;
        closed = all.1.closed;
        disjoint = all.1.disjoint;
        every = λ rs closed. all.1.every rs closed (untouched rs closed);
        count = all.2;
      }
    where
      untouched : (rs : List ℕ) → Closed xs rs → Untouched (opening_table (wants xs)) (opening_table (wants xs)) rs
      untouched rs closed r m =
          let after = ring_next xs rs closed.ring r m in
          let at = reads_opening xs r after.0 after.1 in
          let apart : opening_table (wants xs) r ≡ in_register r → ⊥ =
          λ self. ring_apart xs rs closed.ring r m (subst (Reads xs r) (register_same after.0 r (sym at ∙ self)) after.1) in
          (names_pending (opening_table (wants xs)) r apart, refl)
