-- Chains and rings of registers. Assumes nothing.
use Rattle.std.proofs.Common.{◌≡◌, ℕ, ◌≤◌, true, false, ◌⊎◌, List, [], ◌∷◌, length, Some, None, Option, sym, ap, ◌∙◌, subst, inl, inr, arith}
use Rattle.std.proofs.lemmas.Bool.{cases_Bool, cases_eq}
use Rattle.std.proofs.lemmas.Bool.Decides.{nat_tests}
use Rattle.std.specs.List.{AllByRecursion}
use Rattle.conventions.specs.declared.arguments.Argument.{Argument}
use Rattle.conventions.specs.declared.arguments.Source.{Source}
use Rattle.conventions.specs.declared.arguments.Source.TheVariants.{Number, Register as Held, Local}
use Rattle.least.specs.Counts.{Chain, Different, Reads, Ring, among, last, link}

pub head_among : (r : ℕ) (rs : List ℕ) → among (r ∷ rs) r ≡ true
head_among r rs = grind (arith, nat_tests)

pub among_cases : (q r : ℕ) (rs : List ℕ) → among (q ∷ rs) r ≡ true → (q ≡ r) ⊎ (among rs r ≡ true)
among_cases q r rs h =
    elim (cases_eq q r) [ inl e ↦ inl e | inr ne ↦ inr (grind (arith, nat_tests, h, ne)) ]

pub among_tail : (q r : ℕ) (rs : List ℕ) → among rs r ≡ true → among (q ∷ rs) r ≡ true
among_tail q r rs h = grind (arith, h)

pub all_among : (P : ℕ → Type 0) (rs : List ℕ) → AllByRecursion P rs → (r : ℕ) → among rs r ≡ true → P r
all_among P [] a r h = absurd (grind (arith, h))
all_among P (q ∷ rs) a r h =
    elim (among_cases q r rs h) [ inl e ↦ subst P e a.0 | inr m ↦ all_among P rs a.1 r m ]

-- the register that a source is
abbrev register_of : Option Source → ℕ
register_of None = 0
register_of (Some s) = elim s [ Number k ↦ 0 | Held r ↦ r.0 | Local n ↦ 0 ]

-- a register reads at most one
pub reads_same : (xs : List Argument) (d a b : ℕ) → Reads xs d a → Reads xs d b → a ≡ b
reads_same xs d a b p q = ap register_of (sym p ∙ q)

module _ (xs : List Argument) where
  pub chain_head : {x d : ℕ} {rs : List ℕ} → Chain xs x d rs → among rs x ≡ true
  chain_head {x} last = head_among x []
  chain_head {x} (link {rs = rest} r c) = head_among x rest

  pub chain_last : {x d : ℕ} {rs : List ℕ} → Chain xs x d rs → among rs d ≡ true
  chain_last {x} last = head_among x []
  chain_last {x} {d} (link {rs = rest} r c) = among_tail x d rest (chain_last c)

  abbrev tail : List ℕ → List ℕ
  tail [] = []
  tail (r ∷ rs) = rs

  tail_among : (rs : List ℕ) (r : ℕ) → among (tail rs) r ≡ true → among rs r ≡ true
  tail_among [] r h = h
  tail_among (q ∷ rs) r h = among_tail q r rs h

  -- every register but the last reads one after it
  chain_after : {x d : ℕ} {rs : List ℕ} → Chain xs x d rs → (e : ℕ) → among rs e ≡ true → (e ≡ d → ⊥) → (f : ℕ) × Reads xs e f × (among (tail rs) f ≡ true)
  chain_after {x} last e h ne = elim (among_cases x e [] h) [ inl same ↦ absurd (ne (sym same)) | inr m ↦ absurd (grind (arith, m)) ]
  chain_after {x} {d} (link {e = y} {rs = rest} r c) e h ne =
      elim (among_cases x e rest h) [
        | inl same ↦ (y, subst (λ k. Reads xs k y) same r, chain_head c)
        | inr m ↦ let found = chain_after c e m ne in (found.0, found.1, tail_among rest found.0 found.2)
      ]

  pub chain_next : {x d : ℕ} {rs : List ℕ} → Chain xs x d rs → (e : ℕ) → among rs e ≡ true → (e ≡ d) ⊎ ((f : ℕ) × Reads xs e f × (among rs f ≡ true))
  chain_next {x} {d} {rs} c e h =
      elim (cases_eq e d) [
        | inl same ↦ inl same
        | inr ne ↦ let found = chain_after c e h ne in inr (found.0, found.1, tail_among rs found.0 found.2)
      ]

  -- every register but the first is read by one before it
  pub chain_before : {x d : ℕ} {rs : List ℕ} → Chain xs x d rs → (r : ℕ) → among rs r ≡ true → (r ≡ x) ⊎ ((e : ℕ) × Reads xs e r × (among rs e ≡ true))
  chain_before {x} last r h = elim (among_cases x r [] h) [ inl same ↦ inl (sym same) | inr m ↦ absurd (grind (arith, m)) ]
  chain_before {x} (link {e = y} {rs = rest} p c) r h =
      elim (among_cases x r rest h) [
        | inl same ↦ inl (sym same)
        | inr m ↦ elim (chain_before c r m) [
          | inl at ↦ inr (x, subst (Reads xs x) (sym at) p, head_among x rest)
          | inr found ↦ inr (found.0, found.1, among_tail x found.0 rest found.2)
        ]
      ]

  -- a new register that reads the first is not in the chain, unless it is the last
  pub chain_fresh : {x d : ℕ} {rs : List ℕ} → Chain xs x d rs → Different rs → (e : ℕ) → Reads xs e x → (e ≡ d → ⊥) → among rs e ≡ false
  chain_fresh {x} {d} {rs} c different e reads ne =
      elim (cases_Bool (among rs e)) [
        | inr no' ↦ no'
        | inl yes' ↦
            let found = chain_after c e yes' ne in
            let same = reads_same xs e x found.0 reads found.1 in
            absurd (grind (arith, head_once c different, ap (among (tail rs)) same, found.2))
      ]
    where
      head_once : {y l : ℕ} {qs : List ℕ} → Chain xs y l qs → Different qs → among (tail qs) y ≡ false
      head_once last f = f.0
      head_once (link p q) f = f.0

  -- each register of a ring reads one of it, and is read by one of it
  pub ring_next : (rs : List ℕ) → Ring xs rs → (e : ℕ) → among rs e ≡ true → (f : ℕ) × Reads xs e f × (among rs f ≡ true)
  ring_next rs ring e h =
      elim (chain_next ring.chain e h) [
        | inl at ↦ (ring.first, subst (λ k. Reads xs k ring.first) (sym at) ring.closes, chain_head ring.chain)
        | inr found ↦ found
      ]

  pub ring_before : (rs : List ℕ) → Ring xs rs → (r : ℕ) → among rs r ≡ true → (e : ℕ) × Reads xs e r × (among rs e ≡ true)
  ring_before rs ring r h =
      elim (chain_before ring.chain r h) [
        | inl at ↦ (ring.final, subst (Reads xs ring.final) (sym at) ring.closes, chain_last ring.chain)
        | inr found ↦ found
      ]

  -- what is read from within a ring is in it
  ring_stays : (rs : List ℕ) → Ring xs rs → (e f : ℕ) → among rs e ≡ true → Reads xs e f → among rs f ≡ true
  ring_stays rs ring e f h reads =
      let found = ring_next rs ring e h in
      ap (among rs) (reads_same xs e f found.0 reads found.1) ∙ found.2

  -- from a shared register on a chain runs within the ring
  follow : (qs : List ℕ) → Ring xs qs → {x d : ℕ} {rs : List ℕ} → Chain xs x d rs → among qs x ≡ true → (r : ℕ) → among rs r ≡ true → among qs r ≡ true
  follow qs ring {x} last h r m = elim (among_cases x r [] m) [ inl same ↦ ap (among qs) (sym same) ∙ h | inr n ↦ absurd (grind (arith, n)) ]
  follow qs ring {x} (link {e = y} {rs = rest} p c) h r m =
      elim (among_cases x r rest m) [
        | inl same ↦ ap (among qs) (sym same) ∙ h
        | inr n ↦ follow qs ring c (ring_stays qs ring x y h p) r n
      ]

  -- and reaches the last register
  pub reaches_last : (qs : List ℕ) → Ring xs qs → {x d : ℕ} {rs : List ℕ} → Chain xs x d rs → (r : ℕ) → among rs r ≡ true → among qs r ≡ true → among qs d ≡ true
  reaches_last qs ring {x} last r m h = elim (among_cases x r [] m) [ inl same ↦ ap (among qs) same ∙ h | inr n ↦ absurd (grind (arith, n)) ]
  reaches_last qs ring {x} (link {e = y} {rs = rest} p c) r m h =
      elim (among_cases x r rest m) [
        | inl same ↦ reaches_last qs ring c y (chain_head c) (ring_stays qs ring x y (ap (among qs) same ∙ h) p)
        | inr n ↦ reaches_last qs ring c r n h
      ]

  ring_within : (rs qs : List ℕ) → Ring xs rs → Ring xs qs → (r : ℕ) → among rs r ≡ true → among qs r ≡ true → (k : ℕ) → among rs k ≡ true → among qs k ≡ true
  ring_within rs qs one two r m h k n =
      let end = reaches_last qs two one.chain r m h in
      follow qs two one.chain (ring_stays qs two one.final one.first end one.closes) k n

  -- two rings that share a register have the same registers
  pub ring_same : (rs qs : List ℕ) → Ring xs rs → Ring xs qs → (r : ℕ) → among rs r ≡ true → among qs r ≡ true → (k : ℕ) → among rs k ≡ among qs k
  ring_same rs qs one two r m h k =
      elim (cases_Bool (among rs k)) [
        | inl yes' ↦ yes' ∙ sym (ring_within rs qs one two r m h k yes')
        | inr no' ↦ elim (cases_Bool (among qs k)) [
          | inl other ↦ absurd (grind (arith, no', ring_within qs rs two one r h m k other))
          | inr neither ↦ no' ∙ sym neither
        ]
      ]

  -- in a chain of different registers only the last may read itself
  self_last : {x d : ℕ} {rs : List ℕ} → Chain xs x d rs → Different rs → (e : ℕ) → among rs e ≡ true → Reads xs e e → e ≡ d
  self_last {x} last different e m h = elim (among_cases x e [] m) [ inl same ↦ sym same | inr n ↦ absurd (grind (arith, n)) ]
  self_last {x} (link {e = y} {rs = rest} p c) different e m h =
      elim (among_cases x e rest m) [
        | inl same ↦
            let again = reads_same xs x x y (subst (λ k. Reads xs k k) (sym same) h) p in
            absurd (grind (arith, different.0, ap (among rest) again, chain_head c))
        | inr n ↦ self_last c different.1 e n h
      ]

  one_long : {x d : ℕ} {rs : List ℕ} → Chain xs x d rs → x ≡ d → Different rs → length rs ≤ 1
  one_long last same different = omega arith
  one_long (link {rs = rest} p c) same different = absurd (grind (arith, different.0, ap (among rest) same, chain_last c))

  -- no register of a ring reads itself
  pub ring_apart : (rs : List ℕ) → Ring xs rs → (e : ℕ) → among rs e ≡ true → Reads xs e e → ⊥
  ring_apart rs ring e m h =
      let at = self_last ring.chain ring.different e m h in
      let start = reads_same xs ring.final ring.first ring.final ring.closes (subst (λ k. Reads xs k k) at h) in
      let short = one_long ring.chain start ring.different in
      let long = ring.two in
      omega arith
