-- The tokens of closed rings are good, and apart. Assumes nothing.
use Rattle.std.proofs.Common.{◌≡◌, ℕ, ◌≤◌, true, false, eqb, ◌⊎◌, List, [], ◌∷◌, map, length, refl, inl, arith}
use Rattle.std.specs.List.{AllByRecursion}
use Rattle.std.proofs.ByRecursion.{All-map, All-weaker}
use Rattle.std.proofs.lemmas.Bool.{both_ways, ne_eqb, or_right}
use Rattle.conventions.specs.Arguments.{from_register, in_register}
use Rattle.conventions.specs.declared.arguments.Argument.{Argument}
use Rattle.conventions.specs.declared.arguments.Place.{Place}
use Rattle.conventions.specs.declared.arguments.Place.TheVariants.{Register, Outgoing}
use Rattle.conventions.specs.declared.arguments.Source.{Source}
use Rattle.conventions.specs.declared.arguments.Source.TheVariants.{Number, Register as Held, Local}
use Rattle.least.specs.Counts.{Chain, last, link, Closed, Different, Disjoint, Ring, among}
use Rattle.least.proofs.Origins.{Origin, of_register, of_local, number, unknown, register, same_cell_refl}
use Rattle.least.proofs.Places.{Wants, origin_of}
use Rattle.least.proofs.Tokens.{Apart, Good, Inside, Moved, Off, Slotted, Token, Wanted}
use Rattle.least.proofs.Chains.{chain_head, ring_before}

-- the origins of a ring's registers
abbrev pub ring_token : List ℕ → Token
ring_token rs (of_register r) = among rs r
ring_token rs (of_local n) = false
ring_token rs (number k) = false
ring_token rs unknown = false

-- a ring has a register that reads another
ring_moved : (xs : List Argument) {d l : ℕ} {rs : List ℕ} → Chain xs d l rs → Different rs → 2 ≤ length rs → Moved xs (ring_token rs)
ring_moved xs last different two = absurd (omega arith)
ring_moved xs (link {d} {e} {l} {rs} reads rest) different two =
    let begins = chain_head xs rest in
    let apart : d ≡ e → ⊥ = λ same. both_ways (among rs d) different.0 (rw same begins) in
    (in_register d, from_register e, reads, or_right (eqb d e) (among rs e) begins, ne_eqb d e apart)

ring_kept : (xs : List Argument) (rs : List ℕ) → Closed xs rs → (p : Place) (v : Source) → Wants xs p v → ring_token rs (origin_of v) ≡ true → Inside (ring_token rs) p ⊎ Slotted p v
ring_kept xs rs closed p (Number k) e h = absurd (grind (arith, h))
ring_kept xs rs closed p (Local n) e h = absurd (grind (arith, h))
ring_kept xs rs closed (Register q) (Held r) e h =
    inl (of_register q.0, closed.alone (Register q) r.0 h e, same_cell_refl (register q.0))
ring_kept xs rs closed (Outgoing o) (Held r) e h = absurd (grind (arith, closed.alone (Outgoing o) r.0 h e))

ring_wanted : (xs : List Argument) (rs : List ℕ) → Ring xs rs → (o : Origin) → ring_token rs o ≡ true → Wanted xs o
ring_wanted xs rs ring (of_register r) h = let found = ring_before xs rs ring r h in (in_register found.0, from_register r, found.1, refl)
ring_wanted xs rs ring (of_local n) h = absurd (grind (arith, h))
ring_wanted xs rs ring (number k) h = absurd (grind (arith, h))
ring_wanted xs rs ring unknown h = absurd (grind (arith, h))

ring_good : (xs : List Argument) (rs : List ℕ) → Closed xs rs → Good xs (ring_token rs)
ring_good xs rs closed = record {
  wanted = ring_wanted xs rs closed.ring;
  kept = ring_kept xs rs closed;
  moved = ring_moved xs closed.ring.chain closed.ring.different closed.ring.two;
}

pub rings_good : (xs : List Argument) (rings : List (List ℕ)) → AllByRecursion (Closed xs) rings → AllByRecursion (Good xs) (map ring_token rings)
rings_good xs rings closed = All-map (Good xs) ring_token rings (All-weaker (Closed xs) (λ rs. Good xs (ring_token rs)) (ring_good xs) rings closed)

rings_off : (rs qs : List ℕ) → ((r : ℕ) → among rs r ≡ true → among qs r ≡ false) → Off (ring_token rs) (ring_token qs)
rings_off rs qs h (of_register r) e = h r e
rings_off rs qs h (of_local n) e = refl
rings_off rs qs h (number k) e = refl
rings_off rs qs h unknown e = refl

pub rings_apart : (rings : List (List ℕ)) → Disjoint rings → Apart (map ring_token rings)
rings_apart [] h = tt
rings_apart (rs ∷ rest) h =
    let off = All-weaker (λ qs. (r : ℕ) → among rs r ≡ true → among qs r ≡ false) (λ qs. Off (ring_token rs) (ring_token qs)) (rings_off rs) rest h.0 in
    (All-map (Off (ring_token rs)) ring_token rest off, rings_apart rest h.1)
