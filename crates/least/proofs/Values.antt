-- The tokens of values that only outgoing slots want are good, and apart. Assumes nothing.
use Rattle.std.proofs.Common.{◌≡◌, ℕ, true, false, ◌⊎◌, List, [], ◌∷◌, map, refl, ap, ◌∙◌, subst, inr, arith}
use Rattle.std.specs.List.{AllByRecursion}
use Rattle.std.proofs.ByRecursion.{All-map, All-weaker}
use Rattle.std.proofs.lemmas.Bool.{eqb-true, or_parts}
use Rattle.conventions.specs.Arguments.{in_slot, same_source}
use Rattle.conventions.specs.declared.arguments.Argument.{Argument}
use Rattle.conventions.specs.declared.arguments.Place.{Place}
use Rattle.conventions.specs.declared.arguments.Place.TheVariants.{Register, Outgoing}
use Rattle.conventions.specs.declared.arguments.Source.{Source}
use Rattle.conventions.specs.declared.arguments.Source.TheVariants.{Number, Register as Held, Local}
use Rattle.least.specs.Counts.{Distinct, Spread, has_source, is_value}
use Rattle.least.proofs.Origins.{register, outgoing, is_home, origins_equal, same_origin, same_origin_refl}
use Rattle.least.proofs.Places.{Wants, origin_of}
use Rattle.least.proofs.Tokens.{Apart, Good, Inside, Off, Slotted, Token}

-- the one origin of a value
abbrev pub value_token : Source → Token
value_token v o = same_origin (origin_of v) o

same_sources : (u v : Source) → same_origin (origin_of u) (origin_of v) ≡ same_source u v
same_sources (Number a) (Number b) = refl
same_sources (Number a) (Held b) = refl
same_sources (Number a) (Local b) = refl
same_sources (Held a) (Number b) = refl
same_sources (Held a) (Held b) = refl
same_sources (Held a) (Local b) = refl
same_sources (Local a) (Number b) = refl
same_sources (Local a) (Held b) = refl
same_sources (Local a) (Local b) = refl

sources_equal : (u v : Source) → same_origin (origin_of u) (origin_of v) ≡ true → u ≡ v
sources_equal (Number a) (Number b) e = ap (λ k. Number k) (eqb-true a b e)
sources_equal (Number a) (Held b) e = absurd (grind (arith, e))
sources_equal (Number a) (Local b) e = absurd (grind (arith, e))
sources_equal (Held a) (Number b) e = absurd (grind (arith, e))
sources_equal (Held a) (Held b) e = λ i. Held (record { 0 = eqb-true a.0 b.0 e i })
sources_equal (Held a) (Local b) e = absurd (grind (arith, e))
sources_equal (Local a) (Number b) e = absurd (grind (arith, e))
sources_equal (Local a) (Held b) e = absurd (grind (arith, e))
sources_equal (Local a) (Local b) e = λ i. Local (record { 0 = eqb-true a.0 b.0 e i })

-- a value's own cell is no register and no outgoing slot
no_register : (v : Source) → is_value v ≡ true → (r : ℕ) → is_home (origin_of v) (register r) ≡ false
no_register (Number k) e r = refl
no_register (Held q) e r = absurd (grind (arith, e))
no_register (Local n) e r = refl

no_outgoing : (v : Source) (o : ℕ) → is_home (origin_of v) (outgoing o) ≡ false
no_outgoing (Number k) o = refl
no_outgoing (Held q) o = refl
no_outgoing (Local n) o = refl

value_kept : (xs : List Argument) (v : Source) → Spread xs v → (p : Place) (u : Source) → Wants xs p u → value_token v (origin_of u) ≡ true → Inside (value_token v) p ⊎ Slotted p u
value_kept xs v spread (Register r) u e h = absurd (spread.unplaced r.0 (rw (sources_equal v u h) e))
value_kept xs v spread (Outgoing o) u e h =
    inr (refl, subst (λ w. (r : ℕ) → is_home (origin_of w) (register r) ≡ false) (sources_equal v u h) (no_register v spread.value))

value_good : (xs : List Argument) (v : Source) → Spread xs v → Good xs (value_token v)
value_good xs v spread = record {
  wanted = λ o h. (in_slot spread.slot, v, spread.wanted, origins_equal (origin_of v) o h);
  kept = value_kept xs v spread;
  moved = (in_slot spread.slot, v, spread.wanted, same_origin_refl (origin_of v), no_outgoing v spread.slot);
}

pub values_good : (xs : List Argument) (vs : List Source) → AllByRecursion (Spread xs) vs → AllByRecursion (Good xs) (map value_token vs)
values_good xs vs spread = All-map (Good xs) value_token vs (All-weaker (Spread xs) (λ v. Good xs (value_token v)) (value_good xs) vs spread)

-- a token has nothing of another value's token if it has not that value
lacks_value : (t : Token) (v : Source) → t (origin_of v) ≡ false → Off (value_token v) t
lacks_value t v e o h = rw (← origins_equal (origin_of v) o h) e

value_alone : (v : Source) (vs : List Source) → has_source vs v ≡ false → AllByRecursion (Off (value_token v)) (map value_token vs)
value_alone v [] e = tt
value_alone v (w ∷ vs) e =
    let parts = or_parts (same_source w v) (has_source vs v) e in
    (lacks_value (value_token w) v (same_sources w v ∙ parts.0), value_alone v vs parts.1)

pub values_apart : (vs : List Source) → Distinct vs → Apart (map value_token vs)
values_apart [] h = tt
values_apart (v ∷ vs) h = (value_alone v vs h.0, values_apart vs h.1)
