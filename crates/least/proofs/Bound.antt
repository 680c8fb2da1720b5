-- No rival has fewer moves than the arguments need. Assumes nothing.
use Rattle.std.proofs.Common.{◌≡◌, ℕ, ◌+◌, true, List, [], ◌∷◌, ◌++◌, map, length, refl, subst, arith}
use Rattle.std.specs.List.{AllByRecursion}
use Rattle.std.proofs.ByRecursion.{All-append, All-map, All-weaker}
use Rattle.std.proofs.lemmas.List.{length-append, length-map}
use Rattle.conventions.specs.Arguments.{source_in_range}
use Rattle.conventions.specs.declared.arguments.Argument.{Argument}
use Rattle.conventions.specs.declared.arguments.Source.{Source}
use Rattle.conventions.specs.declared.arguments.Source.TheVariants.{Number, Register as Held, Local}
use Rattle.least.specs.Counts.{Closed, Disjoint, Distinct, Spread, is_value}
use Rattle.least.specs.Theorems.{NoFewer}
use Rattle.least.proofs.Origins.{of_register, of_local, number, unknown, allowed_moves, is_home, own, same_origin}
use Rattle.conventions.proofs.Lookups.{looked_up}
use Rattle.least.proofs.Places.{SourcesInRange, rival_right, sits_at_first}
use Rattle.least.proofs.Potential.{potential}
use Rattle.least.proofs.Rings.{ring_token, rings_apart, rings_good}
use Rattle.least.proofs.Tokens.{Alive, Apart, Good, Intact, Off, Token}
use Rattle.least.proofs.Values.{value_token, values_apart, values_good}
use Rattle.least.proofs.Wrong.{wrong_at_first}

-- at first a good token is intact
intact_at_first : (xs : List Argument) → SourcesInRange xs → (t : Token) → Good xs t → Intact own t
intact_at_first xs es t good o has c =
    let (p, v, found, same) = good.wanted o has in
    subst (λ q. same_origin (own c) q ≡ is_home q c) same (sits_at_first v (looked_up (λ a. source_in_range a.source ≡ true) xs p v es found) c)

alive_at_first : (xs : List Argument) → SourcesInRange xs → (t : Token) → Good xs t → Alive xs own t
alive_at_first xs es t good = record { good = good; intact = intact_at_first xs es t good }

apart_append : (ts us : List Token) → Apart ts → Apart us → AllByRecursion (λ t. AllByRecursion (Off t) us) ts → Apart (ts ++ us)
apart_append [] us a b h = b
apart_append (t ∷ ts) us a b h =
    (All-append (Off t) ts us a.0 h.0, apart_append ts us a.1 b h.1)

-- a ring has no value
ring_no_value : (rs : List ℕ) (v : Source) → is_value v ≡ true → Off (ring_token rs) (value_token v)
ring_no_value rs (Number k) e (of_register r) h = refl
ring_no_value rs (Held q) e (of_register r) h = absurd (grind (arith, e))
ring_no_value rs (Local n) e (of_register r) h = refl
ring_no_value rs v e (of_local n) h = absurd (grind (arith, h))
ring_no_value rs v e (number k) h = absurd (grind (arith, h))
ring_no_value rs v e unknown h = absurd (grind (arith, h))

ring_no_values : (xs : List Argument) (rs : List ℕ) (vs : List Source) → AllByRecursion (Spread xs) vs → AllByRecursion (Off (ring_token rs)) (map value_token vs)
ring_no_values xs rs vs spread =
    All-map (Off (ring_token rs)) value_token vs
    (All-weaker (Spread xs) (λ v. Off (ring_token rs) (value_token v)) (λ v s. ring_no_value rs v s.value) vs spread)

-- one token for each closed ring, and one for each value that only outgoing slots want
tokens : List (List ℕ) → List Source → List Token
tokens rings values = map ring_token rings ++ map value_token values

module _ (xs : List Argument) (rs : List (List ℕ)) (vs : List Source) (closed : AllByRecursion (Closed xs) rs) (spread : AllByRecursion (Spread xs) vs) where
  tokens_good : AllByRecursion (Good xs) (tokens rs vs)
  unfolding tokens
  tokens_good = All-append (Good xs) (map ring_token rs) (map value_token vs) (rings_good xs rs closed) (values_good xs vs spread)

  tokens_apart : Disjoint rs → Distinct vs → Apart (tokens rs vs)
  unfolding tokens
  tokens_apart disjoint distinct =
      let lacks : Token → Type 0 = λ t. AllByRecursion (Off t) (map value_token vs) in
      apart_append (map ring_token rs) (map value_token vs) (rings_apart rs disjoint) (values_apart vs distinct)
      (All-map lacks ring_token rs (All-weaker (Closed xs) (λ r. lacks (ring_token r)) (λ r _. ring_no_values xs r vs spread) rs closed))

tokens_length : (rs : List (List ℕ)) (vs : List Source) → length (tokens rs vs) ≡ length rs + length vs
unfolding tokens
tokens_length rs vs = simp (length-append, length-map)

pub no_fewer : NoFewer
no_fewer xs scratch slots b c m arranged rings values ps rival =
    let in_range = arranged.sources in
    let ts = tokens rings.rings values.values in
    let good : AllByRecursion (Good xs) ts = tokens_good xs rings.rings values.values rings.closed values.spread in
    let apart : Apart ts = tokens_apart xs rings.rings values.values rings.closed values.spread rings.disjoint values.distinct in
    let alive = All-weaker (Good xs) (Alive xs own) (alive_at_first xs in_range) ts good in
    let bound = potential xs arranged.separate ps own (allowed_moves b ps rival.moves) (rival_right xs b ps in_range rival) ts alive apart in
    omega (arith, bound, wrong_at_first xs in_range, tokens_length rings.rings values.values, rings.count, values.count)
