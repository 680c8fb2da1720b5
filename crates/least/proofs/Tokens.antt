-- Tokens: sets of origins that stay in their own cells until one more move is spent on them. Assumes nothing.
use Rattle.std.proofs.Common.{◌≡◌, ℕ, suc, ◌+◌, ◌≤◌, Bool, true, false, not, ◌⊎◌, List, [], ◌∷◌, length, filter, refl, ap, inl, inr, arith}
use Rattle.std.specs.List.{AllByRecursion}
use Rattle.std.proofs.ByRecursion.{all_kept_by, All-weaker}
use Rattle.std.proofs.lemmas.Bool.{cases_Bool, cond_both}
use Rattle.conventions.specs.declared.arguments.Argument.{Argument}
use Rattle.conventions.specs.declared.arguments.Place.{Place}
use Rattle.conventions.specs.declared.arguments.Source.{Source}
use Rattle.least.proofs.Origins.{Cell, register, Origin, Map, is_home, same_origin}
use Rattle.least.proofs.Places.{Wants, cell_of, origin_of}
use Rattle.least.proofs.Writes.{is_outgoing}

-- the origins of a token
abbrev pub Token : Type 0
Token = Origin → Bool

-- each origin of the token sits in its own cell, if it has one, and in no other
abbrev pub Intact : Map → Token → Type 0
Intact f t = (o : Origin) → t o ≡ true → (c : Cell) → same_origin (f c) o ≡ is_home o c

-- the place is the own cell of an origin of the token
abbrev pub Inside : Token → Place → Type 0
Inside t p = (q : Origin) × (t q ≡ true) × (is_home q (cell_of p) ≡ true)

-- the place is an outgoing slot, and the source no register
abbrev pub Slotted : Place → Source → Type 0
Slotted p v = (is_outgoing (cell_of p) ≡ true) × ((r : ℕ) → is_home (origin_of v) (register r) ≡ false)

-- some argument's source is this origin
abbrev pub Wanted : List Argument → Origin → Type 0
Wanted xs o = (p : Place) × (v : Source) × Wants xs p v × (origin_of v ≡ o)

-- some argument takes an origin of the token away from its own cell
abbrev pub Moved : List Argument → Token → Type 0
Moved xs t = (p : Place) × (v : Source) × Wants xs p v × (t (origin_of v) ≡ true) × (is_home (origin_of v) (cell_of p) ≡ false)

pub record Good (xs : List Argument) (t : Token) : Type 0 where
  pub wanted : (o : Origin) → t o ≡ true → Wanted xs o
  -- no other place is filled from the token
  pub kept : (p : Place) (v : Source) → Wants xs p v → t (origin_of v) ≡ true → Inside t p ⊎ Slotted p v
  pub moved : Moved xs t

pub record Alive (xs : List Argument) (f : Map) (t : Token) : Type 0 where
  pub good : Good xs t
  pub intact : Intact f t

-- no origin is in both
abbrev pub Off : Token → Token → Type 0
Off t u = (o : Origin) → t o ≡ true → u o ≡ false

-- no origin is in two of the tokens
abbrev pub Apart : List Token → Type 0
Apart [] = Unit {0}
Apart (t ∷ ts) = AllByRecursion (Off t) ts × Apart ts

-- the tokens that do not have an origin
abbrev pub without : Origin → List Token → List Token
without w ts = filter (λ t. not (t w)) ts

pub without_apart : (w : Origin) (ts : List Token) → Apart ts → Apart (without w ts)
without_apart w [] h = tt
without_apart w (t ∷ ts) h =
    let rest = without_apart w ts h.1 in
    cond_both (not (t w)) (t ∷ without w ts) (without w ts) Apart (λ _. (all_kept_by (λ u. not (u w)) (Off t) ts h.0, rest)) (λ _. rest)

pub none_lost : (w : Origin) (ts : List Token) → AllByRecursion (λ t. t w ≡ false) ts → length (without w ts) ≡ length ts
none_lost w [] h = refl
none_lost w (t ∷ ts) h = let rest = none_lost w ts h.1 in rw h.0 (ap suc rest)

-- at most one token has the origin
pub one_lost : (w : Origin) (ts : List Token) → Apart ts → length ts ≤ length (without w ts) + 1
one_lost w [] h = omega arith
one_lost w (t ∷ ts) h =
    elim (cases_Bool (t w)) [
      | inl e ↦
          let lack : AllByRecursion (λ u. u w ≡ false) ts = All-weaker (Off t) (λ (u : Token). u w ≡ false) (λ u k. k w e) ts h.0 in
          rw e (omega (arith, none_lost w ts lack))
      | inr e ↦ let rest = one_lost w ts h.1 in rw e (omega (arith, rest))
    ]

-- either no token has the origin, or one with P and Q does
pub holder : (P Q : Token → Type 0) (w : Origin) (ts : List Token) → AllByRecursion P ts → AllByRecursion Q ts → AllByRecursion (λ t. t w ≡ false) ts ⊎ ((t : Token) × (t w ≡ true) × P t × Q t)
holder P Q w [] h k = inl tt
holder P Q w (t ∷ ts) h k =
    elim (cases_Bool (t w)) [
      | inl e ↦ inr (t, e, h.0, k.0)
      | inr e ↦ elim (holder P Q w ts h.1 k.1) [ inl lack ↦ inl (e, lack) | inr found ↦ inr found ]
    ]
