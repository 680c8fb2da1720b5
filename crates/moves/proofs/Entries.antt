-- The entries of the table of pending moves, read and written. Assumes nothing.
use Rattle.std.proofs.Common.{◌≡◌, ℕ, zero, suc, ◌+◌, ◌<◌, ◌≤◌, cond, ltb, List, length, get_or, set, sym, ap, ◌∙◌, subst, inl, inr, arith}
use denote.Param.Members.{Mut}
use Rattle.std.specs.Fn.{Called}
use Rattle.std.specs.Array.{IsFromFnResult, IsFromFnResultFrom}
use Rattle.std.proofs.lemmas.List.{get_or-set_other, get_or-set_same}
use Rattle.std.proofs.lemmas.Bool.{cases_eq, cases_lt, cond-false, cond-true, le-ltb, lt-ltb}
use Rattle.std.proofs.lemmas.Bool.Decides.{nat_tests}
use Rattle.machine.specs.Limits.{registers}
use Rattle.conventions.specs.Arguments.{in_register}
use Rattle.conventions.specs.declared.arguments.Place.{Place}
use Rattle.order.specs.Tables.{Table}
use Rattle.moves.specs.declared.pendings.PendingMove.{PendingMove}

-- the table that a list of entries stands for
abbrev pub table_of : List PendingMove → Table
table_of ms r = cond (ltb r registers) (get_or ms r (record { from = in_register 0 })).from (in_register r)

pub written : (ms : List PendingMove) (i : ℕ) (p : Place) → length ms ≡ registers → i < registers → table_of (set ms i (record { from = p })) i ≡ p
written ms i p whole h =
    cond-true (ltb i registers) _ _ (lt-ltb i registers h) ∙ ap (λ (m : PendingMove). m.from) (get_or-set_same ms i (record { from = p }) (record { from = in_register 0 }) (omega arith))

pub unwritten : (ms : List PendingMove) (i e : ℕ) (p : Place) → (e ≡ i → ⊥) → table_of (set ms i (record { from = p })) e ≡ table_of ms e
unwritten ms i e p other =
    ap (λ (m : PendingMove). cond (ltb e registers) m.from (in_register e)) (get_or-set_other ms i e (record { from = p }) (record { from = in_register 0 }) other)

-- an array made by calls that change nothing and give what u says
module _ {F B : Type 0} {g : Mut F (ℕ × Unit {0}) B} (f : F) (u : ℕ → B) (m : ℕ) (calls : (x : ℕ) (y : B) (q : F) → x < m → Called g f (x, tt) y q → (q ≡ f) × (y ≡ u x)) where
  made_from : (ys : List B) (i n k : ℕ) (e : B) → IsFromFnResultFrom g f ys i n → i + n ≤ m → k < n → get_or ys (i + k) e ≡ u (i + k)
  made_from ys i zero k e made few h = absurd (omega arith)
  made_from ys i (suc n) zero e made few h =
      let here : i + 0 ≡ i = omega arith in
      let is = calls i made.1 made.0 (omega (arith, few)) made.3 in
      ap (λ j. get_or ys j e) here ∙ made.2.1 e ∙ is.1 ∙ ap u (sym here)
  made_from ys i (suc n) (suc k) e made few h =
      let next : i + suc k ≡ (i + 1) + k = omega arith in
      let is = calls i made.1 made.0 (omega (arith, few)) made.3 in
      let rest : IsFromFnResultFrom g f ys (i + 1) n = subst (λ q. IsFromFnResultFrom g q ys (i + 1) n) is.0 made.4 in
      ap (λ j. get_or ys j e) next ∙ made_from ys (i + 1) n k e rest (omega (arith, few)) (omega (arith, h)) ∙ ap u (sym next)

  pub made_at : (ys : List B) (k : ℕ) (e : B) → IsFromFnResult g f ys m → k < m → get_or ys k e ≡ u k
  made_at ys k e made h =
      let same : 0 + k ≡ k = omega arith in
      ap (λ j. get_or ys j e) (sym same) ∙ made_from ys 0 m k e made.each (omega arith) h ∙ ap u same

-- entries that were made one by one
pub table_made : (ms : List PendingMove) (u : Table) → ((e : ℕ) → e < registers → get_or ms e (record { from = in_register 0 }) ≡ record { from = u e }) → ((e : ℕ) → registers ≤ e → u e ≡ in_register e) → table_of ms ≡ u
table_made ms u made past = λ j e. at e j
  where
    at : (e : ℕ) → table_of ms e ≡ u e
    at e = elim (cases_lt e registers) [
      | inl below ↦ cond-true (ltb e registers) _ _ (lt-ltb e registers below) ∙ ap (λ (m : PendingMove). m.from) (made e below)
      | inr above ↦ cond-false (ltb e registers) _ _ (le-ltb e registers above) ∙ sym (past e above)
    ]

-- the entries below i are those of u, and the others still those of t
abbrev pub Rewriting : Table → Table → ℕ → Table → Type 0
Rewriting t u i v = (e : ℕ) → v e ≡ cond (ltb e i) (u e) (t e)

pub rewriting_none : (t u : Table) → Rewriting t u 0 t
rewriting_none t u e = sym (cond-false (ltb e 0) (u e) (t e) (le-ltb e 0 (omega arith)))

-- one entry written
pub rewriting_write : (t u : Table) (ms : List PendingMove) (i : ℕ) (p : Place) → length ms ≡ registers → i < registers → p ≡ u i → Rewriting t u i (table_of ms) → Rewriting t u (i + 1) (table_of (set ms i (record { from = p })))
rewriting_write t u ms i p whole h is before e =
    elim (cases_eq e i) [
      | inl same ↦ ap (table_of (set ms i (record { from = p }))) same ∙ written ms i p whole h ∙ is ∙ ap u (sym same) ∙ sym (cond-true (ltb e (i + 1)) (u e) (t e) (lt-ltb e (i + 1) (omega arith)))
      | inr other ↦ unwritten ms i e p other ∙ before e ∙ ap (λ b. cond b (u e) (t e)) (grind (arith, nat_tests, other))
    ]

-- one entry that stays
pub rewriting_pass : (t u v : Table) (i : ℕ) → v i ≡ u i → Rewriting t u i v → Rewriting t u (i + 1) v
rewriting_pass t u v i is before e =
    elim (cases_eq e i) [
      | inl same ↦ ap v same ∙ is ∙ ap u (sym same) ∙ sym (cond-true (ltb e (i + 1)) (u e) (t e) (lt-ltb e (i + 1) (omega arith)))
      | inr other ↦ before e ∙ ap (λ b. cond b (u e) (t e)) (grind (arith, nat_tests, other))
    ]

-- all entries: past the last register the two tables agree
pub rewriting_all : (t u v : Table) (i : ℕ) → registers ≤ i → ((e : ℕ) → i ≤ e → u e ≡ t e) → Rewriting t u i v → v ≡ u
rewriting_all t u v i end agree all = λ j e. at e j
  where
    at : (e : ℕ) → v e ≡ u e
    at e = elim (cases_lt e i) [
      | inl below ↦ all e ∙ cond-true (ltb e i) (u e) (t e) (lt-ltb e i below)
      | inr past ↦ all e ∙ cond-false (ltb e i) (u e) (t e) (le-ltb e i past) ∙ sym (agree e past)
    ]
