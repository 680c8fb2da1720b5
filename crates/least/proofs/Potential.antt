-- Places still wrong and intact tokens together are at most the moves left. Assumes nothing.
use Rattle.std.proofs.Common.{◌≡◌, ◌+◌, ◌≤◌, not, List, [], ◌∷◌, length, sym, ◌∙◌, subst, inl, inr, arith}
use Rattle.std.specs.List.{AllByRecursion}
use Rattle.std.proofs.ByRecursion.{all_kept_by, All-weaker, kept_by_passes}
use Rattle.std.proofs.lemmas.Bool.{both_ways, cases_Bool}
use Rattle.machine.specs.declared.steps.Step.{Step}
use Rattle.conventions.specs.Arguments.{Separate}
use Rattle.conventions.specs.declared.arguments.Argument.{Argument}
use Rattle.least.proofs.Losses.{Clear, all_stay, clear, idle, same_true, spends}
use Rattle.least.proofs.Origins.{Cell, Origin, Map, Moves, after, after_all, same_origin, write}
use Rattle.conventions.proofs.Lookups.{all_looked_up}
use Rattle.least.proofs.Places.{Right, cell_of, origin_of, right_at}
use Rattle.least.proofs.Tokens.{Alive, Apart, Token, holder, none_lost, one_lost, without, without_apart}
use Rattle.least.proofs.Writes.{Through, Write, writes}
use Rattle.least.proofs.Wrong.{mends_none, mends_one, none_wrong, wrong}

-- the tokens after a write, which lowered the places still wrong and the tokens by at most one
record Next (xs : List Argument) (f g : Map) (ts : List Token) : Type 0 where
  rest : List Token
  alive : AllByRecursion (Alive xs g) rest
  apart : Apart rest
  paid : wrong f xs + length ts ≤ wrong g xs + length rest + 1

module _ (xs : List Argument) (separate : Separate xs) (ts : List Token) where
  -- a write that changes its cell either mends at most one place and costs no token, or mends none and costs one
  paid_by : (f : Map) (c : Cell) (w : Origin) → Through f c w → AllByRecursion (Alive xs f) ts → AllByRecursion (Clear c) ts → Apart ts → wrong f xs + length ts ≤ wrong (write c w f) xs + length (without w ts) + 1
  paid_by f c w through alive clears apart =
      elim (holder (Alive xs f) (Clear c) w ts alive clears) [
        | inl lack ↦ omega (arith, none_lost w ts lack, mends_one f c w xs separate)
        | inr (t, has, here, free) ↦
            let unwanted = all_looked_up (λ a. cell_of a.place ≡ c → origin_of a.source ≡ w → ⊥) xs separate (spends xs f c w through t has here free) in
            omega (arith, one_lost w ts apart, mends_none f c w xs unwanted)
      ]

  changing : (f : Map) (c : Cell) (w : Origin) → Through f c w → AllByRecursion (Alive xs f) ts → AllByRecursion (Clear c) ts → Apart ts → Next xs f (write c w f) ts
  changing f c w through alive clears apart =
      let stay = λ (t : Token). not (t w) in
      record {
        rest = without w ts;
        alive = all_stay xs f c w (without w ts) (all_kept_by stay (Alive xs f) ts alive) (all_kept_by stay (Clear c) ts clears) (kept_by_passes stay ts);
        apart = without_apart w ts apart;
        paid = paid_by f c w through alive clears apart;
      }

  written : (f : Map) (c : Cell) (w : Origin) → Through f c w → (ps : List Step) → Moves ps → AllByRecursion (Alive xs f) ts → Apart ts → Right (after_all ps (write c w f)) xs → Next xs f (write c w f) ts
  written f c w through ps moves alive apart right =
      elim (cases_Bool (same_origin (f c) w)) [
        | inl same ↦ subst (λ g. Next xs f g ts) (idle xs f c w same) (record { rest = ts; alive = alive; apart = apart; paid = omega arith })
        | inr differs ↦
            changing f c w through alive (All-weaker (Alive xs f) (Clear c) (λ t h. clear xs f c w ps t differs moves right h) ts alive) apart
      ]

  next : (f g : Map) → Write f g → (ps : List Step) → Moves ps → AllByRecursion (Alive xs f) ts → Apart ts → Right (after_all ps g) xs → Next xs f g ts
  next f g move ps moves alive apart =
      subst (λ h. Right (after_all ps h) xs → Next xs f h ts) (sym move.result) (written f move.cell move.origin move.through ps moves alive apart)

-- in the end no token is alive
none_alive : (xs : List Argument) (f : Map) → Right f xs → (t : Token) → Alive xs f t → ⊥
none_alive xs f right t alive =
    let (p, v, found, has, away) = alive.good.moved in
    both_ways (same_origin (f (cell_of p)) (origin_of v)) (alive.intact (origin_of v) has (cell_of p) ∙ away) (same_true _ _ (right_at f xs right p v found))

module _ (xs : List Argument) (separate : Separate xs) where
  pub potential : (ps : List Step) (f : Map) → Moves ps → Right (after_all ps f) xs → (ts : List Token) → AllByRecursion (Alive xs f) ts → Apart ts → wrong f xs + length ts ≤ length ps
  potential [] f moves right [] alive apart = omega (arith, none_wrong f xs right)
  potential [] f moves right (t ∷ ts) alive apart = absurd (none_alive xs f right t alive.0)
  potential (p ∷ ps) f moves right ts alive apart =
      let then = next xs separate ts f (after p f) (writes p f moves.0) ps moves.1 alive apart right in
      let rest = potential ps (after p f) moves.1 right then.rest then.alive then.apart in
      omega (arith, then.paid, rest)
