-- Choices carried out one after the other. Assumes nothing.
use Rattle.std.proofs.Common.{◌≡◌, ℕ, zero, suc, ◌+◌, ◌-◌, ◌<◌, ◌≤◌, List, [], ◌++◌, length, sym, refl, ap, ◌∙◌, append_assoc, append-nil, arith, length-append}
use Rattle.machine.specs.declared.steps.Step.{Step}
use Rattle.order.specs.Tables.{Choice, Table, choose, finished, given, next_table, reload, settle, spill, spilled, spills, take}
use Rattle.order.specs.Wants.{Wants}
use Rattle.moves.specs.Tables.{Settled}

module _ (w : Wants) (scratch n : ℕ) (t : Table) (before : List Step) where
  -- after i of n choices the table is u: the moves so far, and those that the other choices add, are all of them
  pub record Carrying (i : ℕ) (u : Table) (now : List Step) (r : ℕ) : Type 0 where
    pub moves : now ++ settle w scratch (n - i) u ≡ before ++ settle w scratch n t
    pub rings : r + length (spills w scratch (n - i) u) ≡ length (spills w scratch n t)
    pub few : r ≤ i

  spilled_one : (k : Choice) → length (spilled k) ≤ 1
  spilled_one (take d) = omega arith
  spilled_one (reload d o) = omega arith
  spilled_one (spill d) = omega arith
  spilled_one finished = omega arith

  pub carrying_none : Carrying 0 t before 0
  carrying_none = record {
    moves = ap (λ k. before ++ settle w scratch k t) (omega arith);
    rings = let same : n - 0 ≡ n = omega arith in ap (λ k. 0 + length (spills w scratch k t)) same ∙ omega arith;
    few = omega arith;
  }

  -- one choice more
  pub carrying_more : (i : ℕ) (u : Table) (now : List Step) (r : ℕ) (k : Choice) → i < n → k ≡ choose w u → Carrying i u now r → Carrying (i + 1) (next_table scratch k u) (now ++ given scratch k u) (r + length (spilled k))
  unfolding settle spills
  carrying_more i u now r k h is c =
      let same : n - i ≡ suc (n - (i + 1)) = omega arith in
      let moves' = ap (λ m. now ++ settle w scratch m u) (sym same) ∙ c.moves in
      let rings' = ap (λ m. r + length (spills w scratch m u)) (sym same) ∙ c.rings in
      let u' : Table = next_table scratch k u in
      record {
        moves = append_assoc now (given scratch k u) (settle w scratch (n - (i + 1)) u') ∙ ap (λ c'. now ++ (given scratch c' u ++ settle w scratch (n - (i + 1)) (next_table scratch c' u))) is ∙ moves';
        rings =
            let split = length-append (spilled k) (spills w scratch (n - (i + 1)) u') in
            let step : r + length (spilled k ++ spills w scratch (n - (i + 1)) u') ≡ length (spills w scratch n t) = ap (λ c'. r + length (spilled c' ++ spills w scratch (n - (i + 1)) (next_table scratch c' u))) is ∙ rings' in
            omega arith;
        few = let one = spilled_one k in omega (arith, c.few);
      }

  -- there is room for the steps of the choice
  pub carrying_room : (i limit : ℕ) (u : Table) (now : List Step) (r : ℕ) (k : Choice) → i < n → k ≡ choose w u → Carrying i u now r → length before + length (settle w scratch n t) ≤ limit → length now + length (given scratch k u) ≤ limit
  carrying_room i limit u now r k h is c room =
      let next = carrying_more i u now r k h is c in
      let all = ap length next.moves in
      let left = length-append (now ++ given scratch k u) (settle w scratch (n - (i + 1)) (next_table scratch k u)) in
      let front = length-append now (given scratch k u) in
      let right = length-append before (settle w scratch n t) in
      omega arith

  -- a finished table gives no more steps
  settle_finished : (m : ℕ) (u : Table) → choose w u ≡ finished → settle w scratch m u ≡ []
  unfolding settle
  settle_finished zero u e = refl
  settle_finished (suc m) u e =
      ap (λ k. given scratch k u ++ settle w scratch m (next_table scratch k u)) e ∙ settle_finished m u e

  spills_finished : (m : ℕ) (u : Table) → choose w u ≡ finished → spills w scratch m u ≡ []
  unfolding spills
  spills_finished zero u e = refl
  spills_finished (suc m) u e =
      ap (λ k. spilled k ++ spills w scratch m (next_table scratch k u)) e ∙ spills_finished m u e

  settled_by : (now : List Step) (r : ℕ) → now ≡ before ++ settle w scratch n t → r ≡ length (spills w scratch n t) → Settled w scratch n t before now r
  settled_by now r moves rings = record { moves = moves; longer = ap length moves ∙ length-append before (settle w scratch n t); rings = rings }

  pub carrying_finished : (i : ℕ) (u : Table) (now : List Step) (r : ℕ) → finished ≡ choose w u → Carrying i u now r → Settled w scratch n t before now r
  carrying_finished i u now r e c =
      let none = ap length (spills_finished (n - i) u (sym e)) in
      settled_by now r (sym (append-nil now) ∙ ap (λ ps. now ++ ps) (sym (settle_finished (n - i) u (sym e))) ∙ c.moves) (omega (arith, c.rings))

  pub carrying_all : (i : ℕ) (u : Table) (now : List Step) (r : ℕ) → n ≤ i → Carrying i u now r → Settled w scratch n t before now r
  unfolding settle spills
  carrying_all i u now r end c =
      let zero_left : 0 ≡ n - i = omega arith in
      let all = ap (λ m. r + length (spills w scratch m u)) zero_left ∙ c.rings in
      settled_by now r (sym (append-nil now) ∙ ap (λ m. now ++ settle w scratch m u) zero_left ∙ c.moves) (omega arith)
