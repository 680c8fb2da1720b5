use Rattle.std.proofs.Common.{◌≡◌, ℕ, ◌+◌, ◌<◌, Bool, cond, List, length, get_or, drop, arith}
use Rattle.std.proofs.lemmas.List.{at_drop_all, at_drop_more}
use Rattle.conventions.specs.Arguments.{at_home}
use Rattle.conventions.specs.declared.arguments.Argument.{Argument}
use Rattle.least.specs.Counts.{needed}
use Rattle.least.proofs.counts.count_needed.Goals as goal
use Rattle.least.proofs.counts.count_needed.Goals.{else-not-at_home, then-not-at_home}

-- one argument more
counted : (xs : List Argument) (i : ℕ) (a : Argument) (r : Bool) → i < length xs → r ≡ at_home (get_or xs i a) → needed (drop i xs) ≡ cond r 0 1 + needed (drop (i + 1) xs)
counted xs i a r h e = rw e (at_drop_more needed xs i a h)

pub loop-i-preserved : goal.loop-i-preserved
loop-i-preserved c =
    let more = counted c.args.arguments.now c.loop-i.i _ c.at_home.result c.loop-i-test.true c.at_home.ensures in
    elim c.if-not-at_home.branch [
      | then-not-at_home w ↦ let m = rw w.if-not-at_home.true at more in omega (arith, m, w.count-is)
      | else-not-at_home w ↦ let m = rw w.if-not-at_home.false at more in omega (arith, m, w.count-is)
    ]

pub returns : goal.returns
returns c = omega (arith, at_drop_all needed c.args.arguments.now c.loop-i.i (omega arith))
