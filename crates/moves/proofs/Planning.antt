-- The plan of a call that is not refused. Assumes nothing.
use Rattle.std.proofs.Common.{◌≡◌, ℕ, ◌≤◌, true, List, length, sym, ap, ◌∙◌, subst, arith}
use mathlib.Core.Path.{transport}
use Rattle.std.specs.List.{AllByRecursion}
use Rattle.machine.specs.Limits.{outgoing_slots}
use Rattle.conventions.specs.Arguments.{place_in_range}
use Rattle.conventions.specs.Calls.{Filled, arguments_in, arguments_of, bytes_for}
use Rattle.conventions.specs.Conventions.{Answers, argument_limit}
use Rattle.conventions.specs.declared.arguments.Argument.{Argument}
use Rattle.conventions.specs.declared.arguments.Source.{Source}
use Rattle.conventions.specs.declared.calls.Arguments.{Arguments}
use Rattle.conventions.proofs.Listing.{arguments_few}
use Rattle.least.specs.Counts.{needed}
use Rattle.order.specs.Best.{Best}
use Rattle.order.specs.Order.{opened, order_of, values_spread}
use Rattle.order.specs.Wants.{Wants, wants}
use Rattle.order.proofs.Bests.{all_placed, order_best, order_few}
use Rattle.order.proofs.Most.{needed_most}
use Rattle.moves.specs.Limits.{move_limit}
use Rattle.moves.specs.Lists.{moves_in}
use Rattle.moves.specs.Plans.{Accepted}
use Rattle.moves.specs.declared.lists.MoveList.{MoveList}
use Rattle.moves.specs.declared.plans.Plan.{Plan}

-- es are the arguments of the call, as a table holds them
module _ (a : Answers) (ss : List Source) (t : Arguments) (filled : Filled a ss t) (es : List Argument) (held : es ≡ arguments_in t) where
  are : es ≡ arguments_of a ss
  are = held ∙ filled.are

  pub entries_placed : AllByRecursion (λ x. place_in_range outgoing_slots x.place ≡ true) es
  entries_placed =
      subst (λ xs. AllByRecursion (λ (x : Argument). place_in_range outgoing_slots x.place ≡ true) xs) (sym are)
      (all_placed (arguments_of a ss) a.scratch.0 (a.slots (length ss)) filled.arranged filled.slots_few)

  entries_few : length es ≤ argument_limit
  entries_few = let same = ap length held in omega (arith, arguments_few t)

  pub needed_few : needed es ≤ argument_limit
  needed_few = omega (arith, needed_most es, entries_few)

  -- w are the wants of these arguments, and k is the scratch
  module _ (w : Wants) (wanted : w ≡ wants es) (k : ℕ) (scratch : k ≡ a.scratch.0) where
    wants_are : w ≡ wants (arguments_of a ss)
    wants_are = wanted ∙ ap wants are

    order_is : order_of w k ≡ order_of (wants (arguments_of a ss)) a.scratch.0
    order_is = λ i. order_of (wants_are i) (scratch i)

    pub order_fits : length (order_of w k) ≤ move_limit
    order_fits =
        let few = order_few (arguments_of a ss) a.scratch.0 (a.slots (length ss)) filled.arranged filled.slots_few in
        let same = ap length order_is in
        let long = ap length are in
        omega (arith, entries_few)

    pub accepted : (p : Plan) (m : MoveList) → p.bytes ≡ bytes_for (a.slots (length ss)) → p.needed ≡ needed es → p.rings ≡ length (opened w k) → p.values ≡ length (values_spread w) → moves_in m ≡ order_of w k → Accepted a ss p m
    accepted p m bytes need rings values list = record {
      answer = filled.answer;
      bytes = bytes;
      list = list ∙ order_is;
      best = transport (λ i. Best (arguments_of a ss) a.scratch.0 (sym bytes i) (sym (list ∙ order_is) i) (sym (need ∙ ap needed are) i) (sym (rings ∙ opened_is) i) (sym (values ∙ spread_is) i))
          (order_best (arguments_of a ss) a.scratch.0 (a.slots (length ss)) filled.arranged filled.slots_few);
    }
      where
        opened_is : length (opened w k) ≡ length (opened (wants (arguments_of a ss)) a.scratch.0)
        opened_is = λ i. length (opened (wants_are i) (scratch i))

        spread_is : length (values_spread w) ≡ length (values_spread (wants (arguments_of a ss)))
        spread_is = λ i. length (values_spread (wants_are i))
