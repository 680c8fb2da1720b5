-- The worked calls, computed. Assumes nothing.
use Rattle.std.proofs.Common.{refl}
use Rattle.conventions.specs.Calls.{hidden_arguments}
use Rattle.order.specs.Indices.{each, first}
use Rattle.order.specs.Tables.{settle}
use Rattle.order.specs.Worked.{Worked}

pub worked : Worked
unfolding each first hidden_arguments settle
worked = record {
  exchange = refl;
  exchange_read_twice = refl;
  exchange_stored = refl;
  exchange_stored_bytes = refl;
  local_spread = refl;
  number_shared = refl;
  none = refl;
  none_bytes = refl;
  in_place = refl;
  handle = refl;
  most_bytes = λ s. refl;
  too_many = λ s. refl;
  scratch_refused = refl;
  usable_accepted = refl;
}
