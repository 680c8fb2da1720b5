-- What arranged arguments want is in range, and apart from the scratch. Assumes nothing.
use Rattle.std.proofs.Common.{◌≡◌, ℕ, ◌<◌, true, List, Some, arith}
use Rattle.std.proofs.lemmas.Bool.Decides.{nat_tests}
use Rattle.machine.specs.Limits.{registers}
use Rattle.conventions.specs.Arguments.{Arranged, apart_from, from_register, in_register, in_slot}
use Rattle.conventions.specs.Arguments.{place_in_range, source_at, source_in_range}
use Rattle.conventions.specs.declared.arguments.Argument.{Argument}
use Rattle.conventions.specs.declared.arguments.Place.{Place}
use Rattle.conventions.specs.declared.arguments.Source.{Source}
use Rattle.order.specs.Wants.{Wants, wants}
use Rattle.conventions.proofs.Lookups.{looked_up}

-- what a register and an outgoing slot want is in range, and nothing is wanted in or from the scratch
pub record Fits (w : Wants) (scratch slots : ℕ) : Type 0 where
  pub register_below : (r : ℕ) (s : Source) → w.register r ≡ Some s → r < registers
  pub register_apart : (r : ℕ) (s : Source) → w.register r ≡ Some s → r ≡ scratch → ⊥
  pub register_source : (r : ℕ) (s : Source) → w.register r ≡ Some s → source_in_range s ≡ true
  pub source_apart : (r q : ℕ) → w.register r ≡ Some (from_register q) → q ≡ scratch → ⊥
  pub slot_below : (o : ℕ) (s : Source) → w.outgoing o ≡ Some s → o < slots
  pub slot_source : (o : ℕ) (s : Source) → w.outgoing o ≡ Some s → source_in_range s ≡ true
  pub scratch_below : scratch < registers

pub fits : (xs : List Argument) (scratch slots : ℕ) → Arranged xs scratch slots → Fits (wants xs) scratch slots
fits xs scratch slots a = record {
  register_below = λ r s e. grind (arith, nat_tests, place (in_register r) s e);
  register_apart = λ r s e same. grind (arith, nat_tests, apart (in_register r) s e, same);
  register_source = λ r s e. source (in_register r) s e;
  source_apart = λ r q e same. grind (arith, nat_tests, apart (in_register r) (from_register q) e, same);
  slot_below = λ o s e. grind (arith, nat_tests, place (in_slot o) s e);
  slot_source = λ o s e. source (in_slot o) s e;
  scratch_below = grind (arith, nat_tests, a.scratch_in_range);
}
  where
    place : (p : Place) (s : Source) → source_at xs p ≡ Some s → place_in_range slots p ≡ true
    place p s = looked_up (λ b. place_in_range slots b.place ≡ true) xs p s a.places

    source : (p : Place) (s : Source) → source_at xs p ≡ Some s → source_in_range s ≡ true
    source p s = looked_up (λ b. source_in_range b.source ≡ true) xs p s a.sources

    apart : (p : Place) (s : Source) → source_at xs p ≡ Some s → apart_from scratch (record { place = p; source = s }) ≡ true
    apart p s = looked_up (λ b. apart_from scratch b ≡ true) xs p s a.off_scratch
