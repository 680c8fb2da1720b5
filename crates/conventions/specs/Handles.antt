-- Handle first over any convention. Assumes nothing.
use Rattle.std.specs.Prelude.{ℕ, ◌+◌, min, cond, ◌==◌}
use Rattle.conventions.specs.declared.arguments.Source.TheVariants.{Local}
use Rattle.conventions.specs.Conventions.{Answers, argument_limit}

-- arguments are numbered in a byte, so that the last number has itself for its next; no call has so many
abbrev pub next : ℕ → ℕ
next i = min (i + 1) 255

-- one more hidden argument after those below: the place of argument 0 below, from local slot 0
abbrev pub handle_first : Answers → Answers
handle_first a = record {
  hidden = min (a.hidden + 1) (argument_limit + 1);
  hidden_place = λ i. cond (i == a.hidden) (a.place 0) (a.hidden_place i);
  hidden_source = λ i. cond (i == a.hidden) (Local (record { 0 = 0 })) (a.hidden_source i);
  place = λ i. a.place (next i);
  slots = λ n. a.slots (next n);
  scratch = a.scratch;
  usable = a.usable;
  lost = a.lost;
}
