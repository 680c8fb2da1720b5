-- The source that is wanted. Assumes nothing.
use Rattle.std.proofs.Common.{◌≡◌, true, Some, None, Option, ap, ◌∙◌, arith}
use Rattle.conventions.specs.declared.arguments.Source.{Source}
use Rattle.conventions.proofs.Places.{source_refl, source_same}
use Rattle.order.specs.Wants.{is_source}

pub is_source_some : (o : Option Source) (s : Source) → is_source o s ≡ true → o ≡ Some s
is_source_some None s e = absurd (grind (arith, e))
is_source_some (Some a) s e = ap (λ b. Some b) (source_same a s e)

pub some_is_source : (o : Option Source) (s : Source) → o ≡ Some s → is_source o s ≡ true
some_is_source o s e = ap (λ p. is_source p s) e ∙ source_refl s
