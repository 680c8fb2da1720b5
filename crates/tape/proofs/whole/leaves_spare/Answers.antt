use Rattle.std.proofs.Common.{◌+◌, length, leb, ap, ◌∙◌, rules}
use Rattle.std.specs.List.{flat_map}
use Rattle.tape.specs.Limits.{longest_command}
use Rattle.tape.specs.Commands.{encode}
use Rattle.tape.proofs.Leaving.{leaves}
use Rattle.tape.proofs.whole.leaves_spare.Goals as goal

pub returns : goal.returns
returns c =
    let ran = c.try_fold.ensures.ran in
    leaves _ (λ p q x turn. search rules) _ _ ran.0 ran.1 _ c.args.space _ c.iter.result _ c.try_fold.result c.is_some_and.result ran.4 ran.5 ran.6 (λ x b. search rules) c.is_some_and.ensures (λ a t. search rules)
    ∙ ap (λ ps. leb (length (flat_map encode ps) + longest_command) c.args.space) c.iter.ensures.rest
