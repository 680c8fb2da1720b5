use Rattle.std.proofs.Common.{◌≡◌, true, false, None, ◌∙◌, rules, tests, arith}
use Rattle.std.proofs.lemmas.Iterator.{IsFirst-from_position, YieldsList-from_slice}
use Rattle.machine.specs.Limits.{registers}
use Rattle.order.specs.Wants.{is_source}
use Rattle.moves.specs.Wants.{register_number}
use Rattle.moves.proofs.Searching.{first_in}
use Rattle.moves.proofs.wants.Wants.lowest_register.Goals as goal

pub returns : goal.returns
returns c =
    let found = IsFirst-from_position _ _ c.position.result (λ w. is_source w c.args.source ≡ true) (λ w. is_source w c.args.source ≡ false) c.position.ensures.ran (YieldsList-from_slice c.args.self.now.by_register c.iter.ensures.rest) (λ x q k. search (rules, tests)) (λ x q k. search (rules, tests)) in
    let mapped : register_number c.map.result ≡ c.position.result = search rules in
    mapped ∙ first_in (λ w. is_source w c.args.source) c.args.self.now.by_register None registers c.position.result (omega arith) found
