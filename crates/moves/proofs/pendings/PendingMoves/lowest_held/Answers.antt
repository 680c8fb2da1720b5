use Rattle.std.proofs.Common.{◌≡◌, true, false, ◌∙◌, rules, tests}
use Rattle.std.proofs.lemmas.Iterator.{first_from_Range}
use Rattle.machine.specs.Limits.{registers}
use Rattle.moves.specs.Tables.{held, table_in}
use Rattle.moves.specs.Wants.{register_number, wants_in}
use Rattle.moves.proofs.Searching.{first_is, slot_there}
use Rattle.moves.proofs.pendings.PendingMoves.lowest_held.Goals as goal

pub returns : goal.returns
returns c =
    let p = held (wants_in c.args.wants.now) (table_in c.args.self.now) in
    let found = first_is p registers c.find.result (first_from_Range _ _ _ _ (λ d. p d ≡ true) (λ d. p d ≡ false) c.find.ensures.ran (λ x q k. search (rules, tests, slot_there)) (λ x q k. search (rules, tests, slot_there))) in
    let mapped : register_number c.map.result ≡ c.find.result = search rules in
    mapped ∙ found
