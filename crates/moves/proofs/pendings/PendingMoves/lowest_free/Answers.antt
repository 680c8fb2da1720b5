use Rattle.std.proofs.Common.{◌≡◌, ℕ, Bool, true, false, not, ◌&&◌, get_or, ap, ◌∙◌, rules, tests}
use Rattle.std.proofs.lemmas.Iterator.{first_from_Range, serves_from_Range}
use Rattle.std.proofs.lemmas.List.{get_or_read}
use Rattle.machine.specs.Limits.{registers}
use Rattle.order.specs.Tables.{is_free, pending}
use Rattle.order.proofs.Indices.{first_same}
use Rattle.moves.specs.Tables.{table_in}
use Rattle.moves.specs.Wants.{register_number}
use Rattle.moves.proofs.Searching.{first_is}
use Rattle.moves.proofs.pendings.PendingMoves.lowest_free.Goals as goal

pub find-requires : goal.find-requires
find-requires c = record { can = tt; finite = tt; callable = serves_from_Range (λ x q k. search (rules, tests)) (λ x low high. search rules) }

pub returns : goal.returns
returns c =
    let t = table_in c.args.self.now in
    let unread : ℕ → Bool = λ d. pending t d && not (get_or c.read_registers-read.result d false) in
    let found = first_is unread registers c.find.result (first_from_Range _ _ _ _ (λ d. unread d ≡ true) (λ d. unread d ≡ false) c.find.ensures.ran (λ x q k. search (rules, tests, get_or_read)) (λ x q k. search (rules, tests, get_or_read))) in
    let free = first_same unread (is_free t) registers (λ d h. ap (λ b. pending t d && not b) (c.read_registers-read.ensures.marks_read d h)) in
    let mapped : register_number c.map.result ≡ c.find.result = search rules in
    mapped ∙ found ∙ free
