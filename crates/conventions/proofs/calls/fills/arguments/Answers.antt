use Rattle.std.proofs.Common.{◌≡◌, ◌+◌, ◌≤◌, true, length, arith}
use Rattle.std.proofs.lemmas.Grind.{common_steps}
use Rattle.conventions.specs.Calls.{all_usable, arguments_in, arguments_of}
use Rattle.conventions.specs.Conventions.{argument_limit}
use Rattle.conventions.specs.Lists.{listed}
use Rattle.conventions.proofs.Arranging.{length-hidden}
use Rattle.conventions.proofs.Filling.{filled}
use Rattle.conventions.proofs.calls.fills.arguments.Goals as goal

pub unwrap-requires-2 : goal.unwrap-requires-2
unwrap-requires-2 g c = grind (arith, common_steps, length-hidden)

pub returns : goal.returns
returns g c =
    let a = g.C.Convention.answers c.args.convention.now in
    let l = c.args.list.now in
    let lawful = g.met.C.Convention.lawful c.args.convention.now in
    let fits : a.hidden + length (listed l) ≤ argument_limit = grind (arith, common_steps) in
    let used : all_usable a.usable.0 (listed l) ≡ true = cc c.if-not-all_usable.ensures in
    let are : arguments_in c.fill_given.new.arguments ≡ arguments_of a (listed l) = grind (arith, common_steps) in
    filled a l _ lawful fits used are
