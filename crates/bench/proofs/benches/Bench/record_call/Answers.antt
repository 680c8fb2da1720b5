use Rattle.bench.proofs.Rewrites.{rewritten_then}
use Rattle.bench.proofs.benches.Bench.record_call.Goals as goal

pub returns : goal.returns
returns g c =
    let copied = rewritten_then c.copy_area.ensures c.copy_area-2.ensures in
    rewritten_then (rewritten_then copied c.wipe.ensures.words) c.lose_registers.ensures
