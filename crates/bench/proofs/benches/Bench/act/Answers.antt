use Rattle.bench.proofs.Acts.{acted_reserve, acted_set, called_state, copy_writes, set_writes, fetch_writes, back_writes, store_writes, keep_writes}
use Rattle.bench.proofs.benches.Bench.act.Goals as goal

pub returns-in-Copy : goal.returns-in-Copy
returns-in-Copy g c = acted_set c.in-Copy.is c.requires.in_range (copy_writes _)

pub returns-in-Set : goal.returns-in-Set
returns-in-Set g c = acted_set c.in-Set.is c.requires.in_range (set_writes c.number.ensures)

pub returns-in-Fetch : goal.returns-in-Fetch
returns-in-Fetch g c = acted_set c.in-Fetch.is c.requires.in_range (fetch_writes _)

pub returns-in-Back : goal.returns-in-Back
returns-in-Back g c = acted_set c.in-Back.is c.requires.in_range (back_writes _)

pub returns-in-Store : goal.returns-in-Store
returns-in-Store g c = acted_set c.in-Store.is c.requires.in_range (store_writes _)

pub returns-in-Keep : goal.returns-in-Keep
returns-in-Keep g c = acted_set c.in-Keep.is c.requires.in_range (keep_writes _)

pub returns-in-Reserve : goal.returns-in-Reserve
returns-in-Reserve g c = rw c.in-Reserve.is (acted_reserve c.wipe.ensures.words)

pub returns-in-Call : goal.returns-in-Call
returns-in-Call g c =
    let r = c.record_call.ensures in
    rw c.in-Call.is record {
      state = called_state _ r;
      turn = r.turn;
      taken = r.taken;
      lent = r.lent;
    }
