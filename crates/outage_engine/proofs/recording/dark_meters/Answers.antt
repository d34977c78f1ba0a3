use Rattle.std.proofs.Common.{false, ◌∙◌, below_more, arith}
use Rattle.std.proofs.lemmas.List.{get_or-set_same, get_or-set_other, length-set}
use Rattle.outage_engine.proofs.recording.dark_meters.Goals as goal

pub loop-m-preserved : goal.loop-m-preserved
loop-m-preserved c =
    let flags = c.loop-m.flags.items in
    let v = c.is_dark.result in
    record {
      count = length-set flags c.loop-m.m v ∙ c.loop-m.invariant.count;
      flags = below_more _ _
          (λ k l. get_or-set_other flags c.loop-m.m k v false (omega arith) ∙ c.loop-m.invariant.flags k l)
          (get_or-set_same flags c.loop-m.m v false (let e = c.loop-m.invariant.count in omega arith) ∙ c.is_dark.ensures);
    }
