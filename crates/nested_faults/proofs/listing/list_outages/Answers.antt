use Rattle.std.proofs.Common.{ap, ◌∙◌}
use Rattle.diagnosis.specs.Judgement.{opened_by}
use Rattle.nested_faults.specs.Listing.{outage_in}
use Rattle.nested_faults.proofs.Listed.{item_more, item_passed}
use Rattle.nested_faults.proofs.listing.list_outages.Goals as goal
use Rattle.nested_faults.proofs.listing.list_outages.Goals.{then-is_opened+in_ok-push, else-is_opened}

pub loop-d-preserved : goal.loop-d-preserved
loop-d-preserved c =
    let j = c.args.judged.now in
    let item = outage_in c.args.grid.now c.args.costs.now c.args.last.now c.args.tallies.now in
    elim c.if-is_opened.branch [
      | then-is_opened+in_ok-push w ↦
          ap (λ v. v.items) w.outages-is ∙ w.in_ok-push.ensures.items
          ∙ item_more (opened_by j) item c.loop-d.d c.loop-d.outages.items w.outage.result c.loop-d.invariant w.if-is_opened.ensures w.outage.ensures
      | else-is_opened w ↦
          ap (λ v. v.items) w.outages-is
          ∙ item_passed (opened_by j) item c.loop-d.d c.loop-d.outages.items c.loop-d.invariant w.if-is_opened.ensures
    ]
