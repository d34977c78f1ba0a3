use Rattle.std.proofs.Common.{refl, sym, subst}
use Rattle.bound_table.specs.Sound.{IsTableOf}
use Rattle.outage_engine.specs.Bounding.{AreDepths}
use Rattle.outage_engine.proofs.BoundingRows.{tight_is}
use Rattle.outage_engine.proofs.BoundingRange.{tight_within}
use Rattle.outage_engine.proofs.bounds.bounds_of.Goals as goal

pub returns-clause-tight : goal.returns-clause-tight
returns-clause-tight c =
    let g = c.args.grid.now in
    let k = c.args.costs.now in
    let j = c.args.judged.now in
    tight_is g k j c.deref.result.now c.requires.costed c.requires.sound (c.fed_rows_are_exact.ensures g k c.requires.costed) c.requires.judged
    (c.judged_tells_diagnosis.ensures g k j c.requires.costed c.requires.judged) (subst (AreDepths g k) (sym c.deref.ensures.value) c.in_ok-depths.ensures) c.total.result c.in_ok-cuts.cuts.items c.in_ok-rows.rows.items
    c.total.ensures.total (c.total_is_least.ensures g k c.requires.costed) c.in_ok-cuts.ensures c.in_ok-rows.ensures

pub returns-clause-of_network : goal.returns-clause-of_network
returns-clause-of_network c = λ light.
    subst (IsTableOf c.args.grid.now) (sym (returns-clause-tight c))
    (tight_within c.args.grid.now _ refl refl c.requires.costed.posed.sound.few_nodes c.requires.sound c.requires.costed.posed.forest.radial light)
