use Rattle.std.proofs.Common.{◌<◌, ◌≡◌, ◌+◌, subst, sym, ap, set, length, arith}
use Rattle.radial_forest.specs.Traversed.{node_at}
use Rattle.nested_faults.specs.LastCuts.{noted_below, fed_parent}
use Rattle.nested_faults.proofs.Noting.{AreNoted, noted_more, noted_all}
use Rattle.nested_faults.proofs.cuts.note_last_cuts.Goals as goal

pub loop-n-preserved : goal.loop-n-preserved
loop-n-preserved c =
    let g = c.args.grid.now in
    let k = c.args.costs.now in
    let j = c.args.judged.now in
    let i = c.loop-n.n-index in
    subst (λ order. i < length order → c.last_cut.result ≡ noted_below g j c.loop-n.last (node_at order i) (fed_parent g k (node_at order i)) → AreNoted g k j (i + 1) (set c.loop-n.last (node_at order i) c.last_cut.result))
    (sym c.order-n-items.ensures)
    (λ l is. noted_more g k j c.requires.costed (c.fed_rows_are_exact.ensures g k c.requires.costed) i l c.loop-n.last c.loop-n.invariant c.last_cut.result is)
    (omega arith) c.last_cut.ensures

pub returns : goal.returns
returns c =
    noted_all c.args.grid.now c.args.costs.now c.args.judged.now c.requires.costed (c.fed_rows_are_exact.ensures c.args.grid.now c.args.costs.now c.requires.costed) c.loop-n.last
    (subst (λ k. AreNoted c.args.grid.now c.args.costs.now c.args.judged.now k c.loop-n.last) (let e = ap length c.order-n-items.ensures in omega arith) c.loop-n.invariant)
