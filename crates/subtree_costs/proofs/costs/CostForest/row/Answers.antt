use Rattle.std.proofs.Common.{sym, ap, ◌∙◌, subst, arith}
use Rattle.subtree_costs.specs.Shares.{row_at}
use Rattle.subtree_costs.specs.Repairs.{IsSmall}
use Rattle.subtree_costs.proofs.Kept.{rows_small}
use Rattle.subtree_costs.proofs.costs.CostForest.row.Goals as goal

pub returns-clause-small : goal.returns-clause-small
returns-clause-small g c p costed =
    let each = costed.rows_each in
    let within = c.requires in
    let is = c.read.ensures.row ∙ ap (λ k. row_at k.rows c.args.n.0) c.self.view_is in
    let small = subst IsSmall (sym is) (rows_small p c.args.self.now costed c.rows_are_bounded.ensures c.args.n.0 (omega arith)) in
    (small.live, small.dark)
