use Rattle.std.proofs.Common.{ap, arith}
use Rattle.radial_forest.specs.Spreading.{switched}
use Rattle.subtree_costs.specs.Trees.{depth_in}
use Rattle.subtree_costs.proofs.Changed.{weights_are_due}
use Rattle.subtree_costs.proofs.costs.CostForest.set_weights.Goals as goal

pub repair-requires-clause-due : goal.repair-requires-clause-due
repair-requires-clause-due g c =
    weights_are_due c.args.grid.now c.args.self.now c.requires.costed c.rows_are_bounded.ensures c.args.n.0 c.args.dark c.args.live c.requires.node c.requires.dark_sum c.requires.live_sum _ _
    c.weigh-before.ensures.after (ap (λ r. record { before = r; after = record { live = c.args.dark; dark = c.args.live } }) c.weigh-before.ensures.before)

pub returns-clause-steps : goal.returns-clause-steps
returns-clause-steps g c r reach =
    let most = c.chains_are_within_reach.ensures c.args.grid.now c.args.self.now c.requires.costed c.args.n.0 r c.requires.node reach in
    let same = ap (λ s. depth_in (switched c.args.grid.now s.forest.closed) s.forest c.args.n.0) c.weigh-before.ensures.after in
    let taken = c.repair.ensures.steps in
    omega arith
