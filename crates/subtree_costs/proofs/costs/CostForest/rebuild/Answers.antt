use Rattle.std.proofs.Common.{sym, ap, subst, set}
use Rattle.outage_rules.specs.Network.{IsRadial}
use Rattle.grid_model.specs.declared.history.Mark.TheVariants.{Nothing}
use Rattle.grid_model.specs.Problem.{mark_at}
use Rattle.std.proofs.Common.{◌≡◌}
use Rattle.radial_forest.specs.Spreading.{switched}
use Rattle.subtree_costs.specs.CostedInside.{costed_of}
use Rattle.subtree_costs.specs.Costed.{IsCosted}
use Rattle.subtree_costs.proofs.Built.{weighed_again}
use Rattle.subtree_costs.proofs.costs.CostForest.rebuild.Goals as goal

pub rebuild-requires-clause-radial : goal.rebuild-requires-clause-radial
rebuild-requires-clause-radial g c =
    subst (λ closed. IsRadial (switched c.args.grid.now (set closed c.args.d.0 c.args.closed))) (sym (ap (λ s. s.forest.closed) c.self.view_is)) c.requires.radial

pub work_out-requires-clause-weighed : goal.work_out-requires-clause-weighed
work_out-requires-clause-weighed g c =
    weighed_again c.args.grid.now (costed_of c.self.inside) c.args.d.0 c.args.closed c.rebuild.new.self
    (subst (IsCosted c.args.grid.now) (sym c.self.view_is) c.requires.costed)
    (subst (λ s. mark_at s.marks c.args.d.0 ≡ Nothing) (sym c.self.view_is) c.requires.unmarked)
    c.rebuild.ensures.forest.states c.rebuild.ensures.own
