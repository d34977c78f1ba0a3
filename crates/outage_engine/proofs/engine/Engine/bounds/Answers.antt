use Rattle.std.proofs.Common.{◌≡◌, ◌≤◌, List, sym, ap, ◌∙◌, subst}
use Rattle.std.proofs.lemmas.Result.{IfOk-weaker}
use Rattle.outage_rules.specs.TightLaws.{whole_weight}
use Rattle.grid_model.specs.declared.history.Event.{Event}
use Rattle.history_rules.specs.Posed.{problem_after}
use Rattle.subtree_costs.specs.Costed.{problem_in}
use Rattle.bound_table.specs.Sound.{most_cost, IsTableOf}
use Rattle.bound_table.specs.Tight.{tight_bounds}
use Rattle.outage_engine.specs.Engined.{IsEngineAfter}
use Rattle.outage_engine.proofs.engine.Engine.bounds.Goals as goal

pub returns-clause-tight : goal.returns-clause-tight
returns-clause-tight c =
    IfOk-weaker c.bounds_of.result
    (λ b. b ≡ tight_bounds (problem_in c.self.inside.grid c.costs.result.now))
    (λ b. (h : List Event) → IsEngineAfter h c.args.self.now → b ≡ tight_bounds (problem_after c.args.self.now.grid h))
    (λ b tight h given.
    subst (λ e. b ≡ tight_bounds (problem_after e.grid h)) c.self.view_is
    (let old = subst (IsEngineAfter h) (sym c.self.view_is) given in
    tight ∙ ap (λ k. tight_bounds (problem_in c.self.inside.grid k)) c.costs.ensures ∙ ap tight_bounds (c.field_poses.ensures c.self.inside.grid h c.self.inside.field old.field).posed))
    c.bounds_of.ensures.tight

pub returns-clause-of_network : goal.returns-clause-of_network
returns-clause-of_network c =
    let h = c.self.invariant.0 in
    let old = c.self.invariant.1 in
    let poses = c.field_poses.ensures c.self.inside.grid h c.self.inside.field old.field in
    IfOk-weaker c.bounds_of.result
    (λ b. whole_weight (problem_in c.self.inside.grid c.costs.result.now) ≤ most_cost → IsTableOf c.self.inside.grid b)
    (λ b. IsTableOf c.args.self.now.grid b)
    (λ b of_network. subst (λ e. IsTableOf e.grid b) c.self.view_is (of_network (subst (λ p. whole_weight p ≤ most_cost) (sym (ap (problem_in c.self.inside.grid) c.costs.ensures ∙ poses.posed)) poses.whole_bound)))
    c.bounds_of.ensures.of_network
