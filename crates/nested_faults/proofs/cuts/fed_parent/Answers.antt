use Rattle.std.proofs.Common.{cond, None, sym, ap, ◌∙◌}
use Rattle.outage_rules.specs.Network.{nothing, is_live}
use Rattle.radial_forest.specs.Traversed.{parent_in}
use Rattle.radial_forest.specs.Spreading.{switched}
use Rattle.nested_faults.proofs.cuts.fed_parent.Goals as goal

pub returns-then-is_fed-clause-parent : goal.returns-then-is_fed-clause-parent
returns-then-is_fed-clause-parent c =
    let same = c.forest-forest.ensures in
    let fed = sym (ap (λ f. is_live (switched c.args.grid.now f.closed) nothing c.args.n.0) same) ∙ sym c.is_fed.ensures ∙ c.if-is_fed.true in
    c.parent.ensures ∙ ap (λ f. parent_in f.parents c.args.n.0) same ∙ sym (ap (λ b. cond b (parent_in c.args.costs.now.forest.parents c.args.n.0) None) fed)

pub returns-else-is_fed-clause-parent : goal.returns-else-is_fed-clause-parent
returns-else-is_fed-clause-parent c =
    let same = c.forest-forest.ensures in
    let dead = sym (ap (λ f. is_live (switched c.args.grid.now f.closed) nothing c.args.n.0) same) ∙ sym c.is_fed.ensures ∙ c.if-is_fed.false in
    sym (ap (λ b. cond b (parent_in c.args.costs.now.forest.parents c.args.n.0) None) dead)
