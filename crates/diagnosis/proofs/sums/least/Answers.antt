use Rattle.std.proofs.Common.{get_or, ◌∙◌, subst}
use Rattle.outage_rules.specs.Diagnosis.{IsLeastCost}
use Rattle.grid_model.specs.Network.{problem_with}
use Rattle.diagnosis.proofs.sums.least.Goals as goal

pub returns : goal.returns
returns c =
    subst (λ xs. IsLeastCost (problem_with c.args.grid.now (λ n. get_or xs n 0)) c.least_by_rows.result)
    (c.deref_mut.ensures.value ∙ c.in_ok-rows.ensures.items_if_clones_equal (λ x y e. e)) c.least_by_rows.ensures
