use Rattle.std.proofs.Common.{false, get_or, ap, ◌∙◌, subst}
use Rattle.radial_forest.specs.Traversed.{IsTraversed}
use Rattle.diagnosis.proofs.Summing.{starts}
use Rattle.diagnosis.proofs.walks.starting_traversal.Goals as goal

pub returns-clause-traversed : goal.returns-clause-traversed
returns-clause-traversed c =
    subst (λ net. IsTraversed net c.walk.new.self)
    (starts c.args.grid.now c.deref.result.now (λ d. ap (λ xs. get_or xs d false) c.deref.ensures.value ∙ c.in_ok-closed.ensures.states d)) c.walk.ensures.traversed
