use Rattle.std.proofs.Common.{false, get_or, sym, ap, ◌∙◌, subst}
use Rattle.outage_rules.specs.Network.{IsRadial}
use Rattle.subtree_costs.proofs.Built.{starts}
use Rattle.subtree_costs.proofs.costs.starting_forest.Goals as goal

pub new-requires-clause-radial : goal.new-requires-clause-radial
new-requires-clause-radial c =
    subst IsRadial (sym (starts c.args.grid.now c.deref.result.now (λ d. ap (λ xs. get_or xs d false) c.deref.ensures.value ∙ c.in_ok-closed.ensures.states d))) c.starting_states.ensures.sound.radial
