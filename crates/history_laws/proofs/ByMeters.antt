-- The cost by meters is the cost by nodes.
use Rattle.std.proofs.Common.{◌≡◌, ◌+◌, List, ap}
use Rattle.outage_rules.specs.Network.{Cut}
use Rattle.outage_rules.specs.Diagnosis.{cost}
use Rattle.outage_rules.specs.Meters.{contradicted}
use Rattle.outage_rules.proofs.ByMeter.{by_node}
use Rattle.grid_model.specs.Parts.{Parts}
use Rattle.grid_model.specs.Sound.{IsSoundParts}
use Rattle.grid_model.specs.declared.history.Event.{Event}
use Rattle.history_rules.specs.Posed.{problem_after}
use Rattle.history_laws.specs.Costs.{reports_after, own_weight}

pub cost_is_by_meters : (g : Parts) (h : List Event) (opened : Cut) → IsSoundParts g → cost (problem_after g h) opened ≡ own_weight g opened + contradicted (problem_after g h) (reports_after g h) opened
unfolding problem_after
cost_is_by_meters g h opened sound = ap (λ x. own_weight g opened + x) (by_node (problem_after g h) (reports_after g h) opened (λ m l. (sound.meters m l).node))
