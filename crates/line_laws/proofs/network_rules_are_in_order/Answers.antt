use Rattle.line_laws.proofs.NetworkRuleLemmas
use Rattle.line_laws.proofs.network_rules_are_in_order.Goals as goal

pub returns : goal.returns
returns c = NetworkRuleLemmas.first_rule_stops
