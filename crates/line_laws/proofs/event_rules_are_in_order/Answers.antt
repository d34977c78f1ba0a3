use Rattle.line_laws.proofs.EventRuleLemmas
use Rattle.line_laws.proofs.event_rules_are_in_order.Goals as goal

pub returns : goal.returns
returns c = EventRuleLemmas.first_rule_refuses
