use Rattle.history_rules.proofs.RuleLemmas
use Rattle.history_rules.proofs.laws.lines_follow_rules.Goals as goal

pub returns : goal.returns
returns c = RuleLemmas.lines_follow_rules
