use Rattle.history_rules.proofs.LineLemmas
use Rattle.history_rules.proofs.laws.run_of_parts.Goals as goal

pub returns : goal.returns
returns c = LineLemmas.run_of_parts
