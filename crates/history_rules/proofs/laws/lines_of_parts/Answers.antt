use Rattle.history_rules.proofs.LineLemmas
use Rattle.history_rules.proofs.laws.lines_of_parts.Goals as goal

pub returns : goal.returns
returns c = LineLemmas.lines_of_parts
