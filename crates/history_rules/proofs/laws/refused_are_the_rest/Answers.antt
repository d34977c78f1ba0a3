use Rattle.history_rules.proofs.RefusedLines
use Rattle.history_rules.proofs.laws.refused_are_the_rest.Goals as goal

pub returns : goal.returns
returns c = RefusedLines.refused_are_the_rest
