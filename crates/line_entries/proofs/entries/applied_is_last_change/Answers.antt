use Rattle.line_entries.proofs.ChangeRows.{applied_is_last}
use Rattle.line_entries.proofs.entries.applied_is_last_change.Goals as goal

pub returns : goal.returns
returns c = applied_is_last
