use Rattle.history_rules.proofs.StampReading
use Rattle.history_rules.proofs.laws.stamp_text_is_read.Goals as goal

pub returns : goal.returns
returns c = StampReading.stamp_text_is_read
