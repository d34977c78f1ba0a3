use Rattle.feed_merge.proofs.TextLines.{lines-merged}
use Rattle.feed_merge.proofs.laws.merged_is_cut.Goals as goal

pub returns : goal.returns
returns c = lines-merged
