use Rattle.feed_merge.proofs.OnlyOne.{merged-only_one}
use Rattle.feed_merge.proofs.laws.merged_is_the_only_one.Goals as goal

pub returns : goal.returns
returns c = merged-only_one
