use Rattle.feed_merge.proofs.OneFeed.{feed_in_merged}
use Rattle.feed_merge.proofs.laws.feed_keeps_its_order.Goals as goal

pub returns : goal.returns
returns c = feed_in_merged
