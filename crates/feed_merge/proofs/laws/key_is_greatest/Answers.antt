use Rattle.feed_merge.proofs.GreatestSeconds.{is_greatest}
use Rattle.feed_merge.proofs.laws.key_is_greatest.Goals as goal

pub returns : goal.returns
returns c = is_greatest
