use Rattle.feed_merge.specs.Merging.{all_entries}
use Rattle.feed_merge.proofs.Ascending.{Ascends-sorted, all_apart}
use Rattle.feed_merge.proofs.laws.merged_ascends.Goals as goal

pub returns : goal.returns
returns c = λ feeds. Ascends-sorted (all_entries feeds) (all_apart 0 feeds)
