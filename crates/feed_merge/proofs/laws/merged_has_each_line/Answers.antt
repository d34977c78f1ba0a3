use Rattle.feed_merge.specs.Merging.{all_entries}
use Rattle.feed_merge.proofs.Ascending.{sorted-permutation}
use Rattle.feed_merge.proofs.laws.merged_has_each_line.Goals as goal

pub returns : goal.returns
returns c = λ feeds. sorted-permutation (all_entries feeds)
