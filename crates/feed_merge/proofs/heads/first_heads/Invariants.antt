use Rattle.std.proofs.Common.{◌≡◌, ℕ, ◌<◌, [], map, length, get_or, None}
use Rattle.feed_merge.specs.Merging.{entries_of}
use Rattle.feed_merge.specs.Heads.{IsLeft}
use Rattle.feed_merge.proofs.heads.first_heads.Given as goal

abbrev pub invariant-loop-feed : goal.invariant-loop-feed
invariant-loop-feed l = record {
  each : length l.heads.items ≡ l.feed-index;
  left : (feed : ℕ) → feed < l.feed-index → IsLeft feed (get_or l.heads.items feed None) (entries_of feed (get_or (map (λ f. f.items) l.feeds) feed []));
}
