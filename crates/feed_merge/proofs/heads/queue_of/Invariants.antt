use Rattle.feed_merge.proofs.FeedQueues.{AreQueued}
use Rattle.feed_merge.proofs.heads.queue_of.Given as goal

abbrev pub invariant-loop-feed : goal.invariant-loop-feed
invariant-loop-feed l = AreQueued l.heads l.queue l.feed
