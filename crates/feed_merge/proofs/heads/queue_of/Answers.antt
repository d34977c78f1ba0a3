use Rattle.std.proofs.Common.{arith}
use Rattle.feed_merge.proofs.FeedQueues.{all_queued}
use Rattle.feed_merge.proofs.heads.queue_of.Goals as goal

pub returns : goal.returns
returns c = all_queued c.args.heads.now c.loop-feed.queue c.loop-feed.feed c.loop-feed.invariant (omega (arith, c.loop-feed-test.false, c.loop-feed.auto.feed-end))
