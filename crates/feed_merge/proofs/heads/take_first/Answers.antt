use Rattle.std.proofs.Common.{rules, ◌≡◌, ◌<◌, length, get_or, Some, None, ap, refl, arith}
use Rattle.std.proofs.lemmas.List.{length-map}
use Rattle.feed_merge.specs.Heads.{key_in}
use Rattle.feed_merge.proofs.HeadSteps.{taken}
use Rattle.feed_merge.proofs.FeedQueues.{nothing_left, requeued}
use Rattle.feed_merge.proofs.heads.take_first.Goals as goal

pub returns-in_err-feed-clause-first : goal.returns-in_err-feed-clause-first
returns-in_err-feed-clause-first c = λ parts left.
    rw c.from_residual.ensures
    (nothing_left c.args.heads.now c.args.queue.now parts 18446744073709551615 (omega arith) c.requires left (c.in_err-feed.ensures.none.0 refl))

pub returns-clause-queue : goal.returns-clause-queue
returns-clause-queue c =
    requeued c.args.heads.now c.in_ok-feed.feed c.head_of-next.result c.args.queue.now c.pop_due.new.self c.set_key.new.queue c.requires c.in_ok-feed.ensures.after c.set_key.ensures

pub returns-clause-first : goal.returns-clause-first
returns-clause-first c = λ parts left.
    let h = c.head_of-next.ensures in
    let within : c.in_ok-feed.feed < length c.args.heads.now = omega (arith, c.in_ok-feed.ensures.below, ap length c.requires, length-map c.args.heads.now key_in) in
    let is : get_or c.args.heads.now c.in_ok-feed.feed None ≡ Some c.in_ok-head.head = search rules in
    taken c.args.heads.now c.args.queue.now parts c.in_ok-feed.feed 18446744073709551615 c.in_ok-head.head c.head_of-next.result c.requires left
    c.in_ok-feed.ensures.first is within (record { none = h.none; line = h.line; key = h.key; in_time = h.known })
