use Rattle.std.proofs.Common.{rules, arith, ◌≡◌, ◌∙◌, ap, sym, subst, map, get_or, []}
use Rattle.std.proofs.lemmas.List.{get_or-map, length-map}
use Rattle.feed_merge.proofs.HeadSteps.{all_left, head_pushed, IsHeadOf}
use Rattle.feed_merge.proofs.heads.first_heads.Goals as goal

pub loop-feed-preserved : goal.loop-feed-preserved
loop-feed-preserved c =
    let texts = map (λ f. f.items) c.args.feeds.now in
    let text : c.deref.result.now ≡ get_or texts c.loop-feed.feed-index [] =
    c.deref.ensures.value
    ∙ ap (λ f. f.items) c.feed-item.is
    ∙ sym (get_or-map (λ f. f.items) c.args.feeds.now c.loop-feed.feed-index c.feed-item.result [] c.loop-feed-test.true) in
    let h = c.head_of.ensures in
    let head = subst (λ t. IsHeadOf 0 t c.head_of.result) text (record { none = h.none; line = h.line; key = h.key; in_time = h.known }) in
    record {
      each = search rules;
      left = rw c.in_ok-push.ensures.items (head_pushed c.loop-feed.heads.items texts c.loop-feed.feed-index c.head_of.result c.loop-feed.invariant.each c.loop-feed.invariant.left head);
    }

pub returns-clause-left : goal.returns-clause-left
returns-clause-left c =
    let texts = map (λ f. f.items) c.args.feeds.now in
    let long = length-map c.args.feeds.now (λ f. f.items) in
    all_left c.loop-feed.heads.items texts
    (omega (arith, long, c.loop-feed.invariant.each, c.loop-feed-test.false, c.loop-feed.auto.feed-index-end))
    (λ feed lt. c.loop-feed.invariant.left feed (omega (arith, long, c.loop-feed-test.false)))
