use Rattle.feed_merge.proofs.TextSteps.{put_all, put_first}
use Rattle.feed_merge.proofs.merging.put_lines.Goals as goal

pub lines-preserved : goal.lines-preserved
lines-preserved c = record {
  queue = c.in-Some.ensures.queue;
  way = λ parts left.
      let way = c.lines.invariant.way parts left in
      put_first c.args.text.now.items parts c.lines.text.items c.put_line.new.text.items c.in-Some.line.now c.lines.heads c.take_first.new.heads way
      (c.in-Some.ensures.first way.rest way.left) c.in_ok-put_line.ensures;
}

pub returns : goal.returns
returns c = λ parts left.
    let way = c.lines.invariant.way parts left in
    put_all c.args.text.now.items parts c.lines.text.items c.lines.heads way (c.in_default.ensures.first way.rest way.left)
