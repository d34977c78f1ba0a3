use Rattle.std.proofs.Common.{rules, ◌≡◌, ◌∙◌, ap, map}
use Rattle.event_rules.specs.Lines.{lines}
use Rattle.feed_merge.specs.Merging.{merged_text}
use Rattle.feed_merge.proofs.TextLines.{lines-merged}
use Rattle.feed_merge.proofs.merging.merge.Goals as goal

pub returns-clause-lines : goal.returns-clause-lines
returns-clause-lines c =
    let texts = map (λ feed. feed.items) c.args.feeds.now in
    let made : c.put_lines.new.text.items ≡ merged_text texts = search rules in
    ap lines made ∙ lines-merged texts
