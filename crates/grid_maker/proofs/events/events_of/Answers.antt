-- The next line, of the state that the lines before it left.
use Rattle.std.proofs.Common.{rules, refl, sym, ap, ◌∙◌, ◌++◌, [], arith}
use Rattle.grid_maker.specs.EventText.{event_line, state_before}
use Rattle.grid_maker.proofs.Each.{each_none, each_added}
use Rattle.grid_maker.proofs.EventPieces.{line_drawn, state_more}
use Rattle.grid_maker.proofs.events.events_of.Goals as goal

pub loop-line-init : goal.loop-line-init
unfolding state_before
loop-line-init c = record {
  text = c.new-text.ensures.items ∙ sym (each_none (event_line c.args.feeders) 0);
  state = search rules;
}

pub loop-line-preserved : goal.loop-line-preserved
loop-line-preserved c =
    let n = c.args.feeders in
    let i = c.loop-line.line in
    let drawn = c.line-drawn.ensures in
    let row = line_drawn n i _ _ _ _ _ c.loop-line.invariant.state drawn.feeder drawn.place drawn.number drawn.pick in
    record {
      text =
          each_added (event_line n) 0 i i _ [] _ _ (omega arith) refl c.loop-line.invariant.text
          (c.in_ok-add_event.ensures ∙ ap (λ x. c.loop-line.text.items ++ x) row);
      state = drawn.state ∙ state_more n i _ c.loop-line.invariant.state;
    }
