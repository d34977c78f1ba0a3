use Rattle.std.proofs.Common.{◌≡◌}
use Rattle.grid_maker.specs.NetworkText.{each}
use Rattle.grid_maker.specs.EventText.{event_line, state_before}
use Rattle.grid_maker.proofs.events.events_of.Given as goal

abbrev pub invariant-loop-line : goal.invariant-loop-line
invariant-loop-line l = record {
  text : l.text.items ≡ each (event_line l.feeders) 0 l.line;
  state : l.draws.state ≡ state_before l.feeders l.line;
}
