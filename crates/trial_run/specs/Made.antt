-- The run over texts in memory.
use Rattle.std.specs.Prelude.{◌≡◌, ℕ, List, []}
use Rattle.event_rules.specs.Lines.{lines}
use Rattle.grid_reader.specs.Text.{grid_text, IsGrid}
use Rattle.history_rules.specs.Run.{history_of}
use Rattle.history_rules.specs.Report.{refused_in}
use Rattle.outage_engine.specs.Engined.{Engined, IsEngineAfter}

-- the engine is that of this network text after all events of the other, of which so many lines were refused
pub record RanOver (network events : List ℕ) (e : Engined) (refused : ℕ) : Type 0 where
  pub grid : grid_text network ≡ IsGrid e.grid
  pub engine : IsEngineAfter (history_of e.grid events) e
  pub refusals : refused ≡ refused_in e.grid [] (lines events)
