-- The lines that indices can be computed over.
use Rattle.std.specs.Prelude.{ℕ, ◌<◌, ◌≤◌, length}
use Rattle.grid_model.specs.Parts.{Parts}
use Rattle.grid_model.specs.declared.history.Line.{Line}
use Rattle.history_rules.specs.Indices.{end_or}
use Rattle.history_rules.specs.StampTexts.{last_second}

-- the most lines
abbrev pub most_lines : ℕ
most_lines = 1000000000000

-- a line of this network that, where an open one ends now, ends not before it starts, and before the year 10000
pub record CanBeCounted (g : Parts) (now : ℕ) (l : Line) : Type 0 where
  pub meter : l.meter.0 < length g.meters
  pub order : l.start.0 ≤ end_or now l.end
  pub end : end_or now l.end ≤ last_second
