-- What the local check says of a replay's own bounds.
use Rattle.std.specs.Prelude.{◌≡◌, ℕ, true, List}
use Rattle.grid_model.specs.Parts.{Parts}
use Rattle.grid_reader.specs.Text.{IsGrid, grid_text}
use Rattle.bound_table.specs.Table.{Table}
use Rattle.bound_table.specs.Report.{report_reading, IsRead}
use Rattle.bound_table.specs.Tight.{tight_bounds}
use Rattle.bound_checker.specs.declared.rules.Verdict.TheVariants.{Valid}
use Rattle.run_rules.specs.Told.{last_problem, output, verdict_on}
use Rattle.command_words.specs.declared.words.Wish.{Wish}

-- the report has these bounds, and the local check finds them valid
pub record IsFoundValid (g : Parts) (events report : List ℕ) (bounds : Table) : Type 0 where
  pub read : report_reading g report ≡ IsRead bounds
  pub verdict : verdict_on g events bounds ≡ Valid

-- what a replay writes with its bounds, for any period, has the tight bounds of all events, and they are found valid
abbrev pub ReplayIsValid : Type 0
ReplayIsValid = (text events : List ℕ) (g : Parts) (wish : Wish) → grid_text text ≡ IsGrid g → wish.with_bounds ≡ true →
    IsFoundValid g events (output g events wish) (tight_bounds (last_problem g events))
