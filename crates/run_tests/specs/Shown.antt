-- What a caller knows of a replay that is done.
use Rattle.std.specs.Prelude.{◌≡◌, ◌<◌, ℕ, List, [], ◌++◌, length, Option}
use Rattle.std.specs.Io.KnownBytes.{Appends}
use Rattle.outage_rules.specs.Network.{Cut}
use Rattle.outage_rules.specs.Diagnosis.{cost, IsFeasible, IsLowerBound}
use Rattle.grid_model.specs.Parts.{Parts}
use Rattle.grid_model.specs.Places.{device_at}
use Rattle.event_rules.specs.Lines.{lines}
use Rattle.history_rules.specs.Posed.{problem_after}
use Rattle.history_rules.specs.Run.{history_in}
use Rattle.history_rules.specs.Shown.{is_shown}

-- the rows that were written show a set of the network's devices after its events: it is feasible, and no feasible set costs less
pub record PrintsLeast (before now : Option (List ℕ)) : Type 0 where
  pub parts : Parts
  pub events : List ℕ
  pub rows : List ℕ
  pub more : List ℕ
  pub written : Appends before now (rows ++ more)
  pub cut : Cut
  pub shown : (d : ℕ) → d < length parts.devices → is_shown (device_at parts d).name rows ≡ cut d
  pub feasible : IsFeasible (problem_after parts (history_in parts [] (lines events))) cut
  pub least : IsLowerBound (problem_after parts (history_in parts [] (lines events))) (cost (problem_after parts (history_in parts [] (lines events))) cut)
