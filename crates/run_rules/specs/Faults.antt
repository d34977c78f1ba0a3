-- What a call tells of an object that counts its faults.
use Rattle.std.specs.Prelude.{ℕ, ◌<◌, ◌≤◌}
use Rattle.outage_ports.specs.Causes.{Rose}

-- the count never falls; the failure comes only where it rose, and wherever it is greater than before
pub record TellsFaults (before now : ℕ) (failed : Type 0) : Type 0 where
  pub later : before ≤ now
  pub rose : failed → Rose before now
  pub told : before < now → failed
