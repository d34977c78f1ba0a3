-- What explains the reports without a device.
use Rattle.std.specs.Prelude.{◌≡◌, ℕ, ◌≤◌, false}
use Rattle.outage_rules.specs.Network.{Problem, Cut}
use Rattle.outage_rules.specs.Diagnosis.{IsFeasible, cost}

-- some feasible set that leaves the device out has this cost, and none costs less
pub record IsLeastWithout (p : Problem) (d c : ℕ) : Type 0 where
  pub attained : (cut : Cut) × IsFeasible p cut × (cut d ≡ false) × (cost p cut ≡ c)
  pub least : (cut : Cut) → IsFeasible p cut → cut d ≡ false → c ≤ cost p cut
