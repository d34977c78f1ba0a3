-- What the weight of a failure rate is.
use Rattle.std.specs.Prelude.{◌≡◌, ℕ, ◌*◌, ◌≤◌}
use Rattle.fault_weights.specs.Rates.{IsLeastDoubling, rate_weight}

-- 10 times the least number of doublings
abbrev pub RateWeightIsLeast : Type 0
RateWeightIsLeast = (rate : ℕ) → 1 ≤ rate → (k : ℕ) × IsLeastDoubling rate k × (rate_weight rate ≡ 10 * k)

-- there is no other least number of doublings
abbrev pub OneLeastDoubling : Type 0
OneLeastDoubling = (rate j k : ℕ) → IsLeastDoubling rate j → IsLeastDoubling rate k → j ≡ k

-- rates from 1 to 1,000,000 weigh from 100 to 300
abbrev pub RateWeightIsBounded : Type 0
RateWeightIsBounded = (rate : ℕ) → 1 ≤ rate → rate ≤ 1000000 → (100 ≤ rate_weight rate) × (rate_weight rate ≤ 300)
