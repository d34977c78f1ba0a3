-- The weight of a device by its failure rate: the rarer it fails, the more it costs to take it for opened.
use Rattle.std.specs.Prelude.{ℕ, ◌*◌, ◌^◌, ◌<◌, ◌≤◌, Bool, nat_le}
use Rattle.std.specs.List.{position_or_len, range_with_len}

-- the hours over which failures are counted
abbrev pub rate_hours : ℕ
rate_hours = 1000000000

-- k doublings of the rate make at least one failure an hour, and no fewer do
pub record IsLeastDoubling (rate k : ℕ) : Type 0 where
  pub reached : rate_hours ≤ rate * 2 ^ k
  pub least : (j : ℕ) → j < k → rate * 2 ^ j < rate_hours

-- whether k doublings of the rate make at least one failure an hour
abbrev pub is_doubled_enough : ℕ → ℕ → Bool
is_doubled_enough rate k = nat_le rate_hours (rate * 2 ^ k)

-- 10 for each doubling that is needed, of at most 30
unfoldable pub rate_weight : ℕ → ℕ
rate_weight rate = 10 * position_or_len (is_doubled_enough rate) (range_with_len 0 31)
