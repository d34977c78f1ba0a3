-- Flags by number, with what they were at a beginning and the numbers of those that differ since.
use Rattle.std.specs.Prelude.{◌≡◌, ◌≢◌, ℕ, ◌<◌, Bool, true, List, slice_index_or}
use Rattle.grid_model.specs.declared.parts.DeviceId.{DeviceId}
use Rattle.diagnosis.specs.Judgement.{flag_in, differ}

pub record Watched (X : Type 0) : Type 0 where
  pub flags : List Bool
  pub begun : List Bool
  pub named : List X

-- whether the flags of a number differ
abbrev pub differ_at : List Bool → List Bool → ℕ → Bool
differ_at before now k = differ (flag_in before k) (flag_in now k)

-- the first so many numbers are those whose flags differ, each once
pub record AreDifferences (before now : List Bool) (count : ℕ) (number : ℕ → ℕ) : Type 0 where
  pub each : (i : ℕ) → i < count → differ_at before now (number i) ≡ true
  pub all : (k : ℕ) → differ_at before now k ≡ true → (i : ℕ) × (i < count) × (number i ≡ k)
  pub once : (i j : ℕ) → i < j → j < count → number i ≢ number j

-- the device at a place of a list
abbrev pub device_in : List DeviceId → ℕ → ℕ
device_in list k = (slice_index_or list k (record { 0 = 0 })).0
