-- Numbers that pass a test stand in a list, and each knows its place there.
use Rattle.std.specs.Prelude.{◌≡◌, ℕ, ◌<◌, Bool, true}

-- what passes has a place below the count, and each of those places has one that passes
pub record HavePlaces (passes : ℕ → Bool) (count : ℕ) (number place : ℕ → ℕ) : Type 0 where
  pub all : (k : ℕ) → passes k ≡ true → (place k < count) × (number (place k) ≡ k)
  pub each : (i : ℕ) → i < count → (passes (number i) ≡ true) × (place (number i) ≡ i)
