-- Laws of the texts that are made.
use Rattle.std.specs.Prelude.{◌≡◌, ◌≤◌, ℕ, ◌*◌, length}
use Rattle.event_rules.specs.Lines.{lines}
use Rattle.grid_maker.specs.NetworkText.{network_text}
use Rattle.grid_maker.specs.EventText.{event_text}

-- a storm over n feeders is a text of ten thousand lines for each
abbrev pub StormHasLines : Type 0
StormHasLines = (n : ℕ) → 1 ≤ n → n ≤ 100 → length (lines (event_text n)) ≡ 10_000 * n

-- the texts of 100 feeders have at most so many bytes
abbrev pub TextsAreShort : Type 0
TextsAreShort = (n : ℕ) → 1 ≤ n → n ≤ 100 → (length (network_text n) ≤ 15_000_000) × (length (event_text n) ≤ 62_000_000)
