-- Networks whose devices stand in tree order, and the rows that add up from their last device to their first.
use Rattle.std.specs.Prelude.{◌≡◌, ℕ, ◌+◌, ◌<◌, min, true, false, ◌==◌, if◌then◌else◌}
use Rattle.outage_rules.specs.Sum.{total}
use Rattle.outage_rules.specs.Network.{Network, Problem}

-- each device leads from an earlier node to a new one; each node is a source or the new node of a device; all is closed
pub record IsInTreeOrder (g : Network) : Type 0 where
  pub from_earlier : (d : ℕ) → d < g.devices → g.from d < g.to d
  pub to_later : (d e : ℕ) → d < e → e < g.devices → g.to d < g.to e
  pub to_within : (d : ℕ) → d < g.devices → g.to d < g.nodes
  pub to_fed : (d : ℕ) → d < g.devices → g.is_source (g.to d) ≡ false
  pub covered : (n : ℕ) → n < g.nodes → g.is_source n ≡ false → (d : ℕ) × (d < g.devices) × (g.to d ≡ n)
  pub sources : (n : ℕ) → g.is_source n ≡ true → n < g.nodes
  pub closed : (d : ℕ) → d < g.devices → g.is_closed d ≡ true

-- each row is its dark weight and, for each device out of it, the lesser of the device's weight and the row below
abbrev pub AreSummedRows : Problem → (ℕ → ℕ) → Type 0
AreSummedRows p row = (n : ℕ) → n < p.nodes →
    row n ≡ p.dark_weight n + total p.devices (λ d. if p.from d == n then min (row (p.to d)) (p.weight d) else 0)

-- the rows of the sources
abbrev pub source_total : Network → (ℕ → ℕ) → ℕ
source_total g row = total g.nodes (λ n. if g.is_source n then row n else 0)
