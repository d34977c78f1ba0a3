-- How far a node is from where its walks begin.
use Rattle.std.specs.Prelude.{◌≡◌, ◌≢◌, ℕ, suc, ◌<◌, ◌≤◌, true, false}
use Rattle.outage_rules.specs.Network.{Network, Joins, nothing, is_live}
use Rattle.outage_rules.specs.Reference.{distance}

-- a walk of k closed devices through these nodes, none of them twice
pub record IsSimpleWalk (net : Network) (k : ℕ) (at : ℕ → ℕ) : Type 0 where
  pub joined : (i : ℕ) → i < k → (d : ℕ) × Joins net nothing d (at i) (at (suc i))
  pub apart : (i j : ℕ) → i < j → j ≤ k → at i ≢ at j

-- of a fed node the number of devices on its walk to its source, and of another node on the longest simple walk from it
pub record IsReach (net : Network) (n r : ℕ) : Type 0 where
  pub fed : is_live net nothing n ≡ true → r ≡ distance net n
  pub longest : is_live net nothing n ≡ false → (k : ℕ) (at : ℕ → ℕ) → at 0 ≡ n → IsSimpleWalk net k at → k ≤ r
  pub attained : is_live net nothing n ≡ false → (at : ℕ → ℕ) × (at 0 ≡ n) × IsSimpleWalk net r at
