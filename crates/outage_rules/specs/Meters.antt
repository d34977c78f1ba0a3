-- Reports of meters, which stand at nodes.
use Rattle.std.specs.Prelude.{ℕ, ◌==◌, if◌then◌else◌}
use Rattle.outage_rules.specs.Sum.{total}
use Rattle.outage_rules.specs.Network.{Problem, Cut, is_live}

-- how many meters there are, the node of each, and what its dark and live reports weigh
pub record Reports : Type 0 where
  pub meters : ℕ
  pub node : ℕ → ℕ
  pub dark : ℕ → ℕ
  pub live : ℕ → ℕ

-- the sum over the meters at a node
abbrev pub at_node : Reports → (ℕ → ℕ) → ℕ → ℕ
at_node r f n = total r.meters (λ m. if r.node m == n then f m else 0)

-- the reports that a cut contradicts, meter by meter
abbrev pub contradicted : Problem → Reports → Cut → ℕ
contradicted p r cut = total r.meters (λ m. if is_live p.net cut (r.node m) then r.dark m else r.live m)
