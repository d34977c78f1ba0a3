-- Tables of one network that say the same of its nodes.
use Rattle.std.specs.Prelude.{◌≡◌, ℕ, ◌<◌, true}
use Rattle.outage_rules.specs.Network.{Network, Problem, IsSound, IsRadial}
use Rattle.outage_rules.specs.Certificate.{Table, has_parent, IsForest, HasExactRows}
use Rattle.outage_rules.specs.Reference.{table_of}

-- both list the node or neither does, and where they list it their rows are equal
pub record AgreeAt (g : Network) (t u : Table) (n : ℕ) : Type 0 where
  pub listed : t.is_listed n ≡ u.is_listed n
  pub parent : has_parent g t n ≡ true → t.parent n ≡ u.parent n
  pub depth : t.is_listed n ≡ true → t.depth n ≡ u.depth n
  pub live : t.is_listed n ≡ true → t.live_cost n ≡ u.live_cost n
  pub dark : t.is_listed n ≡ true → t.dark_cost n ≡ u.dark_cost n

-- a radial network has one table with exact rows
abbrev pub TablesAgree : Type 0
TablesAgree = (p : Problem) (t u : Table) → IsSound p → IsRadial p.net → IsForest p.net t → IsForest p.net u →
    HasExactRows p t → HasExactRows p u → (n : ℕ) → n < p.nodes → AgreeAt p.net t u n

-- the computed table of a radial network is a forest with exact rows
abbrev pub ReferenceTableIsExact : Type 0
ReferenceTableIsExact = (p : Problem) → IsSound p → IsRadial p.net → IsForest p.net (table_of p) × HasExactRows p (table_of p)

-- a forest with exact rows is the computed table
abbrev pub ExactTableIsReference : Type 0
ExactTableIsReference = (p : Problem) (t : Table) → IsSound p → IsRadial p.net → IsForest p.net t → HasExactRows p t →
    (n : ℕ) → n < p.nodes → AgreeAt p.net t (table_of p) n
