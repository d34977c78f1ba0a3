-- A table of rows that shows, by comparing neighbours alone, that no feasible cut costs less.
use Rattle.std.specs.Prelude.{◌≡◌, ℕ, zero, suc, ◌+◌, ◌<◌, ◌≤◌, min, Bool, true, false, ◌&&◌, ◌||◌, not, ◌==◌, nat_lt, ◌⊎◌, if◌then◌else◌}
use Rattle.outage_rules.specs.Sum.{total}
use Rattle.outage_rules.specs.Network.{Network, Problem, Cut}
use Rattle.outage_rules.specs.Diagnosis.{cost, IsFeasible, IsLowerBound}

-- one row per listed node; the parent is a device, and says nothing at a source
pub record Table : Type 0 where
  pub is_listed : ℕ → Bool
  pub parent : ℕ → ℕ
  pub depth : ℕ → ℕ
  pub live_cost : ℕ → ℕ
  pub dark_cost : ℕ → ℕ

abbrev pub has_parent : Network → Table → ℕ → Bool
has_parent g t n = t.is_listed n && not (g.is_source n)

abbrev pub other_end : Network → ℕ → ℕ → ℕ
other_end g d n = if g.to d == n then g.from d else g.to d

-- the node at the other end of the parent device
abbrev pub upper : Network → Table → ℕ → ℕ
upper g t n = other_end g (t.parent n) n

abbrev pub is_child : Network → Table → ℕ → ℕ → Bool
is_child g t n m = has_parent g t m && (upper g t m == n)

-- what a child adds where the node above is live
abbrev pub choice : Problem → Table → ℕ → ℕ
choice p t m =
    let w = p.weight (t.parent m) in
    if p.marked_open (t.parent m) then w + t.dark_cost m
    else (if p.marked_ok (t.parent m) then t.live_cost m else min (w + t.dark_cost m) (t.live_cost m))

-- what a child adds where the node above is dark
abbrev pub dark_share : Problem → Table → ℕ → ℕ
dark_share p t m = t.dark_cost m + (if p.marked_open (t.parent m) then p.weight (t.parent m) else 0)

pub record HasParent (g : Network) (t : Table) (n : ℕ) : Type 0 where
  pub within : t.parent n < g.devices
  pub closed : g.is_closed (t.parent n) ≡ true
  pub ends : (g.from (t.parent n) ≡ n) ⊎ (g.to (t.parent n) ≡ n)
  pub listed : t.is_listed (upper g t n) ≡ true
  pub deeper : t.depth n ≡ suc (t.depth (upper g t n))

-- the sources are listed, and each other listed node hangs from a listed one
pub record IsRooted (g : Network) (t : Table) : Type 0 where
  pub source : (n : ℕ) → n < g.nodes → g.is_source n ≡ true → (t.is_listed n ≡ true) × (t.depth n ≡ 0)
  pub parent : (n : ℕ) → n < g.nodes → has_parent g t n ≡ true → HasParent g t n

-- and each closed device is the parent device of a listed node, or joins two nodes that are not listed
pub record IsForest (g : Network) (t : Table) : Type 0 where
  pub rooted : IsRooted g t
  pub open rooted use *
  pub stray : (d : ℕ) → d < g.devices → g.is_closed d ≡ true →
      ((n : ℕ) × (n < g.nodes) × (has_parent g t n ≡ true) × (t.parent n ≡ d))
      ⊎ ((t.is_listed (g.from d) ≡ false) × (t.is_listed (g.to d) ≡ false))

-- no closed device leads out of the listed nodes
abbrev pub IsWhole : Network → Table → Type 0
IsWhole g t = (d : ℕ) → d < g.devices → g.is_closed d ≡ true → t.is_listed (g.from d) ≡ t.is_listed (g.to d)

-- each row is at most what its child rows allow
pub record IsBelowChildren (p : Problem) (t : Table) : Type 0 where
  pub live : (n : ℕ) → n < p.nodes → t.is_listed n ≡ true →
      t.live_cost n ≤ p.dark_weight n + total p.nodes (λ m. if is_child p.net t n m then choice p t m else 0)
  pub dark : (n : ℕ) → n < p.nodes → t.is_listed n ≡ true →
      t.dark_cost n ≤ p.live_weight n + total p.nodes (λ m. if is_child p.net t n m then dark_share p t m else 0)

-- each row is all that its child rows allow
pub record HasExactRows (p : Problem) (t : Table) : Type 0 where
  pub live : (n : ℕ) → n < p.nodes → t.is_listed n ≡ true →
      t.live_cost n ≡ p.dark_weight n + total p.nodes (λ m. if is_child p.net t n m then choice p t m else 0)
  pub dark : (n : ℕ) → n < p.nodes → t.is_listed n ≡ true →
      t.dark_cost n ≡ p.live_weight n + total p.nodes (λ m. if is_child p.net t n m then dark_share p t m else 0)

-- whether the cut has a device among the last k of the node's chain of parents
abbrev pub cut_above : Network → Table → Cut → ℕ → ℕ → Bool
cut_above g t cut zero n = false
cut_above g t cut (suc k) n = has_parent g t n && (cut (t.parent n) || cut_above g t cut k (upper g t n))

-- live by the table
abbrev pub lit : Network → Table → Cut → ℕ → Bool
lit g t cut n = t.is_listed n && not (cut_above g t cut (t.depth n) n)

-- opening the node's parent device costs less than keeping it closed
abbrev pub is_cheaper_open : Problem → Table → ℕ → Bool
is_cheaper_open p t n =
    not (p.marked_ok (t.parent n)) && nat_lt (p.weight (t.parent n) + t.dark_cost n) (t.live_cost n)

-- the cut opens a device where it is marked open, and below a live node where that costs less
pub record OpensWhereCheaper (p : Problem) (t : Table) (cut : Cut) : Type 0 where
  pub below : (n : ℕ) → n < p.nodes → has_parent p.net t n ≡ true →
      cut (t.parent n) ≡ (p.marked_open (t.parent n) || (lit p.net t cut (upper p.net t n) && is_cheaper_open p t n))
  pub apart : (d : ℕ) → d < p.devices → p.is_closed d ≡ true →
      t.is_listed (p.from d) ≡ false → t.is_listed (p.to d) ≡ false → cut d ≡ p.marked_open d
  pub open_ones : (d : ℕ) → d < p.devices → p.is_closed d ≡ false → cut d ≡ false

abbrev pub cost_by_table : Problem → Table → Cut → ℕ
cost_by_table p t cut =
    total p.devices (λ d. if cut d then p.weight d else 0)
    + total p.nodes (λ n. if lit p.net t cut n then p.dark_weight n else p.live_weight n)

-- what the sources' rows and the unlisted parts come to
abbrev pub bound_of : Problem → Table → ℕ
bound_of p t =
    total p.nodes (λ n. if p.is_source n then t.live_cost n else 0)
    + total p.nodes (λ n. if t.is_listed n then 0 else p.live_weight n)
    + total p.devices (λ d. if p.marked_open d && (not (t.is_listed (p.from d)) && not (t.is_listed (p.to d))) then p.weight d else 0)

pub record PassesCheck (p : Problem) (t : Table) (cut : Cut) (c : ℕ) : Type 0 where
  pub feasible : IsFeasible p cut
  pub forest : IsForest p.net t
  pub rows : IsBelowChildren p t
  pub cut_cost : cost_by_table p t cut ≡ c
  pub total_cost : c ≡ bound_of p t

-- the cut is feasible, it costs c, and no feasible cut costs less
pub record IsCertified (p : Problem) (cut : Cut) (c : ℕ) : Type 0 where
  pub feasible : IsFeasible p cut
  pub cost : cost p cut ≡ c
  pub least : IsLowerBound p c

-- the rows of the part at and below a node, as a problem of its own: the node is the one source, and no other part has reports or marks
abbrev pub is_below : Network → Table → ℕ → ℕ → ℕ → Bool
is_below g t r zero n = n == r
is_below g t r (suc k) n = (n == r) || (has_parent g t n && is_below g t r k (upper g t n))

abbrev pub in_part : Network → Table → ℕ → ℕ → Bool
in_part g t r n = t.is_listed n && is_below g t r (t.depth n) n

-- a closed device between two nodes of the part
abbrev pub is_inside : Network → Table → ℕ → ℕ → Bool
is_inside g t r d = g.is_closed d && (in_part g t r (g.from d) && in_part g t r (g.to d))

abbrev pub part_of : Problem → Table → ℕ → Problem
part_of p t r = record p {
  net = record p.net { is_source = λ n. n == r; is_closed = is_inside p.net t r };
  marked_open = λ d. is_inside p.net t r d && p.marked_open d;
  dark_weight = λ n. if in_part p.net t r n then p.dark_weight n else 0;
  live_weight = λ n. if in_part p.net t r n then p.live_weight n else 0;
}

-- what the part costs where its root is dark
abbrev pub dark_cost_of : Problem → Table → ℕ → ℕ
dark_cost_of p t r =
    total p.nodes (λ n. if in_part p.net t r n then p.live_weight n else 0)
    + total p.devices (λ d. if is_inside p.net t r d && p.marked_open d then p.weight d else 0)

-- the flags that a walk from the sources down leaves: what is dark, by the table and the cut
pub record AreDarkFlags (p : Problem) (t : Table) (cut : Cut) (is_dark : ℕ → Bool) : Type 0 where
  pub source : (n : ℕ) → n < p.nodes → p.is_source n ≡ true → is_dark n ≡ false
  pub below : (n : ℕ) → n < p.nodes → has_parent p.net t n ≡ true → is_dark n ≡ (is_dark (upper p.net t n) || cut (t.parent n))
  pub unlisted : (n : ℕ) → n < p.nodes → t.is_listed n ≡ false → is_dark n ≡ true

-- the cut and the dark flags agree with the rows at each device
pub record AgreeWithRows (p : Problem) (t : Table) (cut : Cut) (is_dark : ℕ → Bool) : Type 0 where
  pub flags : AreDarkFlags p t cut is_dark
  pub below : (n : ℕ) → n < p.nodes → has_parent p.net t n ≡ true →
      cut (t.parent n) ≡ (p.marked_open (t.parent n) || (not (is_dark (upper p.net t n)) && is_cheaper_open p t n))
  pub apart : (d : ℕ) → d < p.devices → p.is_closed d ≡ true →
      t.is_listed (p.from d) ≡ false → t.is_listed (p.to d) ≡ false → cut d ≡ p.marked_open d
  pub open_ones : (d : ℕ) → d < p.devices → p.is_closed d ≡ false → cut d ≡ false
