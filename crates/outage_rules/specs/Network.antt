-- A switched network with its reports, and which of its nodes are live.
use Rattle.std.specs.Prelude.{◌≡◌, ◌≢◌, ℕ, zero, suc, ◌<◌, ◌≤◌, Bool, true, false, ◌&&◌, ◌||◌, not, ◌==◌, ◌⊎◌}
use Rattle.outage_rules.specs.Sum.{some_below}

-- nodes and devices are numbered from 0; each device has two ends
pub record Network : Type 0 where
  pub nodes : ℕ
  pub devices : ℕ
  pub from : ℕ → ℕ
  pub to : ℕ → ℕ
  pub is_source : ℕ → Bool
  pub is_closed : ℕ → Bool

-- the ends are nodes and differ, and the sources are nodes
pub record IsSoundNetwork (g : Network) : Type 0 where
  pub from : (d : ℕ) → d < g.devices → g.from d < g.nodes
  pub to : (d : ℕ) → d < g.devices → g.to d < g.nodes
  pub apart : (d : ℕ) → d < g.devices → g.from d ≢ g.to d
  pub sources : (n : ℕ) → g.is_source n ≡ true → n < g.nodes

-- what opening a device costs, which devices are marked, and what the reports at each node weigh
pub record Problem : Type 0 where
  pub net : Network
  pub open net use *
  pub weight : ℕ → ℕ
  pub marked_open : ℕ → Bool
  pub marked_ok : ℕ → Bool
  pub dark_weight : ℕ → ℕ
  pub live_weight : ℕ → ℕ

-- a weight is at least 1, and only a closed device is marked, in one way
pub record IsSound (p : Problem) : Type 0 where
  pub net : IsSoundNetwork p.net
  pub open net use *
  pub weights : (d : ℕ) → d < p.devices → 1 ≤ p.weight d
  pub marks : (d : ℕ) → d < p.devices → p.marked_open d ≡ true → (p.is_closed d ≡ true) × (p.marked_ok d ≡ false)

-- a set of devices, as a test
abbrev pub Cut : Type 0
Cut = ℕ → Bool

-- device d joins a and b, is closed and is not opened by the cut
pub record Joins (g : Network) (cut : Cut) (d a b : ℕ) : Type 0 where
  pub within : d < g.devices
  pub closed : g.is_closed d ≡ true
  pub uncut : cut d ≡ false
  pub ends : ((g.from d ≡ a) × (g.to d ≡ b)) ⊎ ((g.from d ≡ b) × (g.to d ≡ a))

-- a walk of k devices from a to b
abbrev pub Walk : Network → Cut → ℕ → ℕ → ℕ → Type 0
Walk g cut zero a b = a ≡ b
Walk g cut (suc k) a b = (m : ℕ) × (d : ℕ) × Walk g cut k a m × Joins g cut d m b

-- a walk joins the node to a source
abbrev pub IsLive : Network → Cut → ℕ → Type 0
IsLive g cut n = (s : ℕ) × (k : ℕ) × (g.is_source s ≡ true) × Walk g cut k s n

-- the same as a test: a walk of at most k devices joins the node to a source
abbrev pub usable : Network → Cut → ℕ → Bool
usable g cut d = g.is_closed d && not (cut d)

abbrev pub live_within : Network → Cut → ℕ → ℕ → Bool
live_within g cut zero n = g.is_source n
live_within g cut (suc k) n =
    live_within g cut k n
    || some_below g.devices (λ d. usable g cut d
    && ((g.to d == n && live_within g cut k (g.from d)) || (g.from d == n && live_within g cut k (g.to d))))

abbrev pub is_live : Network → Cut → ℕ → Bool
is_live g cut n = live_within g cut g.nodes n

-- the walks that avoid one device
abbrev pub only : ℕ → Cut
only d = λ e. e == d

-- no cut
abbrev pub nothing : Cut
nothing = λ e. false

-- no closed device closes a loop with the others
abbrev pub IsRadial : Network → Type 0
IsRadial g = (d : ℕ) → d < g.devices → g.is_closed d ≡ true →
    (((k : ℕ) → Walk g (only d) k (g.from d) (g.to d) → ⊥) × (IsLive g (only d) (g.from d) → IsLive g (only d) (g.to d) → ⊥))
