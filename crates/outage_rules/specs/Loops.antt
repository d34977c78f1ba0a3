-- Loops: which closed device is the first to close one, all sources being one point.
use Rattle.std.specs.Prelude.{◌≡◌, ◌≢◌, ◌↔◌, ◌⊎◌, ℕ, zero, suc, ◌<◌, ◌≤◌, Bool, true, false, ◌&&◌, ◌||◌, ◌==◌, nat_lt, Option, Some, None, if◌then◌else◌}
use Rattle.outage_rules.specs.Network.{Network, Walk, IsLive, IsSoundNetwork, IsRadial, nothing, is_live}
use Rattle.outage_rules.specs.Certificate.{Table, IsForest}

-- the network with these nodes as its sources
abbrev pub with_sources : Network → (ℕ → Bool) → Network
with_sources g sources = record g { is_source = sources }

-- the network with these devices closed
abbrev pub with_states : Network → (ℕ → Bool) → Network
with_states g closed = record g { is_closed = closed }

-- the network where the devices from number k on are open
abbrev pub before : Network → ℕ → Network
before g k = with_states g (λ d. nat_lt d k && g.is_closed d)

-- a walk of closed devices joins the nodes: b is live where a is the source
abbrev pub are_joined : Network → ℕ → ℕ → Bool
are_joined g a b = is_live (with_sources g (λ n. n == a)) nothing b

-- closing the device closes a loop: its ends are joined, or both are live
abbrev pub would_loop : Network → ℕ → Bool
would_loop g d = are_joined g (g.from d) (g.to d) || (is_live g nothing (g.from d) && is_live g nothing (g.to d))

-- the device is closed, and it closes a loop with the closed devices before it
abbrev pub loops : Network → ℕ → Bool
loops g d = g.is_closed d && would_loop (before g d) d

-- a number that was found before, or this one where it passes
abbrev pub or_here : Option ℕ → Bool → ℕ → Option ℕ
or_here (Some k) passes n = Some k
or_here None passes n = if passes then Some n else None

-- the first number below a bound that passes
abbrev pub first_below : ℕ → (ℕ → Bool) → Option ℕ
first_below zero test = None
first_below (suc n) test = or_here (first_below n test) (test n) n

-- the first device that closes a loop
unfoldable pub first_loop : Network → Option ℕ
first_loop g = first_below g.devices (loops g)

-- closing the device closes a loop exactly where a walk joins its ends, or where both are live
abbrev pub LoopIsAWalk : Type 0
LoopIsAWalk = (g : Network) (d : ℕ) → IsSoundNetwork g → d < g.devices →
    (would_loop g d ≡ true) ↔ (((k : ℕ) × Walk g nothing k (g.from d) (g.to d)) ⊎ (IsLive g nothing (g.from d) × IsLive g nothing (g.to d)))

-- a network is radial exactly where no device closes a loop
abbrev pub RadialHasNoLoop : Type 0
RadialHasNoLoop = (g : Network) → IsSoundNetwork g → (first_loop g ≡ None) ↔ IsRadial g

-- the first k devices are radial exactly where none of them closes a loop
abbrev pub RadialBefore : Type 0
RadialBefore = (g : Network) (k : ℕ) → IsSoundNetwork g → k ≤ g.devices →
    IsRadial (before g k) ↔ ((d : ℕ) → d < k → loops g d ≡ false)

-- a forest that lists all nodes is of a radial network
abbrev pub ForestIsRadial : Type 0
ForestIsRadial = (g : Network) (t : Table) → IsSoundNetwork g → IsForest g t → ((n : ℕ) → n < g.nodes → t.is_listed n ≡ true) → IsRadial g

-- every source is a root, and no walk joins two roots, but for two sources
pub record AreSeparateRoots (g : Network) (roots : ℕ → Bool) : Type 0 where
  pub within : (n : ℕ) → roots n ≡ true → n < g.nodes
  pub sources : (n : ℕ) → g.is_source n ≡ true → roots n ≡ true
  pub apart : (a b : ℕ) → roots a ≡ true → roots b ≡ true → a ≢ b → (k : ℕ) → Walk g nothing k a b → (g.is_source a ≡ true) × (g.is_source b ≡ true)

-- with such roots as its sources a network is radial exactly where it is radial
abbrev pub RadialByRoots : Type 0
RadialByRoots = (g : Network) (roots : ℕ → Bool) → IsSoundNetwork g → AreSeparateRoots g roots → IsRadial (with_sources g roots) ↔ IsRadial g
