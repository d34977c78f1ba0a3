-- What sound parts make.
use Rattle.std.specs.Prelude.{◌≡◌, ℕ, Bool, false, List, length, slice_index_or}
use Rattle.outage_rules.specs.Network.{IsSoundNetwork, IsSound}
use Rattle.grid_model.specs.Parts.{Parts}
use Rattle.grid_model.specs.Sound.{IsSoundParts}
use Rattle.grid_model.specs.Network.{network_in, network_of, problem_with}
use Rattle.grid_model.specs.Started.{started}

-- sound parts make a sound network
abbrev pub NetworkIsSound : Type 0
NetworkIsSound = (g : Parts) → IsSoundParts g → IsSoundNetwork (network_of g)

-- and pose a sound problem, whatever reports of darkness there are
abbrev pub ProblemIsSound : Type 0
ProblemIsSound = (g : Parts) (dark : ℕ → ℕ) → IsSoundParts g → IsSound (problem_with g dark)

-- in other starting states the network is the one where these devices are closed
abbrev pub StartingNetwork : Type 0
StartingNetwork = (g : Parts) (closed : List Bool) → length closed ≡ length g.devices →
    network_of (record g { devices = started g.devices closed }) ≡ network_in g (λ d. slice_index_or closed d false)
