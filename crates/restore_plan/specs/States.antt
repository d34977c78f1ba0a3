-- What moves do to the states of the devices, and what is fed then.
use Rattle.std.specs.Prelude.{◌≡◌, ℕ, ◌<◌, Bool, true, false, List, [], ◌∷◌, length, take, slice_index_or, slice_set, Ok}
use Rattle.outage_rules.specs.Network.{Network, nothing, is_live}
use Rattle.outage_rules.specs.Loops.{would_loop}
use Rattle.grid_model.specs.declared.history.Want.{Want}
use Rattle.grid_model.specs.declared.history.Want.TheVariants.{Opened, Closed}
use Rattle.grid_model.specs.Parts.{Parts}
use Rattle.grid_model.specs.Places.{device_id}
use Rattle.grid_model.specs.Network.{network_in}
use Rattle.switching.specs.declared.Change.{Change}
use Rattle.switching.specs.declared.Change.TheVariants.{Opens, Closes}
use Rattle.switching.specs.Decision.{decision}
use Rattle.restore_plan.specs.declared.moves.Move.{Move}

-- the network where the flagged devices are closed
abbrev pub network_at : Parts → List Bool → Network
network_at g closed = network_in g (λ d. slice_index_or closed d false)

-- closed devices join the node to a source
abbrev pub is_fed : Parts → List Bool → ℕ → Bool
is_fed g closed n = is_live (network_at g closed) nothing n

-- the state that is wanted
abbrev pub state_of : Want → Bool
state_of Opened = false
state_of Closed = true

-- the states after a move
abbrev pub after_move : List Bool → Move → List Bool
after_move closed m = slice_set closed m.device.0 (state_of m.want)

-- and after moves
abbrev pub after : List Bool → List Move → List Bool
after closed [] = closed
after closed (m ∷ moves) = after (after_move closed m) moves

-- the states before the move at a place
abbrev pub before : List Bool → List Move → ℕ → List Bool
before closed moves k = after closed (take k moves)

-- the move at a place
abbrev pub move_at : List Move → ℕ → Move
move_at moves k = slice_index_or moves k (record { device = device_id 0; want = Opened })

-- what a move does where it does something
abbrev pub change_of : Want → Change
change_of Opened = Opens
change_of Closed = Closes

-- the switching rule lets the move pass, and it changes its device's state
abbrev pub Passes : Parts → List Bool → Move → Type 0
Passes g closed m = decision m.want (slice_index_or closed m.device.0 false) (would_loop (network_at g closed) m.device.0) ≡ Ok (change_of m.want)

-- the move feeds a node that wasn't fed
abbrev pub Feeds : Parts → List Bool → Move → Type 0
Feeds g closed m = (n : ℕ) × (n < length g.nodes) × (is_fed g closed n ≡ false) × (is_fed g (after_move closed m) n ≡ true)
