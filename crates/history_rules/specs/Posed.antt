-- The problem that events pose, its diagnosis, and which events are refused after them.
use Rattle.std.specs.Prelude.{[], ◌≡◌, ◌<◌, ⊤, ℕ, Bool, false, ◌==◌, ◌&&◌, not, nat_lt, List, ◌∷◌, length, if◌then◌else◌, Option, Some, None}
use Rattle.outage_rules.specs.Sum.{total}
use Rattle.outage_rules.specs.Network.{Problem, Cut}
use Rattle.outage_rules.specs.Reference.{least_cost, reference_cut}
use Rattle.outage_rules.specs.Loops.{would_loop}
use Rattle.grid_model.specs.Parts.{Parts}
use Rattle.grid_model.specs.Places.{node_of}
use Rattle.grid_model.specs.Problem.{posed}
use Rattle.grid_model.specs.declared.history.Event.{Event}
use Rattle.grid_model.specs.declared.history.What.{What}
use Rattle.grid_model.specs.declared.history.What.TheVariants.{Call, Gasp, PingDown, PingUp, Powerup, Confirm, Restore, Order, Clock}
use Rattle.grid_model.specs.declared.history.Want.{Want}
use Rattle.grid_model.specs.declared.history.Want.TheVariants as want
use Rattle.grid_model.specs.declared.history.Refusal.{Refusal}
use Rattle.grid_model.specs.declared.history.Refusal.TheVariants.{Backwards, NotClosed, Loop}
use Rattle.history_rules.specs.State.{now, is_closed, mark_of, network_after}
use Rattle.history_rules.specs.Evidence.{dark_weight, live_weight}

-- the sum of the meters' weights at a node
abbrev pub at_node : Parts → (ℕ → ℕ) → ℕ → ℕ
at_node g weight n = total (length g.meters) (λ m. if node_of g m == n then weight m else 0)

unfoldable pub problem_after : Parts → List Event → Problem
problem_after g h = posed g (is_closed g h) (mark_of g h) (at_node g (dark_weight g h)) (at_node g (live_weight g h))

-- the least cost of a feasible set of opened devices
unfoldable pub least_after : Parts → List Event → ℕ
least_after g h = least_cost (problem_after g h)

-- the diagnosis: of the feasible sets of least cost, the one under which fewest nodes are dark
unfoldable pub diagnosis_after : Parts → List Event → Cut
diagnosis_after g h = reference_cut (problem_after g h)

-- a confirmation or a restoration of an open device
abbrev pub names_open : Parts → List Event → What → Bool
names_open g h (Confirm x c) = not (is_closed g h x.0)
names_open g h (Restore x) = not (is_closed g h x.0)
names_open g h _ = false

-- the closing of an open device that closes a loop
abbrev pub loops_by : Parts → List Event → ℕ → Want → Bool
loops_by g h d want.Opened = false
loops_by g h d want.Closed = not (is_closed g h d) && would_loop (network_after g h) d

abbrev pub loops : Parts → List Event → What → Bool
loops g h (Order x w) = loops_by g h x.0 w
loops g h _ = false

-- the first rule that refuses the event after these, if one does
unfoldable pub refusal_of : Parts → List Event → Event → Option Refusal
refusal_of g h e =
    if nat_lt e.time.0 (now h) then Some Backwards
    else (if names_open g h e.what then Some NotClosed
    else (if loops g h e.what then Some Loop else None))

-- an event that isn't refused joins the others
abbrev pub joined_by : List Event → Event → Option Refusal → List Event
joined_by h e None = e ∷ h
joined_by h e (Some rule) = h

abbrev pub joined : Parts → List Event → Event → List Event
joined g h e = joined_by h e (refusal_of g h e)

-- the meter or the device that the event names is of the network
abbrev pub IsOfGrid : Parts → What → Type 0
IsOfGrid g (Call m) = m.0 < length g.meters
IsOfGrid g (Gasp m) = m.0 < length g.meters
IsOfGrid g (PingDown m) = m.0 < length g.meters
IsOfGrid g (PingUp m) = m.0 < length g.meters
IsOfGrid g (Powerup m) = m.0 < length g.meters
IsOfGrid g (Confirm d c) = d.0 < length g.devices
IsOfGrid g (Restore d) = d.0 < length g.devices
IsOfGrid g (Order d w) = d.0 < length g.devices
IsOfGrid g Clock = ⊤

-- each event is of the network, and was not refused after the ones before it
abbrev pub IsHistory : Parts → List Event → Type 0
IsHistory g [] = ⊤
IsHistory g (e ∷ h) = IsOfGrid g e.what × (refusal_of g h e ≡ None) × IsHistory g h
