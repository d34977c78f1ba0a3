-- Which moves isolate a device, and feed again what can be fed.
use Rattle.std.specs.Prelude.{◌≡◌, ℕ, Bool, ◌&&◌, ◌||◌, not, List, [], ◌∷◌, ◌++◌, length, map, slice_index_or, false, Some, None}
use Rattle.outage_rules.specs.Loops.{first_below}
use Rattle.grid_model.specs.declared.history.Want.TheVariants.{Opened, Closed}
use Rattle.grid_model.specs.Parts.{Parts}
use Rattle.grid_model.specs.Places.{device_at, device_id, node_of}
use Rattle.grid_model.specs.Groups.{places_that}
use Rattle.restore_plan.specs.declared.moves.Move.{Move}
use Rattle.restore_plan.specs.States.{is_fed, after_move, after}

-- exactly one end of the device is fed
abbrev pub has_one_fed_end : Parts → List Bool → ℕ → Bool
has_one_fed_end g closed d =
    (is_fed g closed (device_at g d).from.0 && not (is_fed g closed (device_at g d).to.0))
    || (is_fed g closed (device_at g d).to.0 && not (is_fed g closed (device_at g d).from.0))

-- an open device that isn't barred and has exactly one fed end
abbrev pub is_ready : Parts → (ℕ → Bool) → List Bool → ℕ → Bool
is_ready g barred closed d = (not (barred d) && not (slice_index_or closed d false)) && has_one_fed_end g closed d

-- an order to open a device
abbrev pub opening : ℕ → Move
opening d = record { device = device_id d; want = Opened }

-- the moves that open the closed barred devices, by number
abbrev pub openings : Parts → (ℕ → Bool) → List Bool → List Move
openings g barred closed = map opening (places_that (λ d. barred d && slice_index_or closed d false) (length g.devices))

-- each move closes the ready device of least number, and after the last one none is ready
abbrev pub AreClosings : Parts → (ℕ → Bool) → List Bool → List Move → Type 0
AreClosings g barred closed [] = first_below (length g.devices) (is_ready g barred closed) ≡ None
AreClosings g barred closed (m ∷ moves) =
    (first_below (length g.devices) (is_ready g barred closed) ≡ Some m.device.0) × (m.want ≡ Closed) × AreClosings g barred (after_move closed m) moves

-- the moves of a plan: first those openings, then such closings
abbrev pub AreMoves : Parts → (ℕ → Bool) → List Bool → List Move → Type 0
AreMoves g barred closed moves =
    (closings : List Move) × (moves ≡ openings g barred closed ++ closings) × AreClosings g barred (after closed (openings g barred closed)) closings

-- the meters whose node isn't fed, by number
abbrev pub unfed_meters : Parts → List Bool → List ℕ
unfed_meters g closed = places_that (λ m. not (is_fed g closed (node_of g m))) (length g.meters)

-- there is one list of moves
abbrev pub OnePlan : Type 0
OnePlan = (g : Parts) (barred : ℕ → Bool) (closed : List Bool) (a b : List Move) → AreMoves g barred closed a → AreMoves g barred closed b → a ≡ b
