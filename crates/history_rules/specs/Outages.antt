-- The outages that a diagnosis names: one for each of its devices.
use Rattle.std.specs.Prelude.{ℕ, Bool, false, ◌==◌, ◌&&◌, ◌||◌, not, List, length, if◌then◌else◌, Option, Some, None, filter, filter_map, find, sum_by, fold, option_map}
use Rattle.std.specs.List.{list_all, list_any, range_with_len}
use Rattle.outage_rules.specs.Network.{Network, Cut}
use Rattle.grid_model.specs.Parts.{Parts}
use Rattle.grid_model.specs.Places.{meter_at, node_of, device_id}
use Rattle.grid_model.specs.declared.history.Event.{Event}
use Rattle.grid_model.specs.declared.history.Outage.{Outage}
use Rattle.grid_model.specs.declared.history.Stamp.{Stamp}
use Rattle.history_rules.specs.State.{network_after, is_below}
use Rattle.history_rules.specs.Evidence.{dark_since, came_back, earliest}

abbrev pub devices_of : Network → List ℕ
devices_of net = range_with_len 0 net.devices

-- a device of the cut on the walk from its source to the node
abbrev pub is_cut_on_walk : Network → Cut → ℕ → ℕ → Bool
is_cut_on_walk net cut n d = cut d && is_below net d n

-- and each other one on that walk comes before it
abbrev pub is_last_cut : Network → Cut → ℕ → ℕ → Bool
is_last_cut net cut n d =
    is_cut_on_walk net cut n d
    && list_all (λ e. not (is_cut_on_walk net cut n e) || ((e == d) || is_below net e (net.from d))) (devices_of net)

-- the last device of the cut on the walk from its source to the node
abbrev pub last_cut : Network → Cut → ℕ → Option ℕ
last_cut net cut n = find (is_last_cut net cut n) (devices_of net)

-- the last other device of the cut on the walk to the device
abbrev pub cut_above : Network → Cut → ℕ → Option ℕ
cut_above net cut d = last_cut net (λ e. cut e && not (e == d)) (net.from d)

abbrev pub is_at : ℕ → Option ℕ → Bool
is_at d None = false
is_at d (Some e) = e == d

-- the meters that belong to the outage of a device: those whose last cut it is
abbrev pub meters_of : Parts → List Event → Cut → ℕ → List ℕ
meters_of g h cut d = filter (λ m. is_at d (last_cut (network_after g h) cut (node_of g m))) (range_with_len 0 (length g.meters))

-- the earliest time of a dark report of these meters that counts
abbrev pub since_of : Parts → List Event → List ℕ → Option ℕ
since_of g h meters = fold (λ t m. earliest t (dark_since g h m)) None meters

abbrev pub as_stamp : ℕ → Stamp
as_stamp t = record { 0 = t }

abbrev pub customers_of : Parts → ℕ → ℕ
customers_of g m = (meter_at g m).customers

-- the outage of a device; it is nested where a dark signal of one of its meters came back after a restoration
abbrev pub outage_of : Parts → List Event → Cut → ℕ → Outage
outage_of g h cut d = record {
  device = device_id d;
  above = option_map device_id (cut_above (network_after g h) cut d);
  meters = length (meters_of g h cut d);
  customers = sum_by (customers_of g) (meters_of g h cut d);
  since = option_map as_stamp (since_of g h (meters_of g h cut d));
  nested = list_any (came_back g h) (meters_of g h cut d);
}

-- by device number
unfoldable pub outages_after : Parts → List Event → Cut → List Outage
outages_after g h cut = filter_map (λ d. if cut d then Some (outage_of g h cut d) else None) (devices_of (network_after g h))
