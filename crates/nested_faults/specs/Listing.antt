-- The outages as they are listed, by what is noted and told.
use Rattle.std.specs.Prelude.{ℕ, Bool, if◌then◌else◌, List, filter_map, Option, Some, None, option_map}
use Rattle.std.specs.List.{range_with_len}
use Rattle.grid_model.specs.Parts.{Parts}
use Rattle.grid_model.specs.Places.{device_at, device_id}
use Rattle.grid_model.specs.declared.parts.DeviceId.{DeviceId}
use Rattle.grid_model.specs.declared.history.Outage.{Outage}
use Rattle.history_rules.specs.Outages.{is_at}
use Rattle.radial_forest.specs.Traversed.{parent_in}
use Rattle.subtree_costs.specs.Costed.{Costed}
use Rattle.diagnosis.specs.Judgement.{Judgement, opened_by}
use Rattle.nested_faults.specs.LastCuts.{noted_at}
use Rattle.nested_faults.specs.Tallies.{tally_at}
use Rattle.nested_faults.specs.declared.tally.Tally.{Tally}

-- the node hangs by the device
abbrev pub hangs_by : Costed → ℕ → ℕ → Bool
hangs_by c n d = is_at d (option_map (λ x. x.0) (parent_in c.forest.parents n))

-- the end of a device that doesn't hang by it
abbrev pub upper_end : Parts → Costed → ℕ → ℕ
upper_end g c d = if hangs_by c (device_at g d).from.0 d then (device_at g d).to.0 else (device_at g d).from.0

-- the outage of a device
abbrev pub outage_in : Parts → Costed → List (Option DeviceId) → List Tally → ℕ → Outage
outage_in g c last tallies d =
    let t = tally_at tallies d in
    record {
      device = device_id d;
      above = noted_at last (upper_end g c d);
      meters = t.meters;
      customers = t.customers;
      since = t.since;
      nested = t.nested;
    }

-- those of the opened devices below a bound
abbrev pub outages_in : Parts → Costed → Judgement → List (Option DeviceId) → List Tally → ℕ → List Outage
outages_in g c j last tallies bound =
    filter_map (λ d. if opened_by j d then Some (outage_in g c last tallies d) else None) (range_with_len 0 bound)
