-- What a set of devices costs after a history, meter by meter.
use Rattle.std.specs.Prelude.{◌≡◌, ℕ, ◌+◌, List, length, if◌then◌else◌}
use Rattle.outage_rules.specs.Sum.{total}
use Rattle.outage_rules.specs.Network.{Cut}
use Rattle.outage_rules.specs.Diagnosis.{cost}
use Rattle.outage_rules.specs.Meters.{Reports, contradicted}
use Rattle.grid_model.specs.Parts.{Parts}
use Rattle.grid_model.specs.Places.{device_at, node_of}
use Rattle.grid_model.specs.Sound.{IsSoundParts}
use Rattle.grid_model.specs.declared.history.Event.{Event}
use Rattle.history_rules.specs.Evidence.{dark_weight, live_weight}
use Rattle.history_rules.specs.Posed.{problem_after}

-- where the meters stand, and what their reports weigh after the events
abbrev pub reports_after : Parts → List Event → Reports
reports_after g h = record { meters = length g.meters; node = node_of g; dark = dark_weight g h; live = live_weight g h }

-- the weights of the devices that a set opens
abbrev pub own_weight : Parts → Cut → ℕ
own_weight g opened = total (length g.devices) (λ d. if opened d then (device_at g d).weight else 0)

-- its cost is their weight, the live weight of each meter that it leaves dark, and the dark weight of each that it leaves live
abbrev pub CostIsByMeters : Type 0
CostIsByMeters = (g : Parts) (h : List Event) (opened : Cut) → IsSoundParts g →
    cost (problem_after g h) opened ≡ own_weight g opened + contradicted (problem_after g h) (reports_after g h) opened
