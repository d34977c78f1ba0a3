-- The table and the cut that bounds claim.
use Rattle.std.specs.Prelude.{ℕ, Bool, true, false, ◌==◌, List, [], ◌∷◌, slice_index_or, Option, Some, None, if◌then◌else◌}
use Rattle.std.specs.List.{list_any}
use Rattle.outage_rules.specs.Network.{Cut}
use Rattle.outage_rules.specs.Certificate.{Table}
use Rattle.grid_model.specs.declared.parts.DeviceId.{DeviceId}
use Rattle.bound_table.specs.declared.bounds.BoundRow.{BoundRow}
use Rattle.bound_checker.specs.declared.claims.Claim.{Claim}

-- the cut of devices that are named
abbrev pub cut_of : List DeviceId → Cut
cut_of cuts d = list_any (λ c. c.0 == d) cuts

-- a node without a row
abbrev pub no_claim : Claim
no_claim = record { is_listed = false; parent = 0; depth = 0; live = 0; dark = 0 }

-- the number past the last device stands for no parent
abbrev pub parent_number : ℕ → Option DeviceId → ℕ
parent_number devices None = devices
parent_number devices (Some d) = d.0

abbrev pub claim_of : ℕ → BoundRow → Claim
claim_of devices r = record { is_listed = true; parent = parent_number devices r.parent; depth = r.depth; live = r.live; dark = r.dark }

-- what the first row of a node claims
abbrev pub claim_at : ℕ → List BoundRow → ℕ → Claim
claim_at devices [] n = no_claim
claim_at devices (r ∷ rows) n = if r.node.0 == n then claim_of devices r else claim_at devices rows n

abbrev pub table_with : (ℕ → Claim) → Table
table_with claim = record {
  is_listed = λ n. (claim n).is_listed;
  parent = λ n. (claim n).parent;
  depth = λ n. (claim n).depth;
  live_cost = λ n. (claim n).live;
  dark_cost = λ n. (claim n).dark;
}

-- the rows, where there are so many devices
abbrev pub table_of : ℕ → List BoundRow → Table
table_of devices rows = table_with (claim_at devices rows)

-- the same where there is one claim a node
abbrev pub table_in : List Claim → Table
table_in claims = table_with (λ n. slice_index_or claims n no_claim)

-- a cut as one flag a device
abbrev pub cut_in : List Bool → Cut
cut_in flags d = slice_index_or flags d false
