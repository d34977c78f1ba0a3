-- Outages by their places in a list.
use Rattle.std.specs.Prelude.{ℕ, false, List, None, slice_index_or}
use Rattle.grid_model.specs.declared.history.Outage.{Outage}

abbrev pub no_outage : Outage
no_outage = record { device = record { 0 = 0 }; above = None; meters = 0; customers = 0; since = None; nested = false }

abbrev pub outage_at : List Outage → ℕ → Outage
outage_at all k = slice_index_or all k no_outage
