-- What is told of the meters at whose nodes one device is noted.
use Rattle.std.specs.Prelude.{◌≡◌, ℕ, ◌<◌, Bool, false, List, length, filter, sum_by, fold, slice_index_or, Option, None, option_map}
use Rattle.std.specs.List.{list_any, range_with_len}
use Rattle.grid_model.specs.Parts.{Parts}
use Rattle.grid_model.specs.Places.{node_of}
use Rattle.grid_model.specs.declared.parts.DeviceId.{DeviceId}
use Rattle.history_rules.specs.Evidence.{earliest}
use Rattle.history_rules.specs.Slots.{since_in, came_back_in}
use Rattle.history_rules.specs.Outages.{is_at, customers_of}
use Rattle.evidence.specs.Kept.{Evident, kept_of}
use Rattle.nested_faults.specs.LastCuts.{noted_at}
use Rattle.nested_faults.specs.declared.tally.Tally.{Tally}

-- of no meters
abbrev pub no_tally : Tally
no_tally = record { meters = 0; customers = 0; since = None; nested = false }

-- what is told by the number of a device
abbrev pub tally_at : List Tally → ℕ → Tally
tally_at tallies d = slice_index_or tallies d no_tally

-- of the meters below a bound, those at a node of which this device is noted
abbrev pub members : Parts → List (Option DeviceId) → ℕ → ℕ → List ℕ
members g last d bound = filter (λ m. is_at d (option_map (λ x. x.0) (noted_at last (node_of g m)))) (range_with_len 0 bound)

-- the earliest time of a dark report of a meter that counted when it was kept
abbrev pub since_kept : Parts → Evident → ℕ → Option ℕ
since_kept g e m = since_in g m (kept_of e m).at (kept_of e m).slots

-- whether a dark signal counted then that a restoration came after
abbrev pub back_kept : Parts → Evident → ℕ → Bool
back_kept g e m = came_back_in g m (kept_of e m).at (kept_of e m).slots

-- it is told of these meters
pub record IsTallyOf (g : Parts) (e : Evident) (meters : List ℕ) (t : Tally) : Type 0 where
  pub count : t.meters ≡ length meters
  pub customers : t.customers ≡ sum_by (customers_of g) meters
  pub since : option_map (λ s. s.0) t.since ≡ fold (λ s m. earliest s (since_kept g e m)) None meters
  pub nested : t.nested ≡ list_any (back_kept g e) meters

-- each is told of those of its device among the meters below a bound
abbrev pub AreTallies : Parts → Evident → List (Option DeviceId) → ℕ → List Tally → Type 0
AreTallies g e last bound tallies = (d : ℕ) → d < length tallies → IsTallyOf g e (members g last d bound) (tally_at tallies d)
