-- What is kept of the reports of all meters.
use Rattle.std.specs.Prelude.{◌≡◌, ℕ, List, length, replicate, slice_index_or, slice_set, option_map}
use Rattle.grid_model.specs.Parts.{Parts}
use Rattle.grid_model.specs.declared.history.Stamp.{Stamp}
use Rattle.grid_model.specs.declared.history.What.{What}
use Rattle.grid_model.specs.declared.history.What.TheVariants as what
use Rattle.grid_model.specs.declared.parts.MeterId.{MeterId}
use Rattle.history_rules.specs.Slots.{Slots, no_slots, dark_in, live_in, due_in}
use Rattle.evidence.specs.declared.Pull.{Pull}
use Rattle.evidence.specs.declared.slot.Sign.{Sign}
use Rattle.evidence.specs.declared.slot.Sign.TheVariants.{Gasp, PingDown, PingUp, Powerup}

-- what happened where a meter sent this
abbrev pub sign_what : Sign → MeterId → What
sign_what Gasp m = what.Gasp m
sign_what PingDown m = what.PingDown m
sign_what PingUp m = what.PingUp m
sign_what Powerup m = what.Powerup m

-- the slots of a meter, and the time of the last call that named it
pub record Kept : Type 0 where
  pub slots : Slots
  pub at : ℕ

-- the settings of the network, and what is kept of each meter
pub record Evident : Type 0 where
  pub settings : List ℕ
  pub meters : List Kept

abbrev pub nothing_kept : Kept
nothing_kept = record { slots = no_slots; at = 0 }

abbrev pub no_evidence : Parts → Evident
no_evidence g = record { settings = g.settings; meters = replicate (length g.meters) nothing_kept }

abbrev pub kept_of : Evident → ℕ → Kept
kept_of e m = slice_index_or e.meters m nothing_kept

-- the same with these slots of a meter at this time
abbrev pub keeping : Evident → ℕ → Slots → ℕ → Evident
keeping e m slots t = record { settings = e.settings; meters = slice_set e.meters m (record { slots = slots; at = t }) }

-- it is kept of this network
pub record IsEvidenceOf (g : Parts) (e : Evident) : Type 0 where
  pub settings : e.settings ≡ g.settings
  pub each : length e.meters ≡ length g.meters

abbrev pub stamp_at : ℕ → Stamp
stamp_at t = record { 0 = t }

-- what the slots of a meter weigh at their time, and when that changes next by itself
abbrev pub pull_by : Parts → ℕ → Kept → Pull
pull_by g m k = record {
  dark = dark_in g m k.at k.slots;
  live = live_in g m k.at k.slots;
  due = option_map stamp_at (due_in g m k.at k.slots);
}
