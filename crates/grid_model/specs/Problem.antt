-- The problem that switching states, marks and weights of reports pose.
use Rattle.std.specs.Prelude.{ℕ, Bool, true, false, List, slice_index, slice_index_or}
use Rattle.outage_rules.specs.Network.{Problem}
use Rattle.grid_model.specs.declared.history.Mark.{Mark}
use Rattle.grid_model.specs.declared.history.Mark.TheVariants.{Nothing, Opened, Fine}
use Rattle.grid_model.specs.Parts.{Parts}
use Rattle.grid_model.specs.Places.{device_at}
use Rattle.grid_model.specs.Network.{network_in}

-- whether the mark says that the device opened
abbrev pub says_opened : Mark → Bool
says_opened Nothing = false
says_opened Opened = true
says_opened Fine = false

-- whether the mark says that it didn't
abbrev pub says_fine : Mark → Bool
says_fine Nothing = false
says_fine Opened = false
says_fine Fine = true

-- the mark of a device
abbrev pub mark_at : List Mark → ℕ → Mark
mark_at marks d = slice_index_or marks d Nothing

-- which devices are closed, how each is marked, and what the dark and the live reports at each node weigh
abbrev pub posed : Parts → (ℕ → Bool) → (ℕ → Mark) → (ℕ → ℕ) → (ℕ → ℕ) → Problem
posed g closed mark dark live = record {
  net = network_in g closed;
  weight = λ d. (device_at g d).weight;
  marked_open = λ d. says_opened (mark d);
  marked_ok = λ d. says_fine (mark d);
  dark_weight = dark;
  live_weight = live;
}

-- the same by lists: one state and one mark a device, one dark and one live weight a node
abbrev pub problem_of : Parts → List Bool → List Mark → List ℕ → List ℕ → Problem
problem_of g closed marks dark live = posed g (λ d. slice_index_or closed d false) (mark_at marks) (slice_index dark) (slice_index live)
