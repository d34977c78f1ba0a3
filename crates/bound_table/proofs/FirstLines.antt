-- The lines before the bounds part, and its first line.
use Rattle.std.proofs.Common.{◌≡◌, true, false, ℕ, List, Ok, Err, refl}
use Rattle.grid_model.specs.Parts.{Parts}
use Rattle.bound_table.specs.declared.bounds.BoundRule.{BoundRule}
use Rattle.bound_table.specs.BoundLines.{cost_of}
use Rattle.bound_table.specs.Report.{Before, Inside, Stopped, bare_table, begins_bounds, with_line}

pub first_line-taken : (g : Parts) (k : ℕ) (line : List ℕ) (cost : ℕ) → begins_bounds line ≡ true → cost_of line ≡ Ok cost → with_line g k line Before ≡ Inside (bare_table cost)
first_line-taken g k line cost h e = rw (h, e) refl

pub first_line-refused : (g : Parts) (k : ℕ) (line : List ℕ) (rule : BoundRule) → begins_bounds line ≡ true → cost_of line ≡ Err rule → with_line g k line Before ≡ Stopped k rule
first_line-refused g k line rule h e = rw (h, e) refl

pub line_before : (g : Parts) (k : ℕ) (line : List ℕ) → begins_bounds line ≡ false → with_line g k line Before ≡ Before
line_before g k line h = rw h refl
