-- Laws of reports.
use Rattle.std.specs.Prelude.{◌≡◌, ◌==◌, ◌&&◌, not, Bool, true, ℕ, List, [], ◌∷◌, ◌++◌, flat_map}
use Rattle.std.specs.List.{list_any, list_all}
use Rattle.grid_model.specs.Parts.{Parts}
use Rattle.grid_model.specs.Sound.{IsSoundParts}
use Rattle.bound_table.specs.Table.{Table}
use Rattle.bound_table.specs.Sound.{IsTableOf}
use Rattle.bound_table.specs.Printed.{bounds_text}
use Rattle.bound_table.specs.Report.{begins_bounds, report_reading, IsRead}

-- a line that may stand before the bounds part
abbrev pub is_line_before : List ℕ → Bool
is_line_before line = not (list_any (λ b. b == 10) line) && not (begins_bounds line)

-- lines, each with its LF
abbrev pub ended : List (List ℕ) → List ℕ
ended lines = flat_map (λ line. line ++ 10 ∷ []) lines

-- bounds are read as they were printed, whatever lines stand before them
abbrev pub WrittenIsRead : Type 0
WrittenIsRead = (g : Parts) (t : Table) (before : List (List ℕ)) → IsSoundParts g → IsTableOf g t → list_all is_line_before before ≡ true → report_reading g (ended before ++ bounds_text g t) ≡ IsRead t

-- bounds that are read ascend, and are of the network and within the ranges of numbers
abbrev pub ReadIsOfNetwork : Type 0
ReadIsOfNetwork = (g : Parts) (t : Table) (report : List ℕ) → report_reading g report ≡ IsRead t → IsTableOf g t

-- bytes that are lines that may stand before the bounds part, and then this part
abbrev pub IsBehindLines : List ℕ → List ℕ → Type 0
IsBehindLines report part = (before : List (List ℕ)) × (list_all is_line_before before ≡ true) × (report ≡ ended before ++ part)

-- a report from which bounds are read is lines before the bounds part, and then what is printed of these bounds
abbrev pub ReportHasOneSpelling : Type 0
ReportHasOneSpelling = (g : Parts) (t : Table) (report : List ℕ) → report_reading g report ≡ IsRead t → IsBehindLines report (bounds_text g t)

-- a bounds part from which bounds are read is what is printed of these bounds
abbrev pub BoundsHaveOneSpelling : Type 0
BoundsHaveOneSpelling = (g : Parts) (t : Table) (part : List ℕ) → begins_bounds part ≡ true → report_reading g part ≡ IsRead t → part ≡ bounds_text g t
