-- What is written: the output of a replay, and the verdict of a check.
use Rattle.std.specs.Prelude.{ℕ, Bool, List, [], ◌∷◌, ◌++◌, ◌<◌, ◌&&◌, nat_le, length, if◌then◌else◌, codes, ⊤}
use Rattle.outage_rules.specs.Network.{Problem}
use Rattle.grid_model.specs.Parts.{Parts}
use Rattle.grid_model.specs.declared.history.Event.{Event}
use Rattle.event_rules.specs.Rows.{row}
use Rattle.history_rules.specs.Posed.{problem_after}
use Rattle.event_rules.specs.Lines.{lines}
use Rattle.history_rules.specs.Run.{counted, lines_within, history_of}
use Rattle.history_rules.specs.Output.{entries, replay_text}
use Rattle.history_rules.specs.Report.{report_text, refused_in}
use Rattle.bound_table.specs.Table.{Table}
use Rattle.bound_table.specs.Printed.{device_name, node_name, bounds_text}
use Rattle.bound_table.specs.Tight.{tight_bounds}
use Rattle.bound_checker.specs.Claimed.{table_of, cut_of}
use Rattle.bound_checker.specs.Verdict.{verdict_of}
use Rattle.bound_checker.specs.declared.rules.CheckRule.{CheckRule}
use Rattle.bound_checker.specs.declared.rules.CheckRule.TheVariants.{NotClosed, MarkedOk, MissingOpen, BadSource, BadParent, StrayDevice, LiveRow, DarkRow, CutCost, Total}
use Rattle.bound_checker.specs.declared.rules.Place.{Place}
use Rattle.bound_checker.specs.declared.rules.Place.TheVariants.{Node, Device, Nowhere}
use Rattle.bound_checker.specs.declared.rules.Verdict.{Verdict}
use Rattle.bound_checker.specs.declared.rules.Verdict.TheVariants.{Valid, Invalid}
use Rattle.run_rules.specs.Files.{most_events, most_event_lines, lines_taken}
use Rattle.command_words.specs.declared.words.Wish.{Wish}

-- the problem that all events pose
unfoldable pub last_problem : Parts → List ℕ → Problem
last_problem g events = problem_after g (history_of g events)

-- the bounds part, where it is asked for
abbrev pub bounds_part : Parts → List ℕ → Bool → List ℕ
bounds_part g events with_bounds = if with_bounds then bounds_text g (tight_bounds (last_problem g events)) else []

-- what stands behind the entries after events, where so many lines were refused: the report with the indices of the period that is wished, and the bounds where they are
unfoldable pub report_after : Parts → Wish → ℕ → List Event → List ℕ
report_after g wish refused h = report_text g wish.period refused h ++ (if wish.with_bounds then bounds_text g (tight_bounds (problem_after g h)) else [])

-- all that a replay writes
unfoldable pub output : Parts → List ℕ → Wish → List ℕ
output g events wish = replay_text g wish.period events ++ bounds_part g events wish.with_bounds

-- the events are within the limits of bytes and of lines
abbrev pub is_within_limits : List ℕ → Bool
is_within_limits bytes = nat_le (length bytes) most_events && nat_le (length (counted (lines_within most_events bytes))) most_event_lines

-- the entries of the lines that a run takes
unfoldable pub entries_taken : Parts → List ℕ → List ℕ
entries_taken g bytes = entries g 1 [] (lines_taken bytes)

-- all that a replay of these bytes is to write: the output, or the entries alone where a limit is met
unfoldable pub text_due : Parts → List ℕ → Wish → List ℕ
text_due g bytes wish = entries_taken g bytes ++ (if is_within_limits bytes then report_text g wish.period (refused_in g [] (lines bytes)) (history_of g bytes) ++ bounds_part g bytes wish.with_bounds else [])

-- the verdict of the local check on bounds
unfoldable pub verdict_on : Parts → List ℕ → Table → Verdict
verdict_on g events bounds = verdict_of (last_problem g events) (table_of (length g.devices) bounds.rows) (cut_of bounds.cuts) bounds.cost

abbrev pub check_word : CheckRule → List ℕ
check_word NotClosed = codes "NotClosed"
check_word MarkedOk = codes "MarkedOk"
check_word MissingOpen = codes "MissingOpen"
check_word BadSource = codes "BadSource"
check_word BadParent = codes "BadParent"
check_word StrayDevice = codes "StrayDevice"
check_word LiveRow = codes "LiveRow"
check_word DarkRow = codes "DarkRow"
check_word CutCost = codes "CutCost"
check_word Total = codes "Total"

-- the name of the node or the device, and `-` where the whole is meant
abbrev pub place_word : Parts → Place → List ℕ
place_word g (Node n) = node_name g n
place_word g (Device d) = device_name g d
place_word g Nowhere = codes "-"

-- what a check writes
abbrev pub verdict_text : Parts → Verdict → List ℕ
verdict_text g Valid = row (codes "valid" ∷ [])
verdict_text g (Invalid rule place) = row (codes "invalid" ∷ check_word rule ∷ place_word g place ∷ [])

-- the node or the device is of the network
abbrev pub IsPlaceOf : Parts → Place → Type 0
IsPlaceOf g (Node n) = n.0 < length g.nodes
IsPlaceOf g (Device d) = d.0 < length g.devices
IsPlaceOf g Nowhere = ⊤

-- and so is the place of a verdict
abbrev pub IsVerdictOf : Parts → Verdict → Type 0
IsVerdictOf g Valid = ⊤
IsVerdictOf g (Invalid rule place) = IsPlaceOf g place
