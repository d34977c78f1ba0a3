-- The text of a network that is made: feeders that are alike, and ties between them.
use Rattle.std.specs.Prelude.{ℕ, ◌+◌, ◌-◌, ◌%◌, List, [], ◌∷◌, ◌++◌, codes, decimal, flat_map}
use Rattle.std.specs.List.{range_with_len}
use Rattle.event_rules.specs.Rows.{row}
use Rattle.grid_maker.specs.Names.{source_name, breaker_name, place_name, line_name, fuse_name, branch_name, transformer_name, service_name, meter_name, tie_name}

-- the texts of so many numbers, one after another, from the first number on
unfoldable pub each : (ℕ → List ℕ) → ℕ → ℕ → List ℕ
each text first count = flat_map text (range_with_len first count)

-- a device that weighs what its kind weighs
abbrev pub device_row : List ℕ → List ℕ → List ℕ → List ℕ → List ℕ → List ℕ
device_row name kind from to state = row (codes "device" ∷ name ∷ kind ∷ from ∷ to ∷ state ∷ codes "-" ∷ [])

abbrev pub source_row : ℕ → List ℕ
source_row f = row (codes "source" ∷ source_name f ∷ [])

-- the breaker joins the source to the first place
abbrev pub breaker_row : ℕ → List ℕ
breaker_row f = device_row (breaker_name f) (codes "breaker") (source_name f) (place_name f 0) (codes "closed")

-- a line joins place j to the one before it
abbrev pub line_row : ℕ → ℕ → List ℕ
line_row f j = device_row (line_name f j) (codes "line") (place_name f (j - 1)) (place_name f j) (codes "closed")

-- a fuse joins place j to the branch behind it
abbrev pub fuse_row : ℕ → ℕ → List ℕ
fuse_row f j = device_row (fuse_name f j) (codes "fuse") (place_name f j) (branch_name f j) (codes "closed")

-- a transformer joins the branch to the node of a meter
abbrev pub transformer_row : ℕ → ℕ → ℕ → List ℕ
transformer_row f j k = device_row (transformer_name f j k) (codes "transformer") (branch_name f j) (service_name f j k) (codes "closed")

-- a meter serves one, two or three customers
abbrev pub meter_row : ℕ → ℕ → ℕ → List ℕ
meter_row f j k = row (codes "meter" ∷ meter_name f j k ∷ service_name f j k ∷ decimal (1 + k % 3) ∷ [])

abbrev pub service_rows : ℕ → ℕ → ℕ → List ℕ
service_rows f j k = transformer_row f j k ++ meter_row f j k

-- a fuse, and twenty transformers with their meters
unfoldable pub branch_rows : ℕ → ℕ → List ℕ
branch_rows f j = fuse_row f j ++ each (service_rows f j) 0 20

-- the source, the breaker, and the lines to places 1 to 49
unfoldable pub main_rows : ℕ → List ℕ
main_rows f = source_row f ++ breaker_row f ++ each (line_row f) 1 49

-- the main line, and the branches of places 0 to 49
unfoldable pub feeder_rows : ℕ → List ℕ
feeder_rows f = main_rows f ++ each (branch_rows f) 0 50

-- a tie joins the last place of a feeder to that of the next one
abbrev pub tie_row : ℕ → List ℕ
tie_row f = device_row (tie_name f) (codes "tie") (place_name f 49) (place_name (f + 1) 49) (codes "open")

-- n feeders, and the ties between them
unfoldable pub network_text : ℕ → List ℕ
network_text n = each feeder_rows 0 n ++ each tie_row 0 (n - 1)
