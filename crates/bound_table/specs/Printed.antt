-- How bounds are printed.
use Rattle.std.specs.Prelude.{ℕ, List, [], ◌∷◌, ◌++◌, Option, Some, None, codes, decimal, slice_index_or, flat_map}
use Rattle.grid_model.specs.Parts.{Parts}
use Rattle.grid_model.specs.Places.{device_at}
use Rattle.grid_model.specs.declared.parts.NodeId.{NodeId}
use Rattle.grid_model.specs.declared.parts.DeviceId.{DeviceId}
use Rattle.event_rules.specs.Rows.{row}
use Rattle.bound_table.specs.declared.bounds.BoundRow.{BoundRow}
use Rattle.bound_table.specs.Table.{Table}

-- the name of a device
abbrev pub device_name : Parts → DeviceId → List ℕ
device_name g d = (device_at g d.0).name

-- the name of a node
abbrev pub node_name : Parts → NodeId → List ℕ
node_name g n = slice_index_or g.nodes n.0 []

-- the device that feeds a node, and `-` where none does
abbrev pub parent_word : Parts → Option DeviceId → List ℕ
parent_word g None = codes "-"
parent_word g (Some d) = device_name g d

-- bounds,COST
abbrev pub cost_text : Table → List ℕ
cost_text t = row (codes "bounds" ∷ decimal t.cost ∷ [])

-- cut,DEVICE
abbrev pub cut_text : Parts → DeviceId → List ℕ
cut_text g d = row (codes "cut" ∷ device_name g d ∷ [])

-- row,NODE,PARENT,DEPTH,LIVE,DARK
abbrev pub row_text : Parts → BoundRow → List ℕ
row_text g r = row (codes "row" ∷ node_name g r.node ∷ parent_word g r.parent ∷ decimal r.depth ∷ decimal r.live ∷ decimal r.dark ∷ [])

-- endbounds
abbrev pub end_text : List ℕ
end_text = row (codes "endbounds" ∷ [])

-- the bounds part of a report
unfoldable pub bounds_text : Parts → Table → List ℕ
bounds_text g t = cost_text t ++ flat_map (cut_text g) t.cuts ++ flat_map (row_text g) t.rows ++ end_text
