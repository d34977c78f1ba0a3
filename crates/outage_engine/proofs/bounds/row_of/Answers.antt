use Rattle.std.proofs.Common.{ℕ, cond, get_or, sym, ap, ◌∙◌, Option, Some, None}
use Rattle.outage_rules.specs.Network.{nothing, is_live}
use Rattle.grid_model.specs.declared.parts.DeviceId.{DeviceId}
use Rattle.grid_model.specs.declared.parts.NodeId.{NodeId}
use Rattle.radial_forest.specs.Traversed.{parent_in}
use Rattle.radial_forest.specs.Spreading.{switched}
use Rattle.subtree_costs.specs.declared.rows.Row.{Row}
use Rattle.bound_table.specs.declared.bounds.BoundRow.{BoundRow}
use Rattle.outage_engine.specs.Bounding.{kept_row}
use Rattle.outage_engine.proofs.bounds.row_of.Goals as goal

pub returns-then-is_fed : goal.returns-then-is_fed
returns-then-is_fed g c =
    let same = c.forest-forest.ensures in
    let fed = sym (ap (λ f. is_live (switched c.args.grid.now f.closed) nothing c.args.node.0) same) ∙ sym c.is_fed.ensures ∙ c.if-is_fed.true in
    ap Some
    (ap (λ o. row_by c.args.node o (get_or c.args.depths.now c.args.node.0 0) c.row-row.result) (c.parent.ensures ∙ ap (λ f. parent_in f.parents c.args.node.0) same)
    ∙ ap (row_by c.args.node (parent_in c.args.costs.now.forest.parents c.args.node.0) (get_or c.args.depths.now c.args.node.0 0)) c.row-row.ensures.row)
    ∙ sym (ap (λ b. cond b (Some (kept_row c.args.costs.now c.args.depths.now c.args.node.0)) None) fed)
  where
    row_by : NodeId → Option DeviceId → ℕ → Row → BoundRow
    row_by n o d r = record { node = n; parent = o; depth = d; live = r.live; dark = r.dark }

pub returns-else-is_fed : goal.returns-else-is_fed
returns-else-is_fed g c =
    let same = c.forest-forest.ensures in
    let dead = sym (ap (λ f. is_live (switched c.args.grid.now f.closed) nothing c.args.node.0) same) ∙ sym c.is_fed.ensures ∙ c.if-is_fed.false in
    sym (ap (λ b. cond b (Some (kept_row c.args.costs.now c.args.depths.now c.args.node.0)) None) dead)
