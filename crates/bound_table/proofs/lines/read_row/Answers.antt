-- The row of texts that are in order.
use Rattle.std.proofs.Common.{rules, ◌≡◌, ◌∙◌, true, Some}
use Rattle.grid_model.specs.Name.{is_name}
use Rattle.event_rules.specs.Decimals.{decimal_within}
use Rattle.bound_table.specs.Sound.{most_cost, most_depth}
use Rattle.bound_table.specs.BoundLines.{is_parent, parent_of}
use Rattle.bound_table.specs.Parents.{parent_named}
use Rattle.bound_table.proofs.RowTexts.{row_of-read}
use Rattle.bound_table.proofs.lines.read_row.Goals as goal

pub returns : goal.returns
returns c =
    let node : is_name c.args.texts.node.now ≡ true = search rules in
    let parent : is_parent c.args.texts.parent.now ≡ true = search rules in
    let named : parent_of c.args.grid.now c.args.texts.parent.now ≡ parent_named c.args.grid.now c.in_ok-parent.parent = search rules in
    let depth : decimal_within 0 most_depth c.args.texts.depth.now ≡ Some c.in_ok-depth.depth = search rules in
    let live : decimal_within 0 most_cost c.args.texts.live.now ≡ Some c.in_ok-live.live = search rules in
    let dark : decimal_within 0 most_cost c.args.texts.dark.now ≡ Some c.in_ok-dark.dark = search rules in
    let name : c.in_ok-node.node ≡ c.args.texts.node.now = search rules in
    c.find_row.ensures ∙ rw name
    (row_of-read c.args.grid.now c.args.texts.node.now c.args.texts.parent.now c.args.texts.depth.now c.args.texts.live.now c.args.texts.dark.now c.in_ok-parent.parent c.in_ok-depth.depth c.in_ok-live.live c.in_ok-dark.dark
    node parent named depth live dark)
