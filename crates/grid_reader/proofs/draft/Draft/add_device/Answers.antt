use Rattle.std.proofs.Common.{false, [], ◌∷◌, ◌++◌, refl, ap, ◌∙◌}
use Rattle.grid_model.specs.Names.{mentioned}
use Rattle.grid_reader.specs.declared.row.Row.TheVariants as row
use Rattle.grid_reader.specs.Opened.{opened}
use Rattle.grid_reader.specs.Network.{nodes_of, node_id, devices_of}
use Rattle.grid_reader.proofs.Mentions.{distinct_after}
use Rattle.grid_reader.proofs.DraftRows.{held_distinct, node_is, upper_is, device_between, same_device, pushed}
use Rattle.grid_reader.proofs.draft.Draft.add_device.Goals as goal

pub returns-clause-held : goal.returns-clause-held
returns-clause-held c = λ rows lines h.
    let d = c.args.device in
    let before = c.args.self.now.nodes in
    let between = c.mention_node.new.nodes in
    let names = nodes_of rows in
    let from = c.in_ok-from.from in
    let to = c.in_ok-to.to in
    let first = c.in_ok-from.ensures.nodes in
    let second = c.in_ok-to.ensures.nodes in
    let distinct = held_distinct rows before h.nodes in
    let held = first ∙ ap (λ ns. mentioned ns d.from) h.nodes in
    let upper = upper_is names between before d.from d.to from (c.in_ok-from.ensures.number distinct) first h.nodes in
    let lower = node_is (mentioned names d.from) c.mention_node-2.new.nodes between d.to to (c.in_ok-to.ensures.number (distinct_after before between d.from distinct first)) second held in
    let said = device_between d d.starts_closed (node_id (row.Device d ∷ rows) d.from) (node_id (row.Device d ∷ rows) d.to) in
    record {
      nodes = second ∙ ap (λ ns. mentioned ns d.to) held;
      source_names = h.source_names;
      sources = h.sources;
      device_names = c.in_ok-mention_once.ensures.names ∙ ap (λ ns. ns ++ d.name ∷ []) h.device_names;
      devices = pushed opened c.args.self.now.devices.items c.push.new.self.items (devices_of rows) said (device_between d false from to) h.devices c.in_ok-push.ensures.items (same_device d false from _ to _ upper lower);
      closed = pushed (λ x. x.starts_closed) c.args.self.now.closed.items c.push-2.new.self.items (devices_of rows) said d.starts_closed h.closed c.in_ok-push-2.ensures.items refl;
      device_lines = c.in_ok-push-3.ensures.items ∙ ap (λ ls. ls ++ c.args.line ∷ []) h.device_lines;
      meter_names = h.meter_names;
      meters = h.meters;
      settings = h.settings;
      is_set = h.is_set;
    }
