use Rattle.std.proofs.Common.{[], ◌∷◌, ◌++◌, ap, ◌∙◌}
use Rattle.grid_model.specs.Names.{mentioned}
use Rattle.grid_reader.specs.Network.{nodes_of, meters_of}
use Rattle.grid_reader.proofs.DraftRows.{held_distinct, node_is, meter_at_node}
use Rattle.grid_reader.proofs.draft.Draft.add_meter.Goals as goal

pub returns-clause-held : goal.returns-clause-held
returns-clause-held c = λ rows lines h.
    let m = c.args.meter in
    let before = c.args.self.now.nodes in
    let node = c.in_ok-node.node in
    let nodes = c.in_ok-node.ensures.nodes in
    let at = c.in_ok-node.ensures.number (held_distinct rows before h.nodes) in
    record {
      nodes = nodes ∙ ap (λ ns. mentioned ns m.node) h.nodes;
      source_names = h.source_names;
      sources = h.sources;
      device_names = h.device_names;
      devices = h.devices;
      closed = h.closed;
      device_lines = h.device_lines;
      meter_names = c.in_ok-mention_once.ensures.names ∙ ap (λ ns. ns ++ m.name ∷ []) h.meter_names;
      meters = c.in_ok-push.ensures.items
          ∙ ap (λ meters. meters ++ meter_at_node m node ∷ []) h.meters
          ∙ ap (λ n. meters_of rows ++ meter_at_node m n ∷ []) (node_is (nodes_of rows) c.mention_node.new.nodes before m.node node at nodes h.nodes);
      settings = h.settings;
      is_set = h.is_set;
    }
