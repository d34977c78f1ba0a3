use Rattle.std.proofs.Common.{[], ◌∷◌, ◌++◌, ap, ◌∙◌}
use Rattle.grid_model.specs.Names.{mentioned}
use Rattle.grid_reader.specs.Network.{nodes_of, sources_of}
use Rattle.grid_reader.proofs.DraftRows.{held_distinct, node_is}
use Rattle.grid_reader.proofs.draft.Draft.add_source.Goals as goal

pub returns-clause-held : goal.returns-clause-held
returns-clause-held c = λ rows lines h.
    let before = c.args.self.now.nodes in
    let number = c.in_ok-number.number in
    let nodes = c.in_ok-number.ensures.nodes in
    let at = c.in_ok-number.ensures.number (held_distinct rows before h.nodes) in
    record {
      nodes = nodes ∙ ap (λ ns. mentioned ns c.args.node) h.nodes;
      source_names = c.in_ok-mention_once.ensures.names ∙ ap (λ ns. ns ++ c.args.node ∷ []) h.source_names;
      sources = c.in_ok-push.ensures.items
          ∙ ap (λ sources. sources ++ number ∷ []) h.sources
          ∙ ap (λ n. sources_of rows ++ n ∷ []) (node_is (nodes_of rows) c.mention_node.new.nodes before c.args.node number at nodes h.nodes);
      device_names = h.device_names;
      devices = h.devices;
      closed = h.closed;
      device_lines = h.device_lines;
      meter_names = h.meter_names;
      meters = h.meters;
      settings = h.settings;
      is_set = h.is_set;
    }
