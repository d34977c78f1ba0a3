use Rattle.std.proofs.Common.{◌≡◌, ◌∙◌, ap, position, rules}
use Rattle.std.specs.Option.{option_map}
use Rattle.grid_model.specs.Names.{name_eq}
use Rattle.grid_model.proofs.Lookup.{position-map}
use Rattle.grid_model.proofs.grid.Grid.find_meter.Goals as goal

pub returns : goal.returns
returns c =
    let found : option_map (λ d. d.0) c.map.result ≡ c.find.result = search rules in
    rw (← c.self.view_is) (found ∙ c.find.ensures ∙ ap (position (name_eq c.args.name)) c.self.invariant.meters ∙ position-map (λ d. d.name) (name_eq c.args.name) c.self.inside.meters.items)
