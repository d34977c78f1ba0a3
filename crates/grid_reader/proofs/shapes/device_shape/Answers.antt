-- A device in no state.
use Rattle.std.proofs.Common.{rules, ◌∙◌, refl, sym, ap}
use Rattle.std.specs.Prelude.{option_map}
use Rattle.grid_reader.specs.ShapeView.{shape_view}
use Rattle.grid_reader.proofs.FieldPlaces.{stateless}
use Rattle.grid_reader.proofs.shapes.device_shape.Goals as goal

pub returns-in_err-is_closed : goal.returns-in_err-is_closed
returns-in_err-is_closed c = ap (option_map shape_view) c.from_residual.ensures ∙ sym (stateless c.args.fields _ (search rules) refl (sym c.in_err-is_closed.ensures))
