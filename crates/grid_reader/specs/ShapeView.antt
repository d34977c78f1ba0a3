-- What a shape is by the bytes of its texts.
use Rattle.grid_reader.specs.Shapes.{Shape, SourceShape, DeviceShape, MeterShape, SettingShape}
use Rattle.grid_reader.specs.declared.shapes.Shape as found
use Rattle.grid_reader.specs.declared.shapes.Shape.TheVariants.{Source, Device, Meter, Setting}

abbrev pub shape_view : found.Shape → Shape
shape_view (Source node) = SourceShape node.now
shape_view (Device name kind from to is_closed weight) = DeviceShape name.now kind.now from.now to.now is_closed weight.now
shape_view (Meter name node customers) = MeterShape name.now node.now customers.now
shape_view (Setting setting value) = SettingShape setting.now value.now
