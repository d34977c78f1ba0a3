-- The weights of the kinds of devices.
use Rattle.std.specs.Prelude.{ℕ}
use Rattle.grid_model.specs.declared.parts.Kind.{Kind}
use Rattle.grid_model.specs.declared.parts.Kind.TheVariants.{Fuse, Transformer, Recloser, Breaker, Line, Switch, Tie}

-- what it costs to take a device for opened, where its row gives no weight of its own
abbrev pub default_weight : Kind → ℕ
default_weight Fuse = 40
default_weight Transformer = 50
default_weight Recloser = 90
default_weight Breaker = 120
default_weight Line = 150
default_weight Switch = 200
default_weight Tie = 200
