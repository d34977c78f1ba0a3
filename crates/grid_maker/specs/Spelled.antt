-- The name of a part of a network that is made.
use Rattle.std.specs.Prelude.{ℕ, List}
use Rattle.grid_maker.specs.Names.{source_name, breaker_name, place_name, line_name, fuse_name, branch_name, transformer_name, service_name, meter_name, tie_name}
use Rattle.grid_maker.specs.declared.names.Part.{Part}
use Rattle.grid_maker.specs.declared.names.Part.TheVariants.{Source, Breaker, Place, Line, Fuse, Branch, Transformer, Service, Meter, Tie}

abbrev pub spelled : Part → List ℕ
spelled (Source f) = source_name f
spelled (Breaker f) = breaker_name f
spelled (Place f j) = place_name f j
spelled (Line f j) = line_name f j
spelled (Fuse f j) = fuse_name f j
spelled (Branch f j) = branch_name f j
spelled (Transformer f j k) = transformer_name f j k
spelled (Service f j k) = service_name f j k
spelled (Meter f j k) = meter_name f j k
spelled (Tie f) = tie_name f
