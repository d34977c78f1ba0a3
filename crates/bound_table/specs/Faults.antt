-- What a fault says of a report.
use Rattle.std.specs.Prelude.{◌≡◌}
use Rattle.bound_table.specs.declared.bounds.BoundFault.{BoundFault}
use Rattle.bound_table.specs.declared.bounds.BoundFault.TheVariants.{Refused, Memory}
use Rattle.bound_table.specs.Report.{Progress, Stopped, ReportReading, IsRefused}

-- a refusal is that of the report
abbrev pub IsFaultOf : ReportReading → BoundFault → Type 0
IsFaultOf reading (Refused line rule) = reading ≡ IsRefused line rule
IsFaultOf reading Memory = Unit {0}

-- a refusal is where the reading stopped
abbrev pub IsFaultAt : Progress → BoundFault → Type 0
IsFaultAt progress (Refused line rule) = progress ≡ Stopped line rule
IsFaultAt progress Memory = Unit {0}
