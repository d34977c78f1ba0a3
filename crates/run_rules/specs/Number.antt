-- The numbers of the statuses.
use Rattle.std.specs.Prelude.{ℕ}
use Rattle.run_rules.specs.declared.status.Status.{Status}
use Rattle.run_rules.specs.declared.status.Status.TheVariants.{Done, Invalid, Usage, ReadFault, WriteFault, NetworkRefused, ReportRefused, Limit, Memory}

abbrev pub status_number : Status → ℕ
status_number Done = 0
status_number (Invalid rule) = 1
status_number Usage = 2
status_number ReadFault = 3
status_number WriteFault = 4
status_number (NetworkRefused line rule) = 5
status_number (ReportRefused line rule) = 6
status_number (Limit which) = 7
status_number Memory = 8
