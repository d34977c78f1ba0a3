-- Why a row isn't taken.
use Rattle.std.specs.Prelude.{ℕ}
use Rattle.grid_reader.specs.declared.fault.RowFault.{RowFault}
use Rattle.grid_reader.specs.declared.fault.RowFault.TheVariants.{Breaks, Memory}
use Rattle.grid_reader.specs.declared.fault.GridFault.{GridFault}
use Rattle.grid_reader.specs.declared.fault.GridFault.TheVariants as grid_fault
use Rattle.grid_reader.specs.declared.fault.GridRule.{GridRule}

-- what holds of the rule that is broken, if one is
abbrev pub IfBroken : RowFault → (GridRule → Type 0) → Type 0
IfBroken (Breaks rule) P = P rule
IfBroken Memory P = Unit {0}

-- the fault of the text, by the line of the row
abbrev pub fault_at : RowFault → ℕ → GridFault
fault_at (Breaks rule) line = grid_fault.Refused line rule
fault_at Memory line = grid_fault.Memory
