-- Line by line, the bytes so far are what is printed of the bounds so far.
use Rattle.bound_table.proofs.Spelled.{one_spelling, one_spelling_alone}
use Rattle.bound_table.proofs.laws.bounds_have_one_spelling.Goals as goal

pub returns : goal.returns
returns c = record { part = one_spelling_alone; report = one_spelling }
