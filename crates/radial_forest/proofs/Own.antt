-- A forest is of the devices that it has closed.
use Rattle.std.proofs.Common.{Bool, sym, subst, List}
use Rattle.grid_model.specs.Parts.{Parts}
use Rattle.radial_forest.specs.Forested.{Forested, IsForestOf}

pub own_flags : (g : Parts) (closed : List Bool) (f : Forested) → IsForestOf g closed f → IsForestOf g f.closed f
own_flags g closed f h = subst (λ xs. IsForestOf g xs f) (sym h.states) h
