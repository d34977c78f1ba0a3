-- What an order for a device comes to.
use Rattle.std.specs.Prelude.{Bool, true, false, Result, Ok, Err}
use Rattle.grid_model.specs.declared.history.Want.{Want}
use Rattle.grid_model.specs.declared.history.Want.TheVariants.{Opened, Closed}
use Rattle.grid_model.specs.declared.history.Refusal.{Refusal}
use Rattle.grid_model.specs.declared.history.Refusal.TheVariants.{Loop}
use Rattle.switching.specs.declared.Change.{Change}
use Rattle.switching.specs.declared.Change.TheVariants.{Nothing, Opens, Closes}

-- by what is wanted, whether the device is closed, and whether closing it closes a loop
abbrev pub decision : Want → Bool → Bool → Result Change Refusal
decision Opened false loops = Ok Nothing
decision Opened true loops = Ok Opens
decision Closed true loops = Ok Nothing
decision Closed false true = Err Loop
decision Closed false false = Ok Closes
