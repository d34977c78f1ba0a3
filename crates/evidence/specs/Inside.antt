-- What a contract sees of evidence that is kept in a flat vector.
use Rattle.std.specs.Prelude.{ℕ, suc, List, [], ◌∷◌, All}
use Rattle.evidence.specs.Kept.{Kept, Evident}
use Rattle.evidence.specs.Slot.{kept_in, IsPast, AreModest}
use Rattle.evidence.specs.declared.slot.Slot.{Slot}
use Rattle.evidence.specs.declared.reports.Evidence.TheInside.{Inside}

-- what is kept of the meters from number m on
abbrev pub kept_from : ℕ → List Slot → List Kept
kept_from m [] = []
kept_from m (s ∷ slots) = kept_in m s ∷ kept_from (suc m) slots

abbrev pub evident_of : Inside → Evident
evident_of e = record { settings = e.settings; meters = kept_from 0 e.slots.items }

-- the settings and the times are small enough to be added
pub record IsModestInside (e : Inside) : Type 0 where
  pub modest : AreModest e.settings
  pub past : All IsPast e.slots.items
