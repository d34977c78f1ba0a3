-- What the ledger of a meter tells after all events.
use Rattle.std.specs.Prelude.{◌≡◌, ℕ, Bool, List, None, reverse}
use Rattle.grid_model.specs.declared.history.Event.{Event}
use Rattle.history_rules.specs.Ledger.{interrupted_of, kept_lines, lines_before}

-- what is kept of a meter tells its lines, and whether it is dark
pub record IsKept (m : ℕ) (dark : List Event → Bool) (h : List Event) : Type 0 where
  pub lines : kept_lines m (interrupted_of m dark h) ≡ reverse (lines_before m dark None h)
  pub is_dark : (interrupted_of m dark h).dark ≡ dark h

abbrev pub LedgerIsKept : Type 0
LedgerIsKept = (m : ℕ) (dark : List Event → Bool) (h : List Event) → IsKept m dark h
