-- What a contract sees of the ledger.
use Rattle.std.specs.Prelude.{ℕ, false, List, length, slice_index_or, slice_set, flat_map}
use Rattle.std.specs.List.{range_with_len}
use Rattle.grid_model.specs.declared.history.Line.{Line}
use Rattle.history_rules.specs.Ledger.{Interrupted, interrupted_first, kept_lines}

-- what is kept of each meter's interruptions, and for how many more ended lines there is room
pub record Ledgered : Type 0 where
  pub meters : List Interrupted
  pub spare : ℕ

abbrev pub interrupted_at : Ledgered → ℕ → Interrupted
interrupted_at l m = slice_index_or l.meters m (interrupted_first false)

-- the meters where this is kept of one of them
abbrev pub with_meter : Ledgered → ℕ → Interrupted → List Interrupted
with_meter l m k = slice_set l.meters m k

-- all lines, by meter, then by time
abbrev pub lines_kept : Ledgered → List Line
lines_kept l = flat_map (λ m. kept_lines m (interrupted_at l m)) (range_with_len 0 (length l.meters))
