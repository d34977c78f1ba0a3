-- What a contract sees of a ledger that is kept in flat vectors.
use Rattle.std.specs.Prelude.{◌≡◌, ◌==◌, ◌<◌, ◌≤◌, ◌-◌, ◌^◌, ℕ, Bool, false, List, Option, None, length, map, reverse, filter, flat_map, slice_index_or}
use Rattle.std.specs.List.{All, range_with_len}
use Rattle.std.specs.Vec.{vec_len, vec_capacity}
use Rattle.grid_model.specs.declared.history.Stamp.{Stamp}
use Rattle.grid_model.specs.declared.history.Line.{Line}
use Rattle.history_rules.specs.Ledger.{Interrupted, line_from}
use Rattle.interruption_ledger.specs.declared.Ledger.TheInside.{Inside}
use Rattle.interruption_ledger.specs.Ledgered.{Ledgered}

-- the line is one of the meter
abbrev pub is_of : ℕ → Line → Bool
is_of m line = line.meter.0 == m

-- the flag, the start and the ended lines of a meter
abbrev pub interrupted_in : List Bool → List (Option Stamp) → List Line → ℕ → Interrupted
interrupted_in dark starts ended m = record {
  dark = slice_index_or dark m false;
  start = slice_index_or starts m None;
  ended = reverse (filter (is_of m) ended);
}

abbrev pub ledgered_of : Inside → Ledgered
ledgered_of l = record {
  meters = map (interrupted_in l.dark.items l.starts.items l.ended.items) (range_with_len 0 (length l.dark.items));
  spare = vec_capacity l.ended - vec_len l.ended;
}

-- one flag and one place for a start a meter, ended lines of these meters, and no start of a meter whose number doesn't fit
pub record IsLedgerInside (l : Inside) : Type 0 where
  pub each : length l.starts.items ≡ length l.dark.items
  pub within : All (λ line. line.meter.0 < length l.dark.items) l.ended.items
  pub fits : (m : ℕ) → 2 ^ 32 ≤ m → slice_index_or l.starts.items m None ≡ None

-- the lines that have started and not ended, of the meters below a number
abbrev pub open_below : List (Option Stamp) → ℕ → List Line
open_below starts n = flat_map (λ m. line_from m (slice_index_or starts m None) None) (range_with_len 0 n)

abbrev pub open_lines : List (Option Stamp) → List Line
open_lines starts = open_below starts (length starts)
