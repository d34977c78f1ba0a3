-- What happens in a storm.
use Rattle.std.specs.Prelude.{ℕ, ◌+◌, ◌-◌, ◌%◌, ◌==◌, nat_le, nat_lt, List, [], ◌∷◌, codes, if◌then◌else◌}
use Rattle.grid_maker.specs.Names.{fuse_name, line_name, meter_name, tie_name}
use Rattle.grid_maker.specs.declared.happenings.Happening.{Happening}
use Rattle.grid_maker.specs.declared.happenings.Happening.TheVariants.{Gasp, Call, PingDown, PingUp, Powerup, Restore, ConfirmOk, ConfirmOpen, ConfirmClear, OpenLine, CloseLine, Clock, CloseTie, OpenTie}

-- in a storm over n feeders, by feeder f, transformer k and a number r below 100
unfoldable pub happening : ℕ → ℕ → ℕ → ℕ → Happening
happening n f k r =
    if nat_le r 44 then Gasp else
    if nat_le r 64 then Call else
    if nat_le r 69 then PingDown else
    if nat_le r 74 then PingUp else
    if nat_le r 92 then Powerup else
    if nat_le r 94 then Restore else
    if r == 95 then ConfirmOk else
    if r == 96 then ConfirmOpen else
    if r == 97 then ConfirmClear else
    if r == 98 then (if nat_lt k 10 then OpenLine else CloseLine) else
    if f == n - 1 then Clock else
    if nat_lt k 10 then CloseTie else OpenTie

-- its words: of transformer k at place j of feeder f the meter, of that place the fuse, of the main line one of the
-- lines 1 to 49, or the tie to the next feeder
abbrev pub happening_words : ℕ → ℕ → ℕ → Happening → List (List ℕ)
happening_words f j k Gasp = codes "gasp" ∷ meter_name f j k ∷ []
happening_words f j k Call = codes "call" ∷ meter_name f j k ∷ []
happening_words f j k PingDown = codes "ping" ∷ meter_name f j k ∷ codes "down" ∷ []
happening_words f j k PingUp = codes "ping" ∷ meter_name f j k ∷ codes "up" ∷ []
happening_words f j k Powerup = codes "powerup" ∷ meter_name f j k ∷ []
happening_words f j k Restore = codes "restore" ∷ fuse_name f j ∷ []
happening_words f j k ConfirmOk = codes "confirm" ∷ fuse_name f j ∷ codes "ok" ∷ []
happening_words f j k ConfirmOpen = codes "confirm" ∷ fuse_name f j ∷ codes "open" ∷ []
happening_words f j k ConfirmClear = codes "confirm" ∷ fuse_name f j ∷ codes "clear" ∷ []
happening_words f j k OpenLine = codes "open" ∷ line_name f (1 + j % 49) ∷ []
happening_words f j k CloseLine = codes "close" ∷ line_name f (1 + j % 49) ∷ []
happening_words f j k Clock = codes "clock" ∷ []
happening_words f j k CloseTie = codes "close" ∷ tie_name f ∷ []
happening_words f j k OpenTie = codes "open" ∷ tie_name f ∷ []
