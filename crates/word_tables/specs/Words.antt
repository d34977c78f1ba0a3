-- The words of the texts.
use Rattle.std.specs.Prelude.{ℕ, List, [], ◌∷◌, codes}

-- what happens
abbrev pub event_words : List (List ℕ)
event_words =
    codes "call"
    ∷ codes "gasp"
    ∷ codes "ping"
    ∷ codes "powerup"
    ∷ codes "confirm"
    ∷ codes "restore"
    ∷ codes "open"
    ∷ codes "close"
    ∷ codes "clock"
    ∷ []

-- what a device is
abbrev pub kind_words : List (List ℕ)
kind_words =
    codes "fuse"
    ∷ codes "transformer"
    ∷ codes "recloser"
    ∷ codes "breaker"
    ∷ codes "line"
    ∷ codes "switch"
    ∷ codes "tie"
    ∷ []

-- what a network may set
abbrev pub setting_words : List (List ℕ)
setting_words =
    codes "call"
    ∷ codes "gasp"
    ∷ codes "ping_down"
    ∷ codes "ping_up"
    ∷ codes "powerup"
    ∷ codes "live_hold"
    ∷ codes "grace"
    ∷ codes "ok_hold"
    ∷ []

-- why a line of events is refused
abbrev pub rule_words : List (List ℕ)
rule_words =
    codes "TooLong"
    ∷ codes "BadFields"
    ∷ codes "BadWord"
    ∷ codes "BadTime"
    ∷ codes "BadName"
    ∷ codes "UnknownMeter"
    ∷ codes "UnknownDevice"
    ∷ codes "Backwards"
    ∷ codes "NotClosed"
    ∷ codes "Loop"
    ∷ []

-- how the lines of a report begin
abbrev pub report_words : List (List ℕ)
report_words =
    codes "refused"
    ∷ codes "leaves"
    ∷ codes "enters"
    ∷ codes "cost"
    ∷ codes "report"
    ∷ codes "counts"
    ∷ codes "total"
    ∷ codes "outage"
    ∷ codes "crew"
    ∷ codes "unexplained"
    ∷ codes "line"
    ∷ codes "index"
    ∷ codes "end"
    ∷ codes "bounds"
    ∷ codes "cut"
    ∷ codes "row"
    ∷ codes "endbounds"
    ∷ []
