-- The words of a network text.
use Rattle.std.specs.Prelude.{ℕ, Bool, true, false, List, [], ◌∷◌, Option, Some, None, if◌then◌else◌, codes}
use Rattle.std.specs.Option.{option_map}
use Rattle.std.specs.Str.{bytes_eq}
use Rattle.event_rules.specs.Decimals.{decimal_within}
use Rattle.fault_weights.specs.Kinds.{default_weight}
use Rattle.fault_weights.specs.Rates.{rate_weight}
use Rattle.grid_model.specs.declared.parts.Kind.{Kind}
use Rattle.grid_model.specs.declared.parts.Kind.TheVariants.{Fuse, Transformer, Recloser, Breaker, Line, Switch, Tie}
use Rattle.grid_model.specs.declared.parts.Setting.{Setting}
use Rattle.grid_model.specs.declared.parts.Setting.TheVariants.{Call, Gasp, PingDown, PingUp, Powerup, LiveHold, Grace, OkHold}

-- the kind of a word
abbrev pub kind_named : List ℕ → Option Kind
kind_named word =
    if bytes_eq word (codes "fuse") then Some Fuse
    else (if bytes_eq word (codes "transformer") then Some Transformer
    else (if bytes_eq word (codes "recloser") then Some Recloser
    else (if bytes_eq word (codes "breaker") then Some Breaker
    else (if bytes_eq word (codes "line") then Some Line
    else (if bytes_eq word (codes "switch") then Some Switch
    else (if bytes_eq word (codes "tie") then Some Tie else None))))))

-- the setting of a word
abbrev pub setting_named : List ℕ → Option Setting
setting_named word =
    if bytes_eq word (codes "call") then Some Call
    else (if bytes_eq word (codes "gasp") then Some Gasp
    else (if bytes_eq word (codes "ping_down") then Some PingDown
    else (if bytes_eq word (codes "ping_up") then Some PingUp
    else (if bytes_eq word (codes "powerup") then Some Powerup
    else (if bytes_eq word (codes "live_hold") then Some LiveHold
    else (if bytes_eq word (codes "grace") then Some Grace
    else (if bytes_eq word (codes "ok_hold") then Some OkHold else None)))))))

-- whether a device of this word is closed
abbrev pub state_named : List ℕ → Option Bool
state_named word =
    if bytes_eq word (codes "closed") then Some true
    else (if bytes_eq word (codes "open") then Some false else None)

-- a weight or a number of customers
abbrev pub most_weight : ℕ
most_weight = 1000000

-- the weight itself, or after an `r` a failure rate
abbrev pub weight_or_rate : List ℕ → Option ℕ
weight_or_rate [] = None
weight_or_rate (b ∷ rest) = if bytes_eq (b ∷ []) (codes "r") then option_map rate_weight (decimal_within 1 most_weight rest) else decimal_within 1 most_weight (b ∷ rest)

-- and `-` for the weight of the kind
abbrev pub weight_of : Kind → List ℕ → Option ℕ
weight_of kind text = if bytes_eq text (codes "-") then Some (default_weight kind) else weight_or_rate text

-- the value of a setting: the weight of a report, or seconds
abbrev pub value_of : Setting → List ℕ → Option ℕ
value_of Call text = decimal_within 1 most_weight text
value_of Gasp text = decimal_within 1 most_weight text
value_of PingDown text = decimal_within 1 most_weight text
value_of PingUp text = decimal_within 1 most_weight text
value_of Powerup text = decimal_within 1 most_weight text
value_of LiveHold text = decimal_within 0 10000000 text
value_of Grace text = decimal_within 0 10000000 text
value_of OkHold text = decimal_within 0 10000000 text
