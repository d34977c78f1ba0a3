-- The words of an event text.
use Rattle.std.specs.Prelude.{ℕ, Bool, true, false, List, Option, Some, None, if◌then◌else◌, codes}
use Rattle.std.specs.Str.{bytes_eq}
use Rattle.grid_model.specs.declared.history.Confirmed.{Confirmed}
use Rattle.grid_model.specs.declared.history.Confirmed.TheVariants.{Opened, Fine, Cleared}
use Rattle.event_reader.specs.declared.words.EventWord.{EventWord}
use Rattle.event_reader.specs.declared.words.EventWord.TheVariants.{Call, Gasp, Ping, Powerup, Confirm, Restore, Open, Close, Clock}

-- the text of a word
abbrev pub spelling : EventWord → List ℕ
spelling Call = codes "call"
spelling Gasp = codes "gasp"
spelling Ping = codes "ping"
spelling Powerup = codes "powerup"
spelling Confirm = codes "confirm"
spelling Restore = codes "restore"
spelling Open = codes "open"
spelling Close = codes "close"
spelling Clock = codes "clock"

-- whether a ping was answered
abbrev pub answer_named : List ℕ → Option Bool
answer_named word =
    if bytes_eq word (codes "up") then Some true
    else (if bytes_eq word (codes "down") then Some false else None)

-- what a crew says of a device
abbrev pub finding_named : List ℕ → Option Confirmed
finding_named word =
    if bytes_eq word (codes "open") then Some Opened
    else (if bytes_eq word (codes "ok") then Some Fine
    else (if bytes_eq word (codes "clear") then Some Cleared else None))
