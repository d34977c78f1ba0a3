-- The forms of the command words.
use Rattle.std.specs.Prelude.{ℕ, ◌≤◌, ◌&&◌, ◌||◌, not, nat_lt, Bool, true, false, List, [], ◌∷◌, Option, Some, None, if◌then◌else◌, option_map, map, drop, take, codes, filter_map}
use Rattle.std.specs.List.{list_all, list_any}
use Rattle.std.specs.Str.{bytes_eq}
use Rattle.grid_model.specs.declared.history.Period.{Period}
use Rattle.grid_model.specs.declared.history.Stamp.{Stamp}
use Rattle.event_rules.specs.Decimals.{decimal_within}
use Rattle.event_rules.specs.Lines.{begins_with}
use Rattle.event_rules.specs.Stamps.{stamp_of}
use Rattle.command_words.specs.declared.words.Wish.{Wish}

-- the files of the network and of the events
pub record Places : Type 0 where
  pub net : List ℕ
  pub events : List ℕ

-- what the words ask for: a replay, also of events that are followed as they come; the check of a report; or a trial over so many feeders
pub data Command : Type 0 where
  Replay : (places : Places) (wish : Wish) → Command
  Check : (places : Places) (report : List ℕ) → Command
  Trial : (feeders : ℕ) → Command

-- what a word says, or an option together with the word behind it
pub data Part : Type 0 where
  Place : (word : List ℕ) → Part
  Bounds : Part
  From : (value : List ℕ) → Part
  To : (value : List ℕ) → Part
  Stray : Part

-- an option with its value in one word
abbrev pub valued : List ℕ → Part
valued word =
    if bytes_eq (take 7 word) (codes "--from=") then From (drop 7 word)
    else (if bytes_eq (take 5 word) (codes "--to=") then To (drop 5 word) else Stray)

-- a word that begins with `-` and has more than that byte is an option
abbrev pub is_option : List ℕ → Bool
is_option word = begins_with 45 word && not (bytes_eq word (codes "-"))

-- a word by itself
abbrev pub part_of : List ℕ → Part
part_of word = if is_option word then (if bytes_eq word (codes "--bounds") then Bounds else valued word) else Place word

-- the word by which an option begins whose value is the next word
abbrev pub takes_next : List ℕ → Bool
takes_next word = bytes_eq word (codes "--from") || bytes_eq word (codes "--to")

abbrev pub part_with : List ℕ → List ℕ → Part
part_with word value = if bytes_eq word (codes "--from") then From value else To value

-- the parts of the words behind the command; `--` ends the options, and each word behind it is a place
unfoldable pub parts_of : List (List ℕ) → List Part
parts_of [] = []
parts_of (word ∷ []) = if bytes_eq word (codes "--") then [] else part_of word ∷ []
parts_of (word ∷ next ∷ rest) =
    if bytes_eq word (codes "--") then map Place (next ∷ rest)
    else (if takes_next word then part_with word next ∷ parts_of rest else part_of word ∷ parts_of (next ∷ rest))

abbrev pub place_in : Part → Option (List ℕ)
place_in (Place word) = Some word
place_in part = None

abbrev pub from_in : Part → Option (List ℕ)
from_in (From value) = Some value
from_in part = None

abbrev pub to_in : Part → Option (List ℕ)
to_in (To value) = Some value
to_in part = None

abbrev pub flag_in : Part → Option Part
flag_in Bounds = Some Bounds
flag_in part = None

abbrev pub is_stray : Part → Bool
is_stray Stray = true
is_stray part = false

abbrev pub is_place : Part → Bool
is_place (Place word) = true
is_place part = false

-- whether a flag is given, where it is given at most once
abbrev pub once_at_most : List Part → Option Bool
once_at_most [] = Some false
once_at_most (flag ∷ []) = Some true
once_at_most (flag ∷ more ∷ rest) = None

-- the second that an option gives, if it is given, where it is given at most once and its value is a stamp
abbrev pub second_given : List (List ℕ) → Option (Option ℕ)
second_given [] = Some None
second_given (value ∷ []) = option_map Some (stamp_of value)
second_given (value ∷ more ∷ rest) = None

abbrev pub or_first : Option ℕ → ℕ
or_first None = 0
or_first (Some t) = t

abbrev pub as_stamp : ℕ → Stamp
as_stamp t = record { 0 = t }

-- the second from which a period begins lies before the one at which it ends, where both are given
abbrev pub runs_on : Option ℕ → Option ℕ → Bool
runs_on (Some from) (Some until) = nat_lt from until
runs_on _ _ = true

abbrev pub period_given : Option ℕ → Option ℕ → Period
period_given from until = record { from = as_stamp (or_first from); until = option_map as_stamp until }

-- the wish of a replay: the entries of a line may wait for those of others
abbrev pub wish_with : Bool → Option ℕ → Option ℕ → Option Wish
wish_with with_bounds from until =
    if runs_on from until then Some (record { with_bounds = with_bounds; period = period_given from until; at_once = false }) else None

abbrev pub wish_by : Option Bool → Option (Option ℕ) → Option (Option ℕ) → Option Wish
wish_by (Some with_bounds) (Some from) (Some until) = wish_with with_bounds from until
wish_by _ _ _ = None

-- the wish that parts give, where each of them is of a form
abbrev pub wish_of : List Part → Option Wish
wish_of parts =
    if list_any is_stray parts then None
    else wish_by (once_at_most (filter_map flag_in parts)) (second_given (filter_map from_in parts)) (second_given (filter_map to_in parts))

abbrev pub two_places : List (List ℕ) → Option Places
two_places (net ∷ events ∷ []) = Some (record { net = net; events = events })
two_places _ = None

abbrev pub replay_by : Option Places → Option Wish → Option Command
replay_by (Some places) (Some wish) = Some (Replay places wish)
replay_by _ _ = None

-- replay NET EVENTS, with --bounds, --from T and --to T each at most once
abbrev pub replay_of : List Part → Option Command
replay_of parts = replay_by (two_places (filter_map place_in parts)) (wish_of parts)

abbrev pub check_by : List (List ℕ) → Option Command
check_by (net ∷ events ∷ report ∷ []) = Some (Check (record { net = net; events = events }) report)
check_by _ = None

-- what places come to, without options
abbrev pub places_of : (List (List ℕ) → Option Command) → List Part → Option Command
places_of by parts = if list_all is_place parts then by (filter_map place_in parts) else None

-- check NET EVENTS REPORT, without options
abbrev pub check_of : List Part → Option Command
check_of parts = places_of check_by parts

-- what a place comes to, where it is the only one
abbrev pub one_by : (List ℕ → Option Command) → List (List ℕ) → Option Command
one_by take (word ∷ []) = take word
one_by take _ = None

-- a trial over as many feeders as a word writes, from 1 to 100
abbrev pub trial_over : List ℕ → Option Command
trial_over word = option_map Trial (decimal_within 1 100 word)

-- trial N, without options
abbrev pub trial_of : List Part → Option Command
trial_of parts = places_of (one_by trial_over) parts

-- what is wished of events that are followed: no bounds, the indices of all seconds, and the entries of each line at once
abbrev pub follow_wish : Wish
follow_wish = record { with_bounds = false; period = period_given None None; at_once = true }

-- the replay of a network and of the events that come from standard input
abbrev pub follow_on : List ℕ → Option Command
follow_on net = Some (Replay (record { net = net; events = codes "-" }) follow_wish)

-- follow NET, without options
abbrev pub follow_of : List Part → Option Command
follow_of parts = places_of (one_by follow_on) parts

abbrev pub command_by : List ℕ → List Part → Option Command
command_by word parts =
    if bytes_eq word (codes "replay") then replay_of parts
    else (if bytes_eq word (codes "check") then check_of parts
    else (if bytes_eq word (codes "trial") then trial_of parts else (if bytes_eq word (codes "follow") then follow_of parts else None)))

-- the command of the words behind the program's name, where they are of a form
unfoldable pub command_of : List (List ℕ) → Option Command
command_of [] = None
command_of (program ∷ []) = None
command_of (program ∷ word ∷ rest) = command_by word (parts_of rest)

-- the names that the words put at the places of files are allowed
abbrev pub AllowsFiles : (List ℕ → Type 0) → Command → Type 0
AllowsFiles allows (Replay places wish) = allows places.net × allows places.events
AllowsFiles allows (Check places report) = allows places.net × allows places.events × allows report
AllowsFiles allows (Trial feeders) = Unit {0}

abbrev pub Allows : (List ℕ → Type 0) → Option Command → Type 0
Allows allows None = Unit {0}
Allows allows (Some command) = AllowsFiles allows command

-- a trial is over 1 to 100 feeders
abbrev pub HasFeeders : Command → Type 0
HasFeeders (Trial feeders) = (1 ≤ feeders) × (feeders ≤ 100)
HasFeeders command = Unit {0}
