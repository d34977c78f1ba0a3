-- The parse of a replay follows our parts, step by step.
use Rattle.std.proofs.Common.{◌≡◌, ◌∙◌, ap, sym, refl, subst, ℕ, Bool, true, false, List, [], ◌∷◌, ◌++◌, Option, Some, None}
use Rattle.std.specs.Prelude.{codes, is_some}
use Rattle.clap.specs.Kinds.{Kinds, or_else}
use Rattle.clap.specs.Walk.{Row, Text, idle, has_row, used}
use Rattle.clap.specs.Faults.{turn_fault, use_fault}
use Rattle.clap.specs.declared.error.kind.ErrorKind.{ErrorKind}
use Rattle.clap.specs.declared.error.kind.ErrorKind.TheVariants as kind
use Rattle.clap.specs.declared.builder.value_parser.Reading.TheVariants.{AsWritten}
use Rattle.clap.specs.declared.parser.matches.ValueSource.TheVariants.{CommandLine}
use Rattle.command_words.specs.Forms.{Part, Place, Bounds, Stray}
use Rattle.command_words.specs.Given.{replay_after}
use Rattle.command_words.specs.Matched.{Read}
use Rattle.command_words.proofs.Taking.{given, stray_ends, place_next, two_taken, bounds_next, bounds_again}
use Rattle.command_words.proofs.Outcome.{left_of, goes_on, ends, or_else-nil}
use Rattle.command_words.proofs.RowsFound.{row_at, has_row_is, used_first, value_row, flag_row, Seen, Complete, seen_net, seen_events, seen_bounds}
use Rattle.command_words.proofs.Turns as turn
use Rattle.command_words.proofs.Turns.{Pending, at, held, owed, kept, replay_shape, replay_rules, net_rule, events_rule, bounds_rule, from_rule, to_rule, Placed}

abbrev pub position : List Text → ℕ
position [] = 1
position (a ∷ []) = 2
position (a ∷ b ∷ rest) = 3

-- at most two places
abbrev pub Few : List Text → Type 0
Few [] = Unit {0}
Few (a ∷ []) = Unit {0}
Few (a ∷ b ∷ []) = Unit {0}
Few (a ∷ b ∷ c ∷ rest) = ⊥

-- the parse of the words gives what our parts give, from wherever it stands
abbrev pub Follows : Read → Bool → List Text → List Part → Type 0
Follows read t words parts = (rows : List Row) (p : Pending) (ps : List Text) (b : Bool) (f u : Option Text)
    → owed rows p ≡ [] → Seen (kept rows p) ps b f u → Few ps
    → left_of replay_shape read (at rows p idle (position ps) t) words ≡ replay_after (given ps b f u) parts

-- what is read of the rows of a command is the command
abbrev pub Reads : Read → Type 0
Reads read = (rows : List Row) (a e : Text) (b : Bool) (f u : Option Text) → Complete rows (a ∷ e ∷ []) b f u
    → read rows ≡ replay_after (given (a ∷ e ∷ []) b f u) []

pub absent : (id : Text) (rows : List Row) → row_at id rows ≡ None → has_row id rows ≡ false
absent id rows e = has_row_is id rows ∙ ap (λ (o : Option Row). is_some o) e

pub present : (id : Text) (rows : List Row) (r : Row) → row_at id rows ≡ Some r → has_row id rows ≡ true
present id rows r e = has_row_is id rows ∙ ap (λ (o : Option Row). is_some o) e

-- ---- places

net_owed : (rows : List Row) (w : Text) → row_at (codes "net") rows ≡ None → owed rows (Some (codes "net", w ∷ [])) ≡ []
unfolding owed
net_owed rows w e = turn.use_net rows w (absent (codes "net") rows e)

net_kept : (rows : List Row) (w : Text) → row_at (codes "net") rows ≡ None → kept rows (Some (codes "net", w ∷ [])) ≡ rows ++ value_row (codes "net") w ∷ []
unfolding kept
net_kept rows w e = used_first (codes "net") AsWritten CommandLine (w ∷ []) rows e

events_owed : (rows : List Row) (w : Text) → row_at (codes "events") rows ≡ None → owed rows (Some (codes "events", w ∷ [])) ≡ []
unfolding owed
events_owed rows w e = turn.use_events rows w (absent (codes "events") rows e)

events_kept : (rows : List Row) (w : Text) → row_at (codes "events") rows ≡ None → kept rows (Some (codes "events", w ∷ [])) ≡ rows ++ value_row (codes "events") w ∷ []
unfolding kept
events_kept rows w e = used_first (codes "events") AsWritten CommandLine (w ∷ []) rows e

pub place_step : (read : Read) (t : Bool) (w : Text) (words : List Text) (parts : List Part) → Placed t w
    → Follows read t words parts → Follows read t (w ∷ words) (Place w ∷ parts)
place_step read t w words parts h next rows p [] b f u fine s few =
    goes_on replay_shape read (at rows p idle 1 t) (at (kept rows p) (Some (codes "net", w ∷ [])) idle 2 t) w words
    (turn.fault_net t rows p w h ∙ fine) (turn.after_net t rows p w h)
    ∙ next (kept rows p) (Some (codes "net", w ∷ [])) (w ∷ []) b f u (net_owed (kept rows p) w s.net)
    (subst (λ (l : List Row). Seen l (w ∷ []) b f u) (sym (net_kept (kept rows p) w s.net)) (seen_net (kept rows p) b f u w s)) tt
    ∙ sym (place_next (given [] b f u) w parts)
place_step read t w words parts h next rows p (a ∷ []) b f u fine s few =
    goes_on replay_shape read (at rows p idle 2 t) (at (kept rows p) (Some (codes "events", w ∷ [])) idle 3 t) w words
    (turn.fault_events t rows p w h ∙ fine) (turn.after_events t rows p w h)
    ∙ next (kept rows p) (Some (codes "events", w ∷ [])) (a ∷ w ∷ []) b f u (events_owed (kept rows p) w s.events)
    (subst (λ (l : List Row). Seen l (a ∷ w ∷ []) b f u) (sym (events_kept (kept rows p) w s.events)) (seen_events (kept rows p) a b f u w s)) tt
    ∙ sym (place_next (given (a ∷ []) b f u) w parts)
place_step read t w words parts h next rows p (a ∷ e ∷ []) b f u fine s few =
    ends replay_shape read (at rows p idle 3 t) w words kind.UnknownArgument [] (turn.fault_third t rows p w h)
    ∙ sym (two_taken a e b f u w parts)
place_step read t w words parts h next rows p (a ∷ e ∷ c ∷ ps) b f u fine s few = absurd few

pub dashes_step : (read : Read) (words : List Text) (parts : List Part) → Follows read true words parts → Follows read false (codes "--" ∷ words) parts
dashes_step read words parts next rows p ps b f u fine s few =
    goes_on replay_shape read (at rows p idle (position ps) false) (at rows p idle (position ps) true) (codes "--") words
    (turn.fault_dashes rows p idle (position ps)) (turn.after_dashes rows p idle (position ps))
    ∙ next rows p ps b f u fine s few

-- ---- words that are refused

pub refused_step : (read : Read) (w : Text) (words : List Text) (parts : List Part) (k : ErrorKind)
    → ((rows : List Row) (p : Pending) (n : ℕ) → turn_fault replay_shape [] (at rows p idle n false) w ≡ k ∷ []) → Follows read false (w ∷ words) (Stray ∷ parts)
refused_step read w words parts k bad rows p ps b f u fine s few =
    ends replay_shape read (at rows p idle (position ps) false) w words k [] (bad rows p (position ps)) ∙ sym (stray_ends (given ps b f u) parts)

-- ---- the flag

pub clear : (a : Kinds) (c : Kinds) → a ≡ [] → or_else (or_else a c) [] ≡ c
clear a c e = ap (λ (l : Kinds). or_else (or_else l c) []) e ∙ or_else-nil c

pub none_owed : (rows : List Row) → owed rows None ≡ []
unfolding owed
none_owed rows = refl

pub none_kept : (rows : List Row) → kept rows None ≡ rows
unfolding kept
none_kept rows = refl

bounds_kept : (rows : List Row) → row_at (codes "bounds") rows ≡ None → used bounds_rule [] rows ≡ rows ++ flag_row true ∷ []
bounds_kept rows e = used_first (codes "bounds") AsWritten CommandLine (codes "true" ∷ []) rows e

pub bounds_step : (read : Read) (words : List Text) (parts : List Part) → Follows read false words parts → Follows read false (codes "--bounds" ∷ words) (Bounds ∷ parts)
bounds_step read words parts next rows p ps false f u fine s few =
    let now = kept rows p in
    let later = used bounds_rule [] now in
    goes_on replay_shape read (at rows p idle (position ps) false) (at later None idle (position ps) false) (codes "--bounds") words
    (turn.fault_bounds rows p idle (position ps) ∙ clear (owed rows p) (use_fault false bounds_rule [] now) fine ∙ turn.use_bounds now (absent (codes "bounds") now s.bounds))
    (turn.after_bounds rows p (position ps))
    ∙ next later None ps true f u (none_owed later)
    (subst (λ (l : List Row). Seen l ps true f u) (sym (none_kept later ∙ bounds_kept now s.bounds)) (seen_bounds now ps f u s)) few
    ∙ sym (bounds_next ps false f u parts refl)
bounds_step read words parts next rows p ps true f u fine s few =
    let now = kept rows p in
    ends replay_shape read (at rows p idle (position ps) false) (codes "--bounds") words kind.ArgumentConflict []
    (turn.fault_bounds rows p idle (position ps) ∙ clear (owed rows p) (use_fault false bounds_rule [] now) fine ∙ turn.use_bounds_again now (present (codes "bounds") now (flag_row true) s.bounds))
    ∙ sym (bounds_again ps true f u parts refl)
