-- The parse of a check gives what our parts give.
use Rattle.std.proofs.Common.{◌≡◌, ◌∙◌, ap, sym, refl, subst, ℕ, Bool, true, false, List, [], ◌∷◌, ◌++◌, Option, Some, None}
use Rattle.std.specs.Prelude.{codes, ◌||◌, not, option_map, ◌==◌}
use Rattle.clap.specs.Kinds.{Kinds, check_kinds, or_else}
use Rattle.clap.specs.Walk.{Row, Text, finished, has_row, idle, nothing_held, walk_from, with_default}
use Rattle.clap.specs.Takes.{is_given}
use Rattle.clap.specs.Faults.{check_fault, defaults_fault}
use Rattle.clap.specs.declared.error.kind.ErrorKind.TheVariants as kind
use Rattle.clap.specs.declared.builder.value_parser.Reading.TheVariants.{AsWritten}
use Rattle.clap.specs.declared.parser.matches.ValueSource.TheVariants.{CommandLine}
use Rattle.command_words.specs.Forms.{Part, Place, check_by, parts_of}
use Rattle.command_words.specs.Given.{places_after}
use Rattle.command_words.specs.Matched.{Read}
use Rattle.command_words.proofs.Taking.{place_taken, check_past, option_refused}
use Rattle.command_words.proofs.Outcome.{outcome, left_of, goes_on, ends, last, end_fault}
use Rattle.command_words.proofs.RowsFound.{row_at, value_row, first_place, second_place, found_behind, other_behind, used_first}
use Rattle.command_words.proofs.Looks.{AllSpelled}
use Rattle.command_words.proofs.Turns.{Pending, Placed, at, events_rule, held, net_rule, use_net, use_events}
use Rattle.command_words.proofs.CheckTurns as turn
use Rattle.command_words.proofs.CheckTurns.{owed, kept, check_shape, check_rules, report_rule}
use Rattle.command_words.proofs.ReplaySteps.{absent}
use Rattle.command_words.proofs.PlacesWalk.{Follows, Form, OnlyPlaces, places_follow}
use Rattle.command_words.proofs.ReplayWalk.{covered, one_default, all_defaults, same_rows, given_is}

abbrev position : List Text → ℕ
position [] = 1
position (a ∷ []) = 2
position (a ∷ b ∷ []) = 3
position (a ∷ b ∷ c ∷ rest) = 4

-- at most three places
abbrev Few : List Text → Type 0
Few [] = Unit {0}
Few (a ∷ []) = Unit {0}
Few (a ∷ b ∷ []) = Unit {0}
Few (a ∷ b ∷ c ∷ []) = Unit {0}
Few (a ∷ b ∷ c ∷ d ∷ rest) = ⊥

abbrev third_place : List Text → Option Text
third_place [] = None
third_place (a ∷ rest) = second_place rest

-- the rows of the places so far
pub record Seen (rows : List Row) (places : List Text) : Type 0 where
  pub net : row_at (codes "net") rows ≡ option_map (value_row (codes "net")) (first_place places)
  pub events : row_at (codes "events") rows ≡ option_map (value_row (codes "events")) (second_place places)
  pub report : row_at (codes "report") rows ≡ option_map (value_row (codes "report")) (third_place places)

abbrev Fits : List Row → Pending → List Text → Type 0
Fits rows p ps = (owed rows p ≡ []) × Seen (kept rows p) ps × Few ps

abbrev form : Read → Form
form read = record { shape = check_shape; read = read; position = position; after = places_after check_by; Fits = Fits }

-- what is read of the rows of a command is the command
abbrev pub Reads : Read → Type 0
Reads read = (rows : List Row) (a e r : Text) → Seen rows (a ∷ e ∷ r ∷ []) → read rows ≡ places_after check_by (a ∷ e ∷ r ∷ []) []

-- ---- places

net_owed : (rows : List Row) (w : Text) → row_at (codes "net") rows ≡ None → owed rows (Some (codes "net", w ∷ [])) ≡ []
unfolding owed
net_owed rows w e = use_net rows w (absent (codes "net") rows e)

net_kept : (rows : List Row) (w : Text) → row_at (codes "net") rows ≡ None → kept rows (Some (codes "net", w ∷ [])) ≡ rows ++ value_row (codes "net") w ∷ []
unfolding kept
net_kept rows w e = used_first (codes "net") AsWritten CommandLine (w ∷ []) rows e

events_owed : (rows : List Row) (w : Text) → row_at (codes "events") rows ≡ None → owed rows (Some (codes "events", w ∷ [])) ≡ []
unfolding owed
events_owed rows w e = use_events rows w (absent (codes "events") rows e)

events_kept : (rows : List Row) (w : Text) → row_at (codes "events") rows ≡ None → kept rows (Some (codes "events", w ∷ [])) ≡ rows ++ value_row (codes "events") w ∷ []
unfolding kept
events_kept rows w e = used_first (codes "events") AsWritten CommandLine (w ∷ []) rows e

report_owed : (rows : List Row) (w : Text) → row_at (codes "report") rows ≡ None → owed rows (Some (codes "report", w ∷ [])) ≡ []
unfolding owed
report_owed rows w e = turn.use_report rows w (absent (codes "report") rows e)

report_kept : (rows : List Row) (w : Text) → row_at (codes "report") rows ≡ None → kept rows (Some (codes "report", w ∷ [])) ≡ rows ++ value_row (codes "report") w ∷ []
unfolding kept
report_kept rows w e = used_first (codes "report") AsWritten CommandLine (w ∷ []) rows e

seen_net : (rows : List Row) (w : Text) → Seen rows ([]) → Seen (rows ++ value_row (codes "net") w ∷ []) (w ∷ [])
seen_net rows w s =
    let r = value_row (codes "net") w in
    record {
      net = found_behind (codes "net") rows r s.net refl;
      events = other_behind (codes "events") rows r refl ∙ s.events;
      report = other_behind (codes "report") rows r refl ∙ s.report;
    }

seen_events : (rows : List Row) (a : Text) (w : Text) → Seen rows (a ∷ []) → Seen (rows ++ value_row (codes "events") w ∷ []) (a ∷ w ∷ [])
seen_events rows a w s =
    let r = value_row (codes "events") w in
    record {
      net = other_behind (codes "net") rows r refl ∙ s.net;
      events = found_behind (codes "events") rows r s.events refl;
      report = other_behind (codes "report") rows r refl ∙ s.report;
    }

seen_report : (rows : List Row) (a : Text) (e : Text) (w : Text) → Seen rows (a ∷ e ∷ []) → Seen (rows ++ value_row (codes "report") w ∷ []) (a ∷ e ∷ w ∷ [])
seen_report rows a e w s =
    let r = value_row (codes "report") w in
    record {
      net = other_behind (codes "net") rows r refl ∙ s.net;
      events = other_behind (codes "events") rows r refl ∙ s.events;
      report = found_behind (codes "report") rows r s.report refl;
    }

place_step : (read : Read) (t : Bool) (w : Text) (words : List Text) (parts : List Part) → Placed t w
    → Follows (form read) t words parts → Follows (form read) t (w ∷ words) (Place w ∷ parts)
place_step read t w words parts h next rows p [] fits =
    goes_on check_shape read (at rows p idle 1 t) (at (kept rows p) (Some (codes "net", w ∷ [])) idle 2 t) w words
    (turn.fault_net t rows p w h ∙ fits.0) (turn.after_net t rows p w h)
    ∙ next (kept rows p) (Some (codes "net", w ∷ [])) (w ∷ [])
    (net_owed (kept rows p) w fits.1.net, subst (λ (l : List Row). Seen l (w ∷ [])) (sym (net_kept (kept rows p) w fits.1.net)) (seen_net (kept rows p) w fits.1), tt)
    ∙ sym (place_taken check_by ([]) w parts)
place_step read t w words parts h next rows p (a ∷ []) fits =
    goes_on check_shape read (at rows p idle 2 t) (at (kept rows p) (Some (codes "events", w ∷ [])) idle 3 t) w words
    (turn.fault_events t rows p w h ∙ fits.0) (turn.after_events t rows p w h)
    ∙ next (kept rows p) (Some (codes "events", w ∷ [])) (a ∷ w ∷ [])
    (events_owed (kept rows p) w fits.1.events, subst (λ (l : List Row). Seen l (a ∷ w ∷ [])) (sym (events_kept (kept rows p) w fits.1.events)) (seen_events (kept rows p) a w fits.1), tt)
    ∙ sym (place_taken check_by (a ∷ []) w parts)
place_step read t w words parts h next rows p (a ∷ e ∷ []) fits =
    goes_on check_shape read (at rows p idle 3 t) (at (kept rows p) (Some (codes "report", w ∷ [])) idle 4 t) w words
    (turn.fault_report t rows p w h ∙ fits.0) (turn.after_report t rows p w h)
    ∙ next (kept rows p) (Some (codes "report", w ∷ [])) (a ∷ e ∷ w ∷ [])
    (report_owed (kept rows p) w fits.1.report, subst (λ (l : List Row). Seen l (a ∷ e ∷ w ∷ [])) (sym (report_kept (kept rows p) w fits.1.report)) (seen_report (kept rows p) a e w fits.1), tt)
    ∙ sym (place_taken check_by (a ∷ e ∷ []) w parts)
place_step read t w words parts h next rows p (a ∷ e ∷ c ∷ []) fits =
    ends check_shape read (at rows p idle 4 t) w words kind.UnknownArgument [] (turn.fault_fourth t rows p w h)
    ∙ sym (check_past (a ∷ e ∷ c ∷ []) w parts refl)
place_step read t w words parts h next rows p (a ∷ e ∷ c ∷ d ∷ ps) fits = absurd fits.2

-- ---- the end

no_default_fault : (rows : List Row) → defaults_fault rows check_rules ≡ []
no_default_fault rows =
    let one = with_default rows net_rule in
    let two = with_default one events_rule in
    one_default rows net_rule (events_rule ∷ report_rule ∷ []) (covered (has_row (codes "net") rows) _)
    (one_default one events_rule (report_rule ∷ []) (covered (has_row (codes "events") one) _)
    (one_default two report_rule [] (covered (has_row (codes "report") two) _) (all_defaults (with_default two report_rule))))

finished_is : (rows : List Row) (p : Pending) → finished check_shape.rules (held rows p) ≡ kept rows p
unfolding check_shape kept
finished_is rows p =
    let now = kept rows p in
    let one = with_default now net_rule in
    let two = with_default one events_rule in
    same_rows (has_row (codes "report") two) two ∙ same_rows (has_row (codes "events") one) one ∙ same_rows (has_row (codes "net") now) now

abbrev missing : Bool → Bool → Bool → Kinds
missing x y z = check_kinds false false (not x || (not y || (not z || false)))

check_is : (rows : List Row) → check_fault check_shape rows false ≡ missing (is_given (codes "net") rows) (is_given (codes "events") rows) (is_given (codes "report") rows)
unfolding check_shape
check_is rows = refl

end_is : (rows : List Row) (p : Pending) → owed rows p ≡ [] → end_fault check_shape (held rows p) ≡ check_fault check_shape (finished check_shape.rules (held rows p)) false
unfolding check_shape owed kept
end_is rows p fine =
    let check = check_fault check_shape (finished check_shape.rules (held rows p)) false in
    ap (λ (l : Kinds). or_else l (or_else (defaults_fault (kept rows p) check_rules) check)) fine
    ∙ ap (λ (l : Kinds). or_else l check) (no_default_fault (kept rows p))

fault_by : (rows : List Row) (x y z : Bool) → is_given (codes "net") rows ≡ x → is_given (codes "events") rows ≡ y → is_given (codes "report") rows ≡ z
    → check_fault check_shape rows false ≡ missing x y z
fault_by rows x y z e h i =
    check_is rows ∙ ap (λ (v : Bool). missing v (is_given (codes "events") rows) (is_given (codes "report") rows)) e
    ∙ ap (λ (v : Bool). missing x v (is_given (codes "report") rows)) h ∙ ap (λ (v : Bool). missing x y v) i

last_is : (read : Read) (t : Bool) (rows : List Row) (p : Pending) (n : ℕ) (l : Kinds) → owed rows p ≡ []
    → check_fault check_shape (kept rows p) false ≡ l
    → left_of check_shape read (at rows p idle n t) [] ≡ outcome l (read (kept rows p))
last_is read t rows p n l fine is =
    last check_shape read (at rows p idle n t)
    ∙ ap (λ (k : Kinds). outcome k (read (finished check_shape.rules (held rows p)))) (end_is rows p fine)
    ∙ ap (λ (r : List Row). outcome (check_fault check_shape r false) (read r)) (finished_is rows p)
    ∙ ap (λ (k : Kinds). outcome k (read (kept rows p))) is

short_of_places : (ps : List Text) → Few ps → (position ps == 4) ≡ false → places_after check_by ps [] ≡ None
unfolding places_after
short_of_places [] few e = refl
short_of_places (a ∷ []) few e = refl
short_of_places (a ∷ b ∷ []) few e = refl
short_of_places (a ∷ b ∷ c ∷ ps) few e = cc

end_step : (read : Read) → Reads read → (t : Bool) → Follows (form read) t [] []
end_step read reads t rows p [] fits =
    let r = kept rows p in
    last_is read t rows p 1 (kind.MissingRequiredArgument ∷ []) fits.0
    (fault_by r false false false (given_is (codes "net") r None fits.1.net) (given_is (codes "events") r None fits.1.events) (given_is (codes "report") r None fits.1.report))
    ∙ sym (short_of_places [] tt refl)
end_step read reads t rows p (a ∷ []) fits =
    let r = kept rows p in
    last_is read t rows p 2 (kind.MissingRequiredArgument ∷ []) fits.0
    (fault_by r true false false (given_is (codes "net") r (Some (value_row (codes "net") a)) fits.1.net) (given_is (codes "events") r None fits.1.events) (given_is (codes "report") r None fits.1.report))
    ∙ sym (short_of_places (a ∷ []) tt refl)
end_step read reads t rows p (a ∷ e ∷ []) fits =
    let r = kept rows p in
    last_is read t rows p 3 (kind.MissingRequiredArgument ∷ []) fits.0
    (fault_by r true true false (given_is (codes "net") r (Some (value_row (codes "net") a)) fits.1.net) (given_is (codes "events") r (Some (value_row (codes "events") e)) fits.1.events) (given_is (codes "report") r None fits.1.report))
    ∙ sym (short_of_places (a ∷ e ∷ []) tt refl)
end_step read reads t rows p (a ∷ e ∷ c ∷ []) fits =
    let r = kept rows p in
    last_is read t rows p 4 [] fits.0
    (fault_by r true true true (given_is (codes "net") r (Some (value_row (codes "net") a)) fits.1.net) (given_is (codes "events") r (Some (value_row (codes "events") e)) fits.1.events) (given_is (codes "report") r (Some (value_row (codes "report") c)) fits.1.report))
    ∙ reads r a e c fits.1
end_step read reads t rows p (a ∷ e ∷ c ∷ d ∷ ps) fits = absurd fits.2

-- ---- all words

only_places : (read : Read) → Reads read → OnlyPlaces (form read)
only_places read reads = record {
  place_step = place_step read;
  end_step = end_step read reads;
  no_option = option_refused check_by;
  fault_dashes = turn.fault_dashes;
  after_dashes = turn.after_dashes;
  fault_long = turn.fault_long;
  fault_short = turn.fault_short;
}

none_owed : owed [] None ≡ []
unfolding owed
none_owed = refl

none_kept : kept [] None ≡ []
unfolding kept
none_kept = refl

pub check_follows : (read : Read) → Reads read → (words : List Text) → AllSpelled words
    → left_of check_shape read (walk_from nothing_held) words ≡ places_after check_by [] (parts_of words)
check_follows read reads words all =
    places_follow (form read) (only_places read reads) words all [] None []
    (none_owed, subst (λ (l : List Row). Seen l []) (sym none_kept) (record { net = refl; events = refl; report = refl }), tt)
