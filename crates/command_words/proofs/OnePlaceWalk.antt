-- The parse of a command of one place gives what our parts give.
use Rattle.std.proofs.Common.{◌≡◌, ◌∙◌, ap, sym, refl, subst, ℕ, Bool, true, false, List, [], ◌∷◌, ◌++◌, Option, Some, None}
use Rattle.std.specs.Prelude.{◌||◌, not, option_map}
use Rattle.std.specs.Str.{bytes_eq}
use Rattle.std.proofs.lemmas.Slice.Eq.{bytes_eq-Decides}
use Rattle.clap.specs.Kinds.{Kinds, check_kinds, or_else}
use Rattle.clap.specs.Walk.{Row, Text, finished, has_row, idle, nothing_held, walk_from, with_default}
use Rattle.clap.specs.Takes.{is_given}
use Rattle.clap.specs.Simple.{Shape}
use Rattle.clap.specs.Faults.{check_fault, defaults_fault}
use Rattle.clap.specs.declared.error.kind.ErrorKind.TheVariants as kind
use Rattle.clap.specs.declared.builder.value_parser.Reading.TheVariants.{AsWritten}
use Rattle.clap.specs.declared.parser.matches.ValueSource.TheVariants.{CommandLine}
use Rattle.command_words.specs.Forms.{Command, Part, Place, one_by, parts_of}
use Rattle.command_words.specs.Given.{places_after}
use Rattle.command_words.specs.Matched.{Read}
use Rattle.command_words.proofs.Taking.{place_taken, one_past, option_refused, none_taken}
use Rattle.command_words.proofs.Outcome.{outcome, left_of, goes_on, ends, last, end_fault}
use Rattle.command_words.proofs.RowsFound.{row_at, value_row, first_place, found_behind, used_first}
use Rattle.command_words.proofs.Looks.{AllSpelled}
use Rattle.command_words.proofs.Turns.{Pending, Placed, at, held}
use Rattle.command_words.proofs.OnePlaceTurns as turn
use Rattle.command_words.proofs.OnePlaceTurns.{owed, kept, one_shape, one_rules, one_rule}
use Rattle.command_words.proofs.ReplaySteps.{absent}
use Rattle.command_words.proofs.PlacesWalk.{Follows, Form, OnlyPlaces, places_follow}
use Rattle.command_words.proofs.ReplayWalk.{covered, one_default, all_defaults, same_rows, given_is}

-- a command of one place: its name, the name of its place, and what the place comes to
pub record OnePlace : Type 0 where
  pub name : Text
  pub id : Text
  pub take : List ℕ → Option Command

abbrev shape : OnePlace → Shape
shape o = one_shape o.name o.id

abbrev after : OnePlace → List Text → List Part → Option Command
after o = places_after (one_by o.take)

abbrev position : List Text → ℕ
position [] = 1
position (a ∷ rest) = 2

-- at most one place
abbrev Few : List Text → Type 0
Few [] = Unit {0}
Few (a ∷ []) = Unit {0}
Few (a ∷ b ∷ rest) = ⊥

-- the row of the place, where it was taken
abbrev pub Seen : Text → List Row → List Text → Type 0
Seen id rows places = row_at id rows ≡ option_map (value_row id) (first_place places)

abbrev Fits : Text → List Row → Pending → List Text → Type 0
Fits id rows p ps = (owed id rows p ≡ []) × Seen id (kept id rows p) ps × Few ps

abbrev form : OnePlace → Read → Form
form o read = record { shape = shape o; read = read; position = position; after = after o; Fits = Fits o.id }

-- what is read of the rows of a command is the command
abbrev pub Reads : OnePlace → Read → Type 0
Reads o read = (rows : List Row) (a : Text) → Seen o.id rows (a ∷ []) → read rows ≡ after o (a ∷ []) []

same_text : (id : Text) → bytes_eq id id ≡ true
same_text id = (bytes_eq-Decides id id).1 refl

-- ---- the place

only_owed : (id : Text) (rows : List Row) (w : Text) → row_at id rows ≡ None → owed id rows (Some (id, w ∷ [])) ≡ []
unfolding owed
only_owed id rows w e =
    let same = same_text id in
    rw same (turn.use_only id rows w (absent id rows e))

only_kept : (id : Text) (rows : List Row) (w : Text) → row_at id rows ≡ None → kept id rows (Some (id, w ∷ [])) ≡ rows ++ value_row id w ∷ []
unfolding kept
only_kept id rows w e =
    let same = same_text id in
    rw same (used_first id AsWritten CommandLine (w ∷ []) rows e)

place_step : (o : OnePlace) (read : Read) (t : Bool) (w : Text) (words : List Text) (parts : List Part) → Placed t w
    → Follows (form o read) t words parts → Follows (form o read) t (w ∷ words) (Place w ∷ parts)
place_step o read t w words parts h next rows p [] fits =
    let now = kept o.id rows p in
    goes_on (shape o) read (at rows p idle 1 t) (at now (Some (o.id, w ∷ [])) idle 2 t) w words
    (turn.fault_only o.name o.id t rows p w h ∙ fits.0) (turn.after_only o.name o.id t rows p w h)
    ∙ next now (Some (o.id, w ∷ [])) (w ∷ []) (
      only_owed o.id now w fits.1,
      subst (λ (l : List Row). Seen o.id l (w ∷ [])) (sym (only_kept o.id now w fits.1)) (found_behind o.id now (value_row o.id w) fits.1 (same_text o.id)),
      tt,
    )
    ∙ sym (place_taken (one_by o.take) [] w parts)
place_step o read t w words parts h next rows p (a ∷ []) fits =
    ends (shape o) read (at rows p idle 2 t) w words kind.UnknownArgument [] (turn.fault_second o.name o.id t rows p w h)
    ∙ sym (one_past o.take a w parts)
place_step o read t w words parts h next rows p (a ∷ b ∷ ps) fits = absurd fits.2

-- ---- the end

no_default_fault : (id : Text) (rows : List Row) → defaults_fault rows (one_rules id) ≡ []
no_default_fault id rows = one_default rows (one_rule id) [] (covered (has_row id rows) _) (all_defaults (with_default rows (one_rule id)))

finished_is : (o : OnePlace) (rows : List Row) (p : Pending) → finished (shape o).rules (held rows p) ≡ kept o.id rows p
unfolding one_shape kept
finished_is o rows p =
    let now = kept o.id rows p in
    same_rows (has_row o.id now) now

abbrev missing : Bool → Kinds
missing x = check_kinds false false (not x || false)

check_is : (o : OnePlace) (rows : List Row) → check_fault (shape o) rows false ≡ missing (is_given o.id rows)
unfolding one_shape
check_is o rows = refl

end_is : (o : OnePlace) (rows : List Row) (p : Pending) → owed o.id rows p ≡ [] → end_fault (shape o) (held rows p) ≡ check_fault (shape o) (finished (shape o).rules (held rows p)) false
unfolding one_shape owed kept
end_is o rows p fine =
    let check = check_fault (shape o) (finished (shape o).rules (held rows p)) false in
    ap (λ (l : Kinds). or_else l (or_else (defaults_fault (kept o.id rows p) (one_rules o.id)) check)) fine
    ∙ ap (λ (l : Kinds). or_else l check) (no_default_fault o.id (kept o.id rows p))

fault_by : (o : OnePlace) (rows : List Row) (x : Bool) → is_given o.id rows ≡ x → check_fault (shape o) rows false ≡ missing x
fault_by o rows x e = check_is o rows ∙ ap (λ (v : Bool). missing v) e

last_is : (o : OnePlace) (read : Read) (t : Bool) (rows : List Row) (p : Pending) (n : ℕ) (l : Kinds) → owed o.id rows p ≡ []
    → check_fault (shape o) (kept o.id rows p) false ≡ l
    → left_of (shape o) read (at rows p idle n t) [] ≡ outcome l (read (kept o.id rows p))
last_is o read t rows p n l fine is =
    last (shape o) read (at rows p idle n t)
    ∙ ap (λ (k : Kinds). outcome k (read (finished (shape o).rules (held rows p)))) (end_is o rows p fine)
    ∙ ap (λ (r : List Row). outcome (check_fault (shape o) r false) (read r)) (finished_is o rows p)
    ∙ ap (λ (k : Kinds). outcome k (read (kept o.id rows p))) is

end_step : (o : OnePlace) (read : Read) → Reads o read → (t : Bool) → Follows (form o read) t [] []
end_step o read reads t rows p [] fits =
    last_is o read t rows p 1 (kind.MissingRequiredArgument ∷ []) fits.0
    (fault_by o (kept o.id rows p) false (given_is o.id (kept o.id rows p) None fits.1))
    ∙ sym (none_taken o.take)
end_step o read reads t rows p (a ∷ []) fits =
    last_is o read t rows p 2 [] fits.0
    (fault_by o (kept o.id rows p) true (given_is o.id (kept o.id rows p) (Some (value_row o.id a)) fits.1))
    ∙ reads (kept o.id rows p) a fits.1
end_step o read reads t rows p (a ∷ b ∷ ps) fits = absurd fits.2

-- ---- all words

only_places : (o : OnePlace) (read : Read) → Reads o read → OnlyPlaces (form o read)
only_places o read reads = record {
  place_step = place_step o read;
  end_step = end_step o read reads;
  no_option = option_refused (one_by o.take);
  fault_dashes = turn.fault_dashes o.name o.id;
  after_dashes = turn.after_dashes o.name o.id;
  fault_long = turn.fault_long o.name o.id;
  fault_short = turn.fault_short o.name o.id;
}

none_owed : (id : Text) → owed id [] None ≡ []
unfolding owed
none_owed id = refl

none_kept : (id : Text) → kept id [] None ≡ []
unfolding kept
none_kept id = refl

pub one_place_follows : (o : OnePlace) (read : Read) → Reads o read → (words : List Text) → AllSpelled words
    → left_of (shape o) read (walk_from nothing_held) words ≡ after o [] (parts_of words)
one_place_follows o read reads words all =
    places_follow (form o read) (only_places o read reads) words all [] None []
    (none_owed o.id, subst (λ (l : List Row). Seen o.id l []) (sym (none_kept o.id)) refl, tt)
