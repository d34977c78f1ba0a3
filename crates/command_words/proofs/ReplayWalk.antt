-- The parse of a replay gives what our parts give.
use Rattle.std.proofs.Common.{◌≡◌, ◌∙◌, ap, sym, refl, subst, ℕ, Bool, true, false, List, [], ◌∷◌, ◌++◌, map, Option, Some, None}
use Rattle.std.specs.Prelude.{if◌then◌else◌, codes, ◌||◌, not}
use Rattle.std.specs.Str.{bytes_eq}
use Rattle.std.specs.Option.{option_map_or}
use Rattle.clap.specs.Kinds.{Kinds, check_kinds, or_else}
use Rattle.clap.specs.Walk.{Row, Rule, Text, more_values, default_rows, finished, has_row, idle, nothing_held, walk_from, with_default}
use Rattle.clap.specs.Facts.{explicit_source}
use Rattle.clap.specs.Takes.{is_given}
use Rattle.clap.specs.Faults.{check_fault, default_fault, defaults_fault}
use Rattle.clap.specs.declared.error.kind.ErrorKind.TheVariants as kind
use Rattle.clap.specs.declared.builder.value_parser.Reading.TheVariants.{AsWritten}
use Rattle.clap.specs.declared.parser.matches.ValueSource.TheVariants.{DefaultValue}
use Rattle.command_words.specs.Forms.{Part, Place, Bounds, From, To, Stray, part_of, parts_of, takes_next}
use Rattle.command_words.specs.Given.{replay_after}
use Rattle.command_words.specs.Matched.{Read}
use Rattle.command_words.proofs.Taking.{given, no_place, one_place, parts_dashes, parts_pair, parts_last, parts_lone, parts_none}
use Rattle.command_words.proofs.Outcome.{outcome, left_of, last, end_fault}
use Rattle.command_words.proofs.RowsFound.{row_at, flag_row, flag_given, value_row, Seen, with_flag, complete, at_end, seen_none}
use Rattle.command_words.proofs.Looks.{AllSpelled, Dashed, Look, Spelled, look}
use Rattle.command_words.proofs.Looks as word
use Rattle.command_words.proofs.Turns as turn
use Rattle.command_words.proofs.Turns.{Pending, at, held, owed, kept, replay_shape, replay_rules, net_rule, events_rule, bounds_rule, from_rule, to_rule}
use Rattle.command_words.proofs.ReplaySteps.{Follows, Reads, absent, present, none_owed, none_kept, place_step, dashes_step, refused_step, bounds_step}
use Rattle.command_words.proofs.ReplayOptions.{from_with_step, to_with_step, from_step, to_step, from_last, to_last}

-- ---- the defaults

pub covered : (b : Bool) (x : Kinds) → (if b || true then [] else x) ≡ []
covered true x = refl
covered false x = refl

fine_anyway : (b : Bool) → (if b || false then [] else []) ≡ (let none : Kinds = [] in none)
fine_anyway true = refl
fine_anyway false = refl

pub one_default : (rows : List Row) (a : Rule) (rest : List Rule) → default_fault rows a ≡ [] → defaults_fault (with_default rows a) rest ≡ []
    → defaults_fault rows (a ∷ rest) ≡ []
unfolding defaults_fault
one_default rows a rest here later = ap (λ (l : Kinds). or_else l (defaults_fault (with_default rows a) rest)) here ∙ later

pub all_defaults : (rows : List Row) → defaults_fault rows [] ≡ []
unfolding defaults_fault
all_defaults rows = refl

no_default_fault : (rows : List Row) → defaults_fault rows replay_rules ≡ []
no_default_fault rows =
    let one = with_default rows net_rule in
    let two = with_default one events_rule in
    let three = with_default two bounds_rule in
    let four = with_default three from_rule in
    one_default rows net_rule (events_rule ∷ bounds_rule ∷ from_rule ∷ to_rule ∷ []) (covered (has_row (codes "net") rows) _)
    (one_default one events_rule (bounds_rule ∷ from_rule ∷ to_rule ∷ []) (covered (has_row (codes "events") one) _)
    (one_default two bounds_rule (from_rule ∷ to_rule ∷ []) (fine_anyway (has_row (codes "bounds") two))
    (one_default three from_rule (to_rule ∷ []) (covered (has_row (codes "from") three) _)
    (one_default four to_rule [] (covered (has_row (codes "to") four) _) (all_defaults (with_default four to_rule))))))

pub same_rows : (b : Bool) (rows : List Row) → (if b then rows else rows) ≡ rows
same_rows true rows = refl
same_rows false rows = refl

flag_default : (b : Bool) (rows : List Row) → row_at (codes "bounds") rows ≡ flag_given b → with_default rows bounds_rule ≡ with_flag b rows
unfolding with_flag
flag_default true rows e =
    ap (λ (h : Bool). if h then rows else default_rows (codes "bounds") AsWritten (codes "false" ∷ []) rows) (present (codes "bounds") rows (flag_row true) e)
flag_default false rows e =
    ap (λ (h : Bool). if h then rows else default_rows (codes "bounds") AsWritten (codes "false" ∷ []) rows) (absent (codes "bounds") rows e)
    ∙ at_end (codes "bounds") (more_values DefaultValue (codes "false" ∷ [])) (flag_row false ∷ []) rows e

finished_is : (b : Bool) (rows : List Row) (p : Pending) → row_at (codes "bounds") (kept rows p) ≡ flag_given b
    → finished replay_shape.rules (held rows p) ≡ with_flag b (kept rows p)
unfolding replay_shape kept
finished_is b rows p e =
    let now = kept rows p in
    let one = with_default now net_rule in
    let two = with_default one events_rule in
    let three = with_default two bounds_rule in
    let four = with_default three from_rule in
    same_rows (has_row (codes "to") four) four
    ∙ same_rows (has_row (codes "from") three) three
    ∙ ap (λ (l : List Row). with_default l bounds_rule) (same_rows (has_row (codes "events") one) one ∙ same_rows (has_row (codes "net") now) now)
    ∙ flag_default b now e

-- ---- the end

abbrev missing : Bool → Bool → Kinds
missing x y = check_kinds false false (not x || (not y || false))

check_is : (rows : List Row) → check_fault replay_shape rows false ≡ missing (is_given (codes "net") rows) (is_given (codes "events") rows)
unfolding replay_shape
check_is rows = refl

end_is : (rows : List Row) (p : Pending) → owed rows p ≡ [] → end_fault replay_shape (held rows p) ≡ check_fault replay_shape (finished replay_shape.rules (held rows p)) false
unfolding replay_shape owed kept
end_is rows p fine =
    let check = check_fault replay_shape (finished replay_shape.rules (held rows p)) false in
    ap (λ (l : Kinds). or_else l (or_else (defaults_fault (kept rows p) replay_rules) check)) fine
    ∙ ap (λ (l : Kinds). or_else l check) (no_default_fault (kept rows p))

pub given_is : (id : Text) (rows : List Row) (o : Option Row) → row_at id rows ≡ o → is_given id rows ≡ option_map_or (λ (r : Row). explicit_source r.source) o false
given_is id rows o e = ap (λ (o : Option Row). option_map_or (λ (r : Row). explicit_source r.source) o false) e

abbrev Fault : List Row → Kinds → Type 0
Fault rows l = check_fault replay_shape rows false ≡ l

fault_by : (rows : List Row) (x y : Bool) → is_given (codes "net") rows ≡ x → is_given (codes "events") rows ≡ y → Fault rows (missing x y)
fault_by rows x y e h = check_is rows ∙ ap (λ (z : Bool). missing z (is_given (codes "events") rows)) e ∙ ap (λ (z : Bool). missing x z) h

last_is : (read : Read) (t : Bool) (rows : List Row) (p : Pending) (n : ℕ) (b : Bool) (l : Kinds) → owed rows p ≡ []
    → row_at (codes "bounds") (kept rows p) ≡ flag_given b → Fault (with_flag b (kept rows p)) l
    → left_of replay_shape read (at rows p idle n t) [] ≡ outcome l (read (with_flag b (kept rows p)))
last_is read t rows p n b l fine e is =
    let rows_at_end = finished_is b rows p e in
    last replay_shape read (at rows p idle n t)
    ∙ ap (λ (k : Kinds). outcome k (read (finished replay_shape.rules (held rows p)))) (end_is rows p fine)
    ∙ ap (λ (r : List Row). outcome (check_fault replay_shape r false) (read r)) rows_at_end
    ∙ ap (λ (k : Kinds). outcome k (read (with_flag b (kept rows p)))) is

end_step : (read : Read) → Reads read → (t : Bool) → Follows read t [] []
end_step read reads t rows p [] b f u fine s few =
    let at_last = complete (kept rows p) [] b f u s in
    let r = with_flag b (kept rows p) in
    last_is read t rows p 1 b (kind.MissingRequiredArgument ∷ []) fine s.bounds
    (fault_by r false false (given_is (codes "net") r None at_last.net) (given_is (codes "events") r None at_last.events))
    ∙ sym (no_place b f u)
end_step read reads t rows p (a ∷ []) b f u fine s few =
    let at_last = complete (kept rows p) (a ∷ []) b f u s in
    let r = with_flag b (kept rows p) in
    last_is read t rows p 2 b (kind.MissingRequiredArgument ∷ []) fine s.bounds
    (fault_by r true false (given_is (codes "net") r (Some (value_row (codes "net") a)) at_last.net) (given_is (codes "events") r None at_last.events))
    ∙ sym (one_place a b f u)
end_step read reads t rows p (a ∷ e ∷ []) b f u fine s few =
    let at_last = complete (kept rows p) (a ∷ e ∷ []) b f u s in
    let r = with_flag b (kept rows p) in
    last_is read t rows p 3 b [] fine s.bounds
    (fault_by r true true (given_is (codes "net") r (Some (value_row (codes "net") a)) at_last.net) (given_is (codes "events") r (Some (value_row (codes "events") e)) at_last.events))
    ∙ reads r a e b f u at_last
end_step read reads t rows p (a ∷ e ∷ c ∷ ps) b f u fine s few = absurd few

-- ---- all words

ended : (read : Read) → Reads read → (words : List Text) → Follows read true words (map Place words)
ended read reads [] = end_step read reads true
ended read reads (w ∷ words) = place_step read true w words (map Place words) tt (ended read reads words)

-- a word whose part stands alone
abbrev Alone : Read → Text → List Text → Type 0
Alone read w words = Follows read false (w ∷ words) (parts_of (w ∷ words))

lone : (read : Read) (w : Text) (words : List Text) (part : Part) → bytes_eq w (codes "--") ≡ false → takes_next w ≡ false → part_of w ≡ part
    → Follows read false (w ∷ words) (part ∷ parts_of words) → Alone read w words
lone read w words part d t is next = subst (Follows read false (w ∷ words)) (sym (parts_lone w words d t ∙ ap (λ (q : Part). q ∷ parts_of words) is)) next

-- an option at the end lacks its value
final : (read : Read) (w : Text) → bytes_eq w (codes "--") ≡ false → part_of w ≡ Stray → Follows read false (w ∷ []) (Stray ∷ []) → Alone read w []
final read w d is next =
    subst (Follows read false (w ∷ [])) (sym (parts_last w d ∙ ap (λ (q : Part). q ∷ parts_of []) is ∙ ap (λ (l : List Part). Stray ∷ l) parts_none)) next

pair : (read : Read) (w v : Text) (words : List Text) (part : Part) → bytes_eq w (codes "--") ≡ false → takes_next w ≡ true
    → Follows read false (w ∷ v ∷ words) (part ∷ parts_of words) → parts_of (w ∷ v ∷ words) ≡ part ∷ parts_of words → Alone read w (v ∷ words)
pair read w v words part d t next is = subst (Follows read false (w ∷ v ∷ words)) (sym is) next

-- `--from` or `--to`, and what stands behind it
from_or_end : (read : Read) (words : List Text) → AllSpelled words → Follows read false words (parts_of words)
    → ((v : Text) (rest : List Text) → words ≡ v ∷ rest → Follows read false rest (parts_of rest)) → Alone read (codes "--from") words
from_or_end read [] all next later = final read (codes "--from") refl refl (from_last read)
from_or_end read (v ∷ rest) all next later =
    pair read (codes "--from") v rest (From v) refl refl (from_step read v rest (parts_of rest) all.1 (look v all.0) (later v rest refl))
    (parts_pair (codes "--from") v rest refl refl)

to_or_end : (read : Read) (words : List Text) → AllSpelled words → Follows read false words (parts_of words)
    → ((v : Text) (rest : List Text) → words ≡ v ∷ rest → Follows read false rest (parts_of rest)) → Alone read (codes "--to") words
to_or_end read [] all next later = final read (codes "--to") refl refl (to_last read)
to_or_end read (v ∷ rest) all next later =
    pair read (codes "--to") v rest (To v) refl refl (to_step read v rest (parts_of rest) all.1 (look v all.0) (later v rest refl))
    (parts_pair (codes "--to") v rest refl refl)

dashed_word : (read : Read) → Reads read → (w : Text) (words : List Text) → Dashed w → AllSpelled words → Follows read false words (parts_of words)
    → ((v : Text) (rest : List Text) → words ≡ v ∷ rest → Follows read false rest (parts_of rest)) → Alone read w words
dashed_word read reads w words d all next later = go d
  where
    along : (v : Text) → w ≡ v → Alone read v words → Alone read w words
    along v e h = subst (λ (x : Text). Alone read x words) (sym e) h

    go : Dashed w → Alone read w words
    go (word.dashes e) = along (codes "--") e
        (subst (Follows read false (codes "--" ∷ words)) (sym (parts_dashes words)) (dashes_step read words (map Place words) (ended read reads words)))
    go (word.bounds e) = along (codes "--bounds") e (lone read (codes "--bounds") words Bounds refl refl refl (bounds_step read words (parts_of words) next))
    go (word.bounds_with v e) = along (codes "--bounds=" ++ v) e
        (lone read (codes "--bounds=" ++ v) words Stray refl refl refl (refused_step read (codes "--bounds=" ++ v) words (parts_of words) kind.TooManyValues (λ rows p n. turn.fault_bounds_with rows p idle n v)))
    go (word.from e) = along (codes "--from") e (from_or_end read words all next later)
    go (word.from_with v e) = along (codes "--from=" ++ v) e (lone read (codes "--from=" ++ v) words (From v) refl refl refl (from_with_step read v words (parts_of words) next))
    go (word.to e) = along (codes "--to") e (to_or_end read words all next later)
    go (word.to_with v e) = along (codes "--to=" ++ v) e (lone read (codes "--to=" ++ v) words (To v) refl refl refl (to_with_step read v words (parts_of words) next))
    go (word.strange s) = lone read w words Stray s.dashes s.next s.part (refused_step read w words (parts_of words) kind.UnknownArgument (λ rows p n. turn.fault_strange rows p idle n w s))
    go (word.short x xs c cs e other is) = along (45 ∷ x ∷ xs) e
        (lone read (45 ∷ x ∷ xs) words Stray (rw other refl) (rw other refl) (rw other refl)
        (refused_step read (45 ∷ x ∷ xs) words (parts_of words) kind.UnknownArgument (λ rows p n. turn.fault_short rows p idle n x xs c cs other is)))

word_step : (read : Read) → Reads read → (w : Text) (words : List Text) → Look w → AllSpelled words → Follows read false words (parts_of words)
    → ((v : Text) (rest : List Text) → words ≡ v ∷ rest → Follows read false rest (parts_of rest)) → Alone read w words
word_step read reads w words (word.dashed d) all next later = dashed_word read reads w words d all next later
word_step read reads w words (word.place h) all next later =
    lone read w words (Place w) h.dashes h.next h.part (place_step read false w words (parts_of words) h next)

-- the words, and those behind the first of them
both : (read : Read) → Reads read → (words : List Text) → AllSpelled words
    → Follows read false words (parts_of words) × ((v : Text) (rest : List Text) → words ≡ v ∷ rest → Follows read false rest (parts_of rest))
both read reads [] all = (subst (Follows read false []) (sym parts_none) (end_step read reads false), λ v rest e. cc)
both read reads (w ∷ words) all = go (both read reads words all.1)
  where
    go : Follows read false words (parts_of words) × ((v : Text) (rest : List Text) → words ≡ v ∷ rest → Follows read false rest (parts_of rest))
        → Follows read false (w ∷ words) (parts_of (w ∷ words)) × ((v : Text) (rest : List Text) → w ∷ words ≡ v ∷ rest → Follows read false rest (parts_of rest))
    go h = (word_step read reads w words (look w all.0) all.1 h.0 h.1, λ v rest e. let same : words ≡ rest = cc in subst (λ (l : List Text). Follows read false l (parts_of l)) same h.0)

pub replay_follows : (read : Read) → Reads read → (words : List Text) → AllSpelled words
    → left_of replay_shape read (walk_from nothing_held) words ≡ replay_after (given [] false None None) (parts_of words)
replay_follows read reads words all =
    (both read reads words all).0 [] None [] false None None (none_owed []) (subst (λ (l : List Row). Seen l [] false None None) (sym (none_kept [])) seen_none) tt
