-- The parse of a replay follows our parts: options with values.
use Rattle.std.proofs.Common.{◌≡◌, ◌∙◌, ap, sym, refl, subst, ℕ, Bool, true, false, List, [], ◌∷◌, ◌++◌, Option, Some, None}
use Rattle.std.specs.Prelude.{codes}
use Rattle.clap.specs.Kinds.{Kinds, or_else}
use Rattle.clap.specs.Walk.{Row, Text, Waiting, idle, option, finished, has_row, used}
use Rattle.clap.specs.Faults.{use_fault}
use Rattle.clap.specs.declared.error.kind.ErrorKind.{ErrorKind}
use Rattle.clap.specs.declared.error.kind.ErrorKind.TheVariants as kind
use Rattle.clap.specs.declared.builder.value_parser.Reading.TheVariants.{AsWritten}
use Rattle.clap.specs.declared.parser.matches.ValueSource.TheVariants.{CommandLine}
use Rattle.command_words.specs.Forms.{Command, Part, From, To, Stray}
use Rattle.command_words.specs.Matched.{Read}
use Rattle.command_words.proofs.Taking.{given, stray_ends, from_next, from_again, from_no_stamp, to_next, to_again, to_no_stamp}
use Rattle.command_words.proofs.Outcome.{outcome, left_of, goes_on, ends, last, or_else-nil}
use Rattle.command_words.proofs.RowsFound.{row_at, used_first, value_row, Seen, seen_from, seen_until}
use Rattle.command_words.proofs.Looks.{AllSpelled, Dashed, Look, Plain, Spelled, dashed_no_stamp, look}
use Rattle.command_words.proofs.Looks as word
use Rattle.command_words.proofs.Turns as turn
use Rattle.command_words.proofs.Turns.{Pending, at, held, owed, kept, replay_shape, replay_rules, from_rule, to_rule}
use Rattle.command_words.proofs.ReplaySteps.{Few, Follows, absent, present, clear, none_owed, none_kept, position}

-- ---- something is wrong with what waits for its end

wrong_first : (a b : Kinds) (k : ErrorKind) → a ≡ k ∷ [] → or_else a b ≡ k ∷ []
wrong_first a b k e = ap (λ (l : Kinds). or_else l b) e

pub lost_end : (read : Read) (rows : List Row) (p : Pending) (x : Waiting) (n : ℕ) (t : Bool) (k : ErrorKind) → owed rows p ≡ k ∷ []
    → left_of replay_shape read (at rows p x n t) [] ≡ None
unfolding replay_shape owed
lost_end read rows p x n t k bad =
    last replay_shape read (at rows p x n t)
    ∙ ap (λ (l : Kinds). outcome l (read (finished replay_shape.rules (held rows p)))) (wrong_first (owed rows p) _ k bad)

lost_ended : (read : Read) (words : List Text) (rows : List Row) (p : Pending) (x : Waiting) (ps : List Text) (k : ErrorKind) → Few ps → owed rows p ≡ k ∷ []
    → left_of replay_shape read (at rows p x (position ps) true) words ≡ None
lost_ended read [] rows p x ps k few bad = lost_end read rows p x (position ps) true k bad
lost_ended read (w ∷ words) rows p x [] k few bad = ends replay_shape read (at rows p x 1 true) w words k [] (turn.fault_net_ended rows p x w ∙ bad)
lost_ended read (w ∷ words) rows p x (a ∷ []) k few bad = ends replay_shape read (at rows p x 2 true) w words k [] (turn.fault_events_ended rows p x w ∙ bad)
lost_ended read (w ∷ words) rows p x (a ∷ e ∷ []) k few bad = ends replay_shape read (at rows p x 3 true) w words kind.UnknownArgument [] (turn.fault_third_ended rows p x w)
lost_ended read (w ∷ words) rows p x (a ∷ e ∷ c ∷ ps) k few bad = absurd few

-- no option helps
lost_dashed : (read : Read) (w : Text) (words : List Text) (rows : List Row) (p : Pending) (x : Waiting) (ps : List Text) (k : ErrorKind) → Dashed w → Few ps → owed rows p ≡ k ∷ []
    → left_of replay_shape read (at rows p x (position ps) false) (w ∷ words) ≡ None
lost_dashed read w words rows p x ps k d few bad = go d
  where
    n : ℕ
    n = position ps

    now : Text → Option Command
    now v = left_of replay_shape read (at rows p x n false) (v ∷ words)

    go : Dashed w → left_of replay_shape read (at rows p x n false) (w ∷ words) ≡ None
    go (word.dashes e) = ap now e
        ∙ goes_on replay_shape read (at rows p x n false) (at rows p x n true) (codes "--") words (turn.fault_dashes rows p x n) (turn.after_dashes rows p x n)
        ∙ lost_ended read words rows p x ps k few bad
    go (word.bounds e) = ap now e
        ∙ ends replay_shape read (at rows p x n false) (codes "--bounds") words k [] (turn.fault_bounds rows p x n ∙ wrong_first _ [] k (wrong_first (owed rows p) _ k bad))
    go (word.bounds_with v e) = ap now e
        ∙ ends replay_shape read (at rows p x n false) (codes "--bounds=" ++ v) words kind.TooManyValues [] (turn.fault_bounds_with rows p x n v)
    go (word.from e) = ap now e
        ∙ ends replay_shape read (at rows p x n false) (codes "--from") words k [] (turn.fault_from rows p x n ∙ wrong_first (owed rows p) [] k bad)
    go (word.from_with v e) = ap now e
        ∙ ends replay_shape read (at rows p x n false) (codes "--from=" ++ v) words k [] (turn.fault_from_with rows p x n v ∙ wrong_first _ [] k (wrong_first (owed rows p) _ k bad))
    go (word.to e) = ap now e
        ∙ ends replay_shape read (at rows p x n false) (codes "--to") words k [] (turn.fault_to rows p x n ∙ wrong_first (owed rows p) [] k bad)
    go (word.to_with v e) = ap now e
        ∙ ends replay_shape read (at rows p x n false) (codes "--to=" ++ v) words k [] (turn.fault_to_with rows p x n v ∙ wrong_first _ [] k (wrong_first (owed rows p) _ k bad))
    go (word.strange s) = ends replay_shape read (at rows p x n false) w words kind.UnknownArgument [] (turn.fault_strange rows p x n w s)
    go (word.short y ys c cs e other is) = ap now e
        ∙ ends replay_shape read (at rows p x n false) (45 ∷ y ∷ ys) words kind.UnknownArgument [] (turn.fault_short rows p x n y ys c cs other is)

lost_place : (read : Read) (w : Text) (words : List Text) (rows : List Row) (p : Pending) (ps : List Text) (k : ErrorKind) → Plain w → Few ps → owed rows p ≡ k ∷ []
    → left_of replay_shape read (at rows p idle (position ps) false) (w ∷ words) ≡ None
lost_place read w words rows p [] k h few bad = ends replay_shape read (at rows p idle 1 false) w words k [] (turn.fault_net false rows p w h ∙ bad)
lost_place read w words rows p (a ∷ []) k h few bad = ends replay_shape read (at rows p idle 2 false) w words k [] (turn.fault_events false rows p w h ∙ bad)
lost_place read w words rows p (a ∷ e ∷ []) k h few bad = ends replay_shape read (at rows p idle 3 false) w words kind.UnknownArgument [] (turn.fault_third false rows p w h)
lost_place read w words rows p (a ∷ e ∷ c ∷ ps) k h few bad = absurd few

lost_look : (read : Read) (w : Text) (words : List Text) (rows : List Row) (p : Pending) (ps : List Text) (k : ErrorKind) → Look w → Few ps → owed rows p ≡ k ∷ []
    → left_of replay_shape read (at rows p idle (position ps) false) (w ∷ words) ≡ None
lost_look read w words rows p ps k (word.dashed d) few bad = lost_dashed read w words rows p idle ps k d few bad
lost_look read w words rows p ps k (word.place h) few bad = lost_place read w words rows p ps k h few bad

lost : (read : Read) (words : List Text) (rows : List Row) (p : Pending) (ps : List Text) (k : ErrorKind) → AllSpelled words → Few ps → owed rows p ≡ k ∷ []
    → left_of replay_shape read (at rows p idle (position ps) false) words ≡ None
lost read [] rows p ps k all few bad = lost_end read rows p idle (position ps) false k bad
lost read (w ∷ words) rows p ps k all few bad = lost_look read w words rows p ps k (look w all.0) few bad

-- ---- `--from`

from_owed : (rows : List Row) (v : Text) → row_at (codes "from") rows ≡ None → owed rows (Some (codes "from", v ∷ [])) ≡ []
unfolding owed
from_owed rows v e = turn.use_from rows v (absent (codes "from") rows e)

from_kept : (rows : List Row) (v : Text) → row_at (codes "from") rows ≡ None → kept rows (Some (codes "from", v ∷ [])) ≡ rows ++ value_row (codes "from") v ∷ []
unfolding kept
from_kept rows v e = used_first (codes "from") AsWritten CommandLine (v ∷ []) rows e

from_used : (rows : List Row) (v : Text) → row_at (codes "from") rows ≡ None → used from_rule (v ∷ []) rows ≡ rows ++ value_row (codes "from") v ∷ []
from_used rows v e = used_first (codes "from") AsWritten CommandLine (v ∷ []) rows e

pub from_with_step : (read : Read) (v : Text) (words : List Text) (parts : List Part) → Follows read false words parts → Follows read false ((codes "--from=" ++ v) ∷ words) (From v ∷ parts)
from_with_step read v words parts next rows p ps b None u fine s few =
    let now = kept rows p in
    let later = used from_rule (v ∷ []) now in
    goes_on replay_shape read (at rows p idle (position ps) false) (at later None idle (position ps) false) (codes "--from=" ++ v) words
    (turn.fault_from_with rows p idle (position ps) v ∙ clear (owed rows p) (use_fault false from_rule (v ∷ []) now) fine ∙ turn.use_from now v (absent (codes "from") now s.from))
    (turn.after_from_with rows p (position ps) v)
    ∙ next later None ps b (Some v) u (none_owed later)
    (subst (λ (l : List Row). Seen l ps b (Some v) u) (sym (none_kept later ∙ from_used now v s.from)) (seen_from now ps b u v s)) few
    ∙ sym (from_next ps b None u v parts refl)
from_with_step read v words parts next rows p ps b (Some x) u fine s few =
    let now = kept rows p in
    ends replay_shape read (at rows p idle (position ps) false) (codes "--from=" ++ v) words kind.ArgumentConflict []
    (turn.fault_from_with rows p idle (position ps) v ∙ clear (owed rows p) (use_fault false from_rule (v ∷ []) now) fine ∙ turn.use_from_again now v (present (codes "from") now (value_row (codes "from") x) s.from))
    ∙ sym (from_again ps b x u v parts)

-- the option stands, and its value is to come
from_first : (read : Read) (words : List Text) (rows : List Row) (p : Pending) (n : ℕ) → owed rows p ≡ []
    → left_of replay_shape read (at rows p idle n false) (codes "--from" ∷ words)
    ≡ left_of replay_shape read (at (kept rows p) (Some (codes "from", [])) (option (codes "from")) n false) words
from_first read words rows p n fine =
    goes_on replay_shape read (at rows p idle n false) (at (kept rows p) (Some (codes "from", [])) (option (codes "from")) n false) (codes "--from") words
    (turn.fault_from rows p idle n ∙ or_else-nil (owed rows p) ∙ fine) (turn.after_from rows p n)

from_later : (read : Read) (words : List Text) (rows : List Row) (n : ℕ) (v : Text) → Plain v
    → left_of replay_shape read (at rows (Some (codes "from", [])) (option (codes "from")) n false) (v ∷ words)
    ≡ left_of replay_shape read (at rows (Some (codes "from", v ∷ [])) idle n false) words
from_later read words rows n v h =
    goes_on replay_shape read (at rows (Some (codes "from", [])) (option (codes "from")) n false) (at rows (Some (codes "from", v ∷ [])) idle n false) v words
    (turn.fault_from_value rows n v h) (turn.after_from_value rows n v h)

from_twice : (rows : List Row) (v : Text) → has_row (codes "from") rows ≡ true → owed rows (Some (codes "from", v ∷ [])) ≡ kind.ArgumentConflict ∷ []
unfolding owed
from_twice rows v h = turn.use_from_again rows v h

from_empty : (rows : List Row) → owed rows (Some (codes "from", [])) ≡ kind.InvalidValue ∷ []
unfolding owed
from_empty rows = refl

from_value : (read : Read) (v : Text) (words : List Text) (parts : List Part) → AllSpelled words → Plain v → Follows read false words parts
    → Follows read false (codes "--from" ∷ v ∷ words) (From v ∷ parts)
from_value read v words parts all h next rows p ps b None u fine s few =
    let now = kept rows p in
    from_first read (v ∷ words) rows p (position ps) fine ∙ from_later read words now (position ps) v h
    ∙ next now (Some (codes "from", v ∷ [])) ps b (Some v) u (from_owed now v s.from)
    (subst (λ (l : List Row). Seen l ps b (Some v) u) (sym (from_kept now v s.from)) (seen_from now ps b u v s)) few
    ∙ sym (from_next ps b None u v parts refl)
from_value read v words parts all h next rows p ps b (Some x) u fine s few =
    let now = kept rows p in
    from_first read (v ∷ words) rows p (position ps) fine ∙ from_later read words now (position ps) v h
    ∙ lost read words now (Some (codes "from", v ∷ [])) ps kind.ArgumentConflict all few (from_twice now v (present (codes "from") now (value_row (codes "from") x) s.from))
    ∙ sym (from_again ps b x u v parts)

from_dashed : (read : Read) (v : Text) (words : List Text) (parts : List Part) → Dashed v → Follows read false (codes "--from" ∷ v ∷ words) (From v ∷ parts)
from_dashed read v words parts d rows p ps b f u fine s few =
    from_first read (v ∷ words) rows p (position ps) fine
    ∙ lost_dashed read v words (kept rows p) (Some (codes "from", [])) (option (codes "from")) ps kind.InvalidValue d few (from_empty (kept rows p))
    ∙ sym (from_no_stamp ps b f u v parts (dashed_no_stamp v d))

pub from_step : (read : Read) (v : Text) (words : List Text) (parts : List Part) → AllSpelled words → Look v → Follows read false words parts
    → Follows read false (codes "--from" ∷ v ∷ words) (From v ∷ parts)
from_step read v words parts all (word.place h) next = from_value read v words parts all h next
from_step read v words parts all (word.dashed d) next = from_dashed read v words parts d

-- the option stands last
pub from_last : (read : Read) → Follows read false (codes "--from" ∷ []) (Stray ∷ [])
from_last read rows p ps b f u fine s few =
    from_first read [] rows p (position ps) fine
    ∙ lost_end read (kept rows p) (Some (codes "from", [])) (option (codes "from")) (position ps) false kind.InvalidValue (from_empty (kept rows p))
    ∙ sym (stray_ends (given ps b f u) [])

-- ---- `--to`

to_owed : (rows : List Row) (v : Text) → row_at (codes "to") rows ≡ None → owed rows (Some (codes "to", v ∷ [])) ≡ []
unfolding owed
to_owed rows v e = turn.use_to rows v (absent (codes "to") rows e)

to_kept : (rows : List Row) (v : Text) → row_at (codes "to") rows ≡ None → kept rows (Some (codes "to", v ∷ [])) ≡ rows ++ value_row (codes "to") v ∷ []
unfolding kept
to_kept rows v e = used_first (codes "to") AsWritten CommandLine (v ∷ []) rows e

to_used : (rows : List Row) (v : Text) → row_at (codes "to") rows ≡ None → used to_rule (v ∷ []) rows ≡ rows ++ value_row (codes "to") v ∷ []
to_used rows v e = used_first (codes "to") AsWritten CommandLine (v ∷ []) rows e

pub to_with_step : (read : Read) (v : Text) (words : List Text) (parts : List Part) → Follows read false words parts → Follows read false ((codes "--to=" ++ v) ∷ words) (To v ∷ parts)
to_with_step read v words parts next rows p ps b f None fine s few =
    let now = kept rows p in
    let later = used to_rule (v ∷ []) now in
    goes_on replay_shape read (at rows p idle (position ps) false) (at later None idle (position ps) false) (codes "--to=" ++ v) words
    (turn.fault_to_with rows p idle (position ps) v ∙ clear (owed rows p) (use_fault false to_rule (v ∷ []) now) fine ∙ turn.use_to now v (absent (codes "to") now s.until))
    (turn.after_to_with rows p (position ps) v)
    ∙ next later None ps b f (Some v) (none_owed later)
    (subst (λ (l : List Row). Seen l ps b f (Some v)) (sym (none_kept later ∙ to_used now v s.until)) (seen_until now ps b f v s)) few
    ∙ sym (to_next ps b f None v parts refl)
to_with_step read v words parts next rows p ps b f (Some x) fine s few =
    let now = kept rows p in
    ends replay_shape read (at rows p idle (position ps) false) (codes "--to=" ++ v) words kind.ArgumentConflict []
    (turn.fault_to_with rows p idle (position ps) v ∙ clear (owed rows p) (use_fault false to_rule (v ∷ []) now) fine ∙ turn.use_to_again now v (present (codes "to") now (value_row (codes "to") x) s.until))
    ∙ sym (to_again ps b f x v parts)

-- the option stands, and its value is to come
to_first : (read : Read) (words : List Text) (rows : List Row) (p : Pending) (n : ℕ) → owed rows p ≡ []
    → left_of replay_shape read (at rows p idle n false) (codes "--to" ∷ words)
    ≡ left_of replay_shape read (at (kept rows p) (Some (codes "to", [])) (option (codes "to")) n false) words
to_first read words rows p n fine =
    goes_on replay_shape read (at rows p idle n false) (at (kept rows p) (Some (codes "to", [])) (option (codes "to")) n false) (codes "--to") words
    (turn.fault_to rows p idle n ∙ or_else-nil (owed rows p) ∙ fine) (turn.after_to rows p n)

to_later : (read : Read) (words : List Text) (rows : List Row) (n : ℕ) (v : Text) → Plain v
    → left_of replay_shape read (at rows (Some (codes "to", [])) (option (codes "to")) n false) (v ∷ words)
    ≡ left_of replay_shape read (at rows (Some (codes "to", v ∷ [])) idle n false) words
to_later read words rows n v h =
    goes_on replay_shape read (at rows (Some (codes "to", [])) (option (codes "to")) n false) (at rows (Some (codes "to", v ∷ [])) idle n false) v words
    (turn.fault_to_value rows n v h) (turn.after_to_value rows n v h)

to_twice : (rows : List Row) (v : Text) → has_row (codes "to") rows ≡ true → owed rows (Some (codes "to", v ∷ [])) ≡ kind.ArgumentConflict ∷ []
unfolding owed
to_twice rows v h = turn.use_to_again rows v h

to_empty : (rows : List Row) → owed rows (Some (codes "to", [])) ≡ kind.InvalidValue ∷ []
unfolding owed
to_empty rows = refl

to_value : (read : Read) (v : Text) (words : List Text) (parts : List Part) → AllSpelled words → Plain v → Follows read false words parts
    → Follows read false (codes "--to" ∷ v ∷ words) (To v ∷ parts)
to_value read v words parts all h next rows p ps b f None fine s few =
    let now = kept rows p in
    to_first read (v ∷ words) rows p (position ps) fine ∙ to_later read words now (position ps) v h
    ∙ next now (Some (codes "to", v ∷ [])) ps b f (Some v) (to_owed now v s.until)
    (subst (λ (l : List Row). Seen l ps b f (Some v)) (sym (to_kept now v s.until)) (seen_until now ps b f v s)) few
    ∙ sym (to_next ps b f None v parts refl)
to_value read v words parts all h next rows p ps b f (Some x) fine s few =
    let now = kept rows p in
    to_first read (v ∷ words) rows p (position ps) fine ∙ to_later read words now (position ps) v h
    ∙ lost read words now (Some (codes "to", v ∷ [])) ps kind.ArgumentConflict all few (to_twice now v (present (codes "to") now (value_row (codes "to") x) s.until))
    ∙ sym (to_again ps b f x v parts)

to_dashed : (read : Read) (v : Text) (words : List Text) (parts : List Part) → Dashed v → Follows read false (codes "--to" ∷ v ∷ words) (To v ∷ parts)
to_dashed read v words parts d rows p ps b f u fine s few =
    to_first read (v ∷ words) rows p (position ps) fine
    ∙ lost_dashed read v words (kept rows p) (Some (codes "to", [])) (option (codes "to")) ps kind.InvalidValue d few (to_empty (kept rows p))
    ∙ sym (to_no_stamp ps b f u v parts (dashed_no_stamp v d))

pub to_step : (read : Read) (v : Text) (words : List Text) (parts : List Part) → AllSpelled words → Look v → Follows read false words parts
    → Follows read false (codes "--to" ∷ v ∷ words) (To v ∷ parts)
to_step read v words parts all (word.place h) next = to_value read v words parts all h next
to_step read v words parts all (word.dashed d) next = to_dashed read v words parts d

-- the option stands last
pub to_last : (read : Read) → Follows read false (codes "--to" ∷ []) (Stray ∷ [])
to_last read rows p ps b f u fine s few =
    to_first read [] rows p (position ps) fine
    ∙ lost_end read (kept rows p) (Some (codes "to", [])) (option (codes "to")) (position ps) false kind.InvalidValue (to_empty (kept rows p))
    ∙ sym (stray_ends (given ps b f u) [])
