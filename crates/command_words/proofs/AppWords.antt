-- The parse of the command words gives what our forms give.
use Rattle.std.proofs.Common.{◌≡◌, ◌∙◌, ap, sym, refl, subst, ℕ, Bool, true, false, List, [], ◌∷◌, ◌++◌, append-nil, append_assoc, length, Option, Some, None, true≢false}
use Rattle.std.specs.Prelude.{codes, is_some, slice_get}
use Rattle.std.specs.List.{fold}
use Rattle.std.specs.Str.{bytes_eq, chars}
use Rattle.std.proofs.lemmas.Slice.Eq.{bytes_eq-Decides}
use Rattle.clap.specs.Kinds.{Kinds, or_else}
use Rattle.clap.specs.Lexer.{long_of, short_of}
use Rattle.clap.specs.Walk.{Held, Names, Row, Rule, Text, Walk, finished, idle, nothing_held, rows_after, settled, walk, walk_from, walked}
use Rattle.clap.specs.Simple.{App, Shape, built, entered, names_of, subcommand_of}
use Rattle.clap.specs.Faults.{bundle_step_fault, check_fault, defaults_fault, entered_fault, fault_of, flags_fault, level_fault, settle_fault, turn_fault, walk_fault}
use Rattle.clap.specs.declared.error.kind.ErrorKind.{ErrorKind}
use Rattle.clap.specs.declared.error.kind.ErrorKind.TheVariants as kind
use Rattle.clap.proofs.OnLiterals.{clap_on_literals}
use Rattle.command_words.specs.Told.{outage_app}
use Rattle.command_words.specs.Forms.{Command, check_by, command_of, follow_on, one_by, parts_of, trial_over}
use Rattle.command_words.specs.Given.{replay_after, places_after, wish_after}
use Rattle.command_words.specs.Matched.{Read, Reads, command_by_name}
use Rattle.command_words.proofs.Taking.{given}
use Rattle.command_words.proofs.Outcome.{outcome, left_of, or_else-nil}
use Rattle.command_words.proofs.Looks.{AllSpelled, Dashed, Look, Plain, look}
use Rattle.command_words.proofs.Looks as word
use Rattle.command_words.proofs.Turns.{fault_first, replay_shape}
use Rattle.command_words.proofs.CheckTurns.{check_shape}
use Rattle.command_words.proofs.OnePlaceTurns.{one_shape}
use Rattle.command_words.proofs.ReplaySteps as replay
use Rattle.command_words.proofs.ReplayWalk.{replay_follows}
use Rattle.command_words.proofs.CheckWalk.{check_follows}
use Rattle.command_words.proofs.CheckWalk as check
use Rattle.command_words.proofs.OnePlaceWalk.{OnePlace, one_place_follows}
use Rattle.command_words.proofs.OnePlaceWalk as one

unfoldable top_app : App
top_app = built outage_app

abbrev top : Shape
top = top_app.top

abbrev names : Names
names = names_of top_app

-- ---- behind the name of a subcommand

abbrev halted : Text → List Text → Walk
halted name words = record { held = nothing_held; waiting = idle; position = 1; is_trailing = false; stopped = Some (name, words) }

halt_folds : (c : List Rule) (n : Names) (name : Text) (before words : List Text) → fold (walked c n) (halted name before) words ≡ halted name (before ++ words)
unfolding walked
halt_folds c n name before [] = ap (halted name) (sym (append-nil before))
halt_folds c n name before (w ∷ words) = halt_folds c n name (before ++ w ∷ []) words ∙ ap (halted name) (append_assoc before (w ∷ []) words)

halt_fault : (s : Shape) (n : Names) (name : Text) (before words : List Text) → walk_fault s n (halted name before) words ≡ []
unfolding walk_fault walked
halt_fault s n name before [] = refl
halt_fault s n name before (w ∷ words) = halt_fault s n name (before ++ w ∷ []) words

-- all that may be wrong, by what is wrong with the words of the top and by where they lead
abbrev whole : Kinds → Walk → Kinds
whole wrong end =
    or_else wrong (or_else (entered_fault top_app end.stopped) (or_else (settle_fault top.rules top.args_override_self end.held)
    (or_else (defaults_fault (settled top.rules end.held).rows top.rules) (check_fault top (finished top.rules end.held) (is_some (entered top_app end.stopped))))))

fault_is : (program : Text) (words : List Text)
    → fault_of outage_app (program ∷ words) ≡ whole (walk_fault top names (walk_from nothing_held) words) (walk top.rules names nothing_held words)
unfolding top_app outage_app
fault_is program words = refl

subcommand_is : (program : Text) (words : List Text) → subcommand_of outage_app (program ∷ words) ≡ entered top_app (walk top.rules names nothing_held words).stopped
unfolding top_app outage_app
subcommand_is program words = refl

abbrev nothing_before : List Text
nothing_before = []

enter_replay : walked top.rules names (walk_from nothing_held) (codes "replay") ≡ halted (codes "replay") nothing_before
unfolding top_app outage_app clap_on_literals
enter_replay = refl

enter_check : walked top.rules names (walk_from nothing_held) (codes "check") ≡ halted (codes "check") nothing_before
unfolding top_app outage_app clap_on_literals
enter_check = refl

enter_trial : walked top.rules names (walk_from nothing_held) (codes "trial") ≡ halted (codes "trial") nothing_before
unfolding top_app outage_app clap_on_literals
enter_trial = refl

enter_follow : walked top.rules names (walk_from nothing_held) (codes "follow") ≡ halted (codes "follow") nothing_before
unfolding top_app outage_app clap_on_literals
enter_follow = refl

turn_replay : turn_fault top names (walk_from nothing_held) (codes "replay") ≡ []
unfolding top_app outage_app clap_on_literals
turn_replay = refl

turn_check : turn_fault top names (walk_from nothing_held) (codes "check") ≡ []
unfolding top_app outage_app clap_on_literals
turn_check = refl

turn_trial : turn_fault top names (walk_from nothing_held) (codes "trial") ≡ []
unfolding top_app outage_app clap_on_literals
turn_trial = refl

turn_follow : turn_fault top names (walk_from nothing_held) (codes "follow") ≡ []
unfolding top_app outage_app clap_on_literals
turn_follow = refl

walk_to : (name : Text) (rest : List Text) → walked top.rules names (walk_from nothing_held) name ≡ halted name [] → walk top.rules names nothing_held (name ∷ rest) ≡ halted name rest
walk_to name rest e = ap (λ (w : Walk). fold (walked top.rules names) w rest) e ∙ halt_folds top.rules names name [] rest

fine_to : (name : Text) (rest : List Text) → walked top.rules names (walk_from nothing_held) name ≡ halted name [] → turn_fault top names (walk_from nothing_held) name ≡ []
    → walk_fault top names (walk_from nothing_held) (name ∷ rest) ≡ []
unfolding walk_fault
fine_to name rest e f =
    ap (λ (l : Kinds). or_else l (walk_fault top names (walked top.rules names (walk_from nothing_held) name) rest)) f
    ∙ ap (λ (w : Walk). walk_fault top names w rest) e ∙ halt_fault top names name [] rest

whole_replay : (rest : List Text) → whole [] (halted (codes "replay") rest) ≡ or_else (level_fault replay_shape [] nothing_held rest false []) []
unfolding top_app outage_app replay_shape defaults_fault
whole_replay rest = refl

whole_check : (rest : List Text) → whole [] (halted (codes "check") rest) ≡ or_else (level_fault check_shape [] nothing_held rest false []) []
unfolding top_app outage_app check_shape defaults_fault
whole_check rest = refl

-- the commands of one place
abbrev pub trial_place : OnePlace
trial_place = record { name = codes "trial"; id = codes "n"; take = trial_over }

abbrev pub follow_place : OnePlace
follow_place = record { name = codes "follow"; id = codes "net"; take = follow_on }

abbrev shape_of : OnePlace → Shape
shape_of o = one_shape o.name o.id

whole_trial : (rest : List Text) → whole [] (halted (codes "trial") rest) ≡ or_else (level_fault (shape_of trial_place) [] nothing_held rest false []) []
unfolding top_app outage_app one_shape defaults_fault
whole_trial rest = refl

whole_follow : (rest : List Text) → whole [] (halted (codes "follow") rest) ≡ or_else (level_fault (shape_of follow_place) [] nothing_held rest false []) []
unfolding top_app outage_app one_shape defaults_fault
whole_follow rest = refl

entered_replay : (rest : List Text) → entered top_app (Some (codes "replay", rest)) ≡ Some (codes "replay", rows_after replay_shape.rules [] rest)
unfolding top_app outage_app replay_shape
entered_replay rest = refl

entered_check : (rest : List Text) → entered top_app (Some (codes "check", rest)) ≡ Some (codes "check", rows_after check_shape.rules [] rest)
unfolding top_app outage_app check_shape
entered_check rest = refl

entered_trial : (rest : List Text) → entered top_app (Some (codes "trial", rest)) ≡ Some (codes "trial", rows_after (shape_of trial_place).rules [] rest)
unfolding top_app outage_app one_shape
entered_trial rest = refl

entered_follow : (rest : List Text) → entered top_app (Some (codes "follow", rest)) ≡ Some (codes "follow", rows_after (shape_of follow_place).rules [] rest)
unfolding top_app outage_app one_shape
entered_follow rest = refl

level_left : (s : Shape) (read : Read) (rest : List Text)
    → outcome (level_fault s [] nothing_held rest false []) (read (rows_after s.rules [] rest)) ≡ left_of s read (walk_from nothing_held) rest
unfolding left_of
level_left s read rest = refl

-- what the parse comes to
abbrev pub Result : Reads → List Text → Option Command
Result reads words = outcome (fault_of outage_app words) (command_by_name reads (subcommand_of outage_app words))

-- what is read of the rows of each command is the command
pub record AreReads (reads : Reads) : Type 0 where
  pub replay : replay.Reads reads.replay
  pub check : check.Reads reads.check
  pub trial : one.Reads trial_place reads.trial
  pub follow : one.Reads follow_place reads.follow

result_at : (reads : Reads) (program name : Text) (rest : List Text) (l : Kinds) (p : Text × List Row)
    → walked top.rules names (walk_from nothing_held) name ≡ halted name [] → turn_fault top names (walk_from nothing_held) name ≡ []
    → whole [] (halted name rest) ≡ or_else l [] → entered top_app (Some (name, rest)) ≡ Some p
    → Result reads (program ∷ name ∷ rest) ≡ outcome l (command_by_name reads (Some p))
result_at reads program name rest l p e f is enters =
    let end = walk_to name rest e in
    let fault = fault_is program (name ∷ rest)
    ∙ ap (λ (k : Kinds). whole k (walk top.rules names nothing_held (name ∷ rest))) (fine_to name rest e f)
    ∙ ap (λ (w : Walk). whole [] w) end ∙ is ∙ or_else-nil l in
    let sub = subcommand_is program (name ∷ rest) ∙ ap (λ (w : Walk). entered top_app w.stopped) end ∙ enters in
    ap (λ (k : Kinds). outcome k (command_by_name reads (subcommand_of outage_app (program ∷ name ∷ rest)))) fault
    ∙ ap (λ (o : Option (Text × List Row)). outcome l (command_by_name reads o)) sub

replay_form : (rest : List Text) (program : Text) → replay_after (given [] false None None) (parts_of rest) ≡ command_of (program ∷ codes "replay" ∷ rest)
unfolding replay_after wish_after command_of
replay_form rest program = refl

check_form : (rest : List Text) (program : Text) → places_after check_by [] (parts_of rest) ≡ command_of (program ∷ codes "check" ∷ rest)
unfolding places_after command_of
check_form rest program = refl

trial_form : (rest : List Text) (program : Text) → places_after (one_by trial_over) [] (parts_of rest) ≡ command_of (program ∷ codes "trial" ∷ rest)
unfolding places_after command_of
trial_form rest program = refl

follow_form : (rest : List Text) (program : Text) → places_after (one_by follow_on) [] (parts_of rest) ≡ command_of (program ∷ codes "follow" ∷ rest)
unfolding places_after command_of
follow_form rest program = refl

-- the parse of the words behind a name is the command
abbrev Right : Reads → Text → Text → List Text → Type 0
Right reads program name rest = Result reads (program ∷ name ∷ rest) ≡ command_of (program ∷ name ∷ rest)

at_replay : (reads : Reads) → AreReads reads → (program : Text) (rest : List Text) → AllSpelled rest → Right reads program (codes "replay") rest
at_replay reads are program rest all =
    result_at reads program (codes "replay") rest (level_fault replay_shape [] nothing_held rest false []) (codes "replay", rows_after replay_shape.rules [] rest)
    enter_replay turn_replay (whole_replay rest) (entered_replay rest)
    ∙ level_left replay_shape reads.replay rest ∙ replay_follows reads.replay are.replay rest all ∙ replay_form rest program

at_check : (reads : Reads) → AreReads reads → (program : Text) (rest : List Text) → AllSpelled rest → Right reads program (codes "check") rest
at_check reads are program rest all =
    result_at reads program (codes "check") rest (level_fault check_shape [] nothing_held rest false []) (codes "check", rows_after check_shape.rules [] rest)
    enter_check turn_check (whole_check rest) (entered_check rest)
    ∙ level_left check_shape reads.check rest ∙ check_follows reads.check are.check rest all ∙ check_form rest program

at_trial : (reads : Reads) → AreReads reads → (program : Text) (rest : List Text) → AllSpelled rest → Right reads program (codes "trial") rest
at_trial reads are program rest all =
    let shape = shape_of trial_place in
    result_at reads program (codes "trial") rest (level_fault shape [] nothing_held rest false []) (codes "trial", rows_after shape.rules [] rest)
    enter_trial turn_trial (whole_trial rest) (entered_trial rest)
    ∙ level_left shape reads.trial rest ∙ one_place_follows trial_place reads.trial are.trial rest all ∙ trial_form rest program

at_follow : (reads : Reads) → AreReads reads → (program : Text) (rest : List Text) → AllSpelled rest → Right reads program (codes "follow") rest
at_follow reads are program rest all =
    let shape = shape_of follow_place in
    result_at reads program (codes "follow") rest (level_fault shape [] nothing_held rest false []) (codes "follow", rows_after shape.rules [] rest)
    enter_follow turn_follow (whole_follow rest) (entered_follow rest)
    ∙ level_left shape reads.follow rest ∙ one_place_follows follow_place reads.follow are.follow rest all ∙ follow_form rest program

-- ---- words that begin no command

-- the word names no command
abbrev Other : Text → Type 0
Other w =
    (bytes_eq (codes "replay") w ≡ false) × (bytes_eq (codes "check") w ≡ false) × (bytes_eq (codes "trial") w ≡ false) × (bytes_eq (codes "follow") w ≡ false)

fault_long : (w name : Text) (v : Option Text) → Other w → bytes_eq w (codes "--") ≡ false → long_of w ≡ Some (name, v)
    → turn_fault top names (walk_from nothing_held) w ≡ kind.UnknownArgument ∷ []
unfolding top_app outage_app clap_on_literals
fault_long w name v other d l =
    let r = other.0 in
    let c = other.1 in
    let t = other.2 in
    let f = other.3 in
    rw (r, c, t, f, d, l) refl

fault_place : (w : Text) → Other w → Plain w → turn_fault top names (walk_from nothing_held) w ≡ kind.UnknownArgument ∷ kind.InvalidSubcommand ∷ []
unfolding top_app outage_app clap_on_literals
fault_place w other h =
    let r = other.0 in
    let c = other.1 in
    let t = other.2 in
    let f = other.3 in
    let d = h.dashes in
    let l = h.long in
    let s = h.short in
    rw (r, c, t, f, d, l, s) refl

bundle : (x : ℕ) (xs : Text) (c : ℕ) (cs : List ℕ) (h : Held) → chars (x ∷ xs) ≡ c ∷ cs → flags_fault [] false (length (x ∷ xs)) (x ∷ xs) 0 h ≡ kind.UnknownArgument ∷ []
unfolding flags_fault
bundle x xs c cs h is = ap (λ (l : List ℕ). bundle_step_fault [] false (slice_get l 0) (x ∷ xs) 0 h (flags_fault [] false (length xs))) is

fault_bundle : (w : Text) (x : ℕ) (xs : Text) (c : ℕ) (cs : List ℕ) → Other w → bytes_eq w (codes "--") ≡ false → long_of w ≡ None → short_of w ≡ Some (x ∷ xs) → chars (x ∷ xs) ≡ c ∷ cs
    → turn_fault top names (walk_from nothing_held) w ≡ kind.UnknownArgument ∷ []
unfolding top_app outage_app
fault_bundle w x xs c cs other d l s is =
    let r = other.0 in
    let k = other.1 in
    let t = other.2 in
    let f = other.3 in
    rw (r, k, t, f, d, l, s) (fault_first _ _ _ _ (bundle x xs c cs nothing_held is))

first_wrong : (program w : Text) (rest : List Text) (k : ErrorKind) (ks : Kinds) (reads : Reads) → turn_fault top names (walk_from nothing_held) w ≡ k ∷ ks
    → Result reads (program ∷ w ∷ rest) ≡ None
unfolding walk_fault
first_wrong program w rest k ks reads bad =
    ap (λ (l : Kinds). outcome l (command_by_name reads (subcommand_of outage_app (program ∷ w ∷ rest))))
    (fault_is program (w ∷ rest)
    ∙ ap (λ (l : Kinds). whole (or_else l (walk_fault top names (walked top.rules names (walk_from nothing_held) w) rest)) (walk top.rules names nothing_held (w ∷ rest))) bad)

dashes_wrong : (program : Text) (rest : List Text) (reads : Reads) → Result reads (program ∷ codes "--" ∷ rest) ≡ None
unfolding top_app outage_app clap_on_literals
dashes_wrong program [] reads = refl
dashes_wrong program (v ∷ rest) reads = refl

dashed_wrong : (program w : Text) (rest : List Text) (reads : Reads) → Other w → Dashed w → Result reads (program ∷ w ∷ rest) ≡ None
dashed_wrong program w rest reads other d = go d
  where
    along : (v : Text) → w ≡ v → Result reads (program ∷ v ∷ rest) ≡ None → Result reads (program ∷ w ∷ rest) ≡ None
    along v e h = ap (λ (x : Text). Result reads (program ∷ x ∷ rest)) e ∙ h

    long : (v name : Text) (x : Option Text) → w ≡ v → Other v → bytes_eq v (codes "--") ≡ false → long_of v ≡ Some (name, x) → Result reads (program ∷ w ∷ rest) ≡ None
    long v name x e o d l = along v e (first_wrong program v rest kind.UnknownArgument [] reads (fault_long v name x o d l))

    go : Dashed w → Result reads (program ∷ w ∷ rest) ≡ None
    go (word.dashes e) = along (codes "--") e (dashes_wrong program rest reads)
    go (word.bounds e) = long (codes "--bounds") (codes "bounds") None e (refl, refl, refl, refl) refl refl
    go (word.bounds_with v e) = long (codes "--bounds=" ++ v) (codes "bounds") (Some v) e (refl, refl, refl, refl) refl refl
    go (word.from e) = long (codes "--from") (codes "from") None e (refl, refl, refl, refl) refl refl
    go (word.from_with v e) = long (codes "--from=" ++ v) (codes "from") (Some v) e (refl, refl, refl, refl) refl refl
    go (word.to e) = long (codes "--to") (codes "to") None e (refl, refl, refl, refl) refl refl
    go (word.to_with v e) = long (codes "--to=" ++ v) (codes "to") (Some v) e (refl, refl, refl, refl) refl refl
    go (word.strange s) = first_wrong program w rest kind.UnknownArgument [] reads (fault_long w s.name s.value other s.dashes s.long)
    go (word.short x xs c cs e not_dash is) = along (45 ∷ x ∷ xs) e
        (first_wrong program (45 ∷ x ∷ xs) rest kind.UnknownArgument [] reads
        (fault_bundle (45 ∷ x ∷ xs) x xs c cs (refl, refl, refl, refl) (rw not_dash refl) (rw not_dash refl) (rw not_dash refl) is))

other_wrong : (program w : Text) (rest : List Text) (reads : Reads) → Other w → Look w → Result reads (program ∷ w ∷ rest) ≡ None
other_wrong program w rest reads other (word.dashed d) = dashed_wrong program w rest reads other d
other_wrong program w rest reads other (word.place h) =
    first_wrong program w rest kind.UnknownArgument (kind.InvalidSubcommand ∷ []) reads (fault_place w other h)

turned : (a b : Text) → bytes_eq a b ≡ false → bytes_eq b a ≡ false
turned a b e = go (bytes_eq b a) refl
  where
    go : (x : Bool) → bytes_eq b a ≡ x → x ≡ false
    go false h = refl
    go true h = absurd (true≢false (sym ((bytes_eq-Decides a b).1 (sym ((bytes_eq-Decides b a).0 h))) ∙ e))

no_command : (program w : Text) (rest : List Text) → Other w → command_of (program ∷ w ∷ rest) ≡ None
unfolding command_of
no_command program w rest other =
    let r = turned (codes "replay") w other.0 in
    let c = turned (codes "check") w other.1 in
    let t = turned (codes "trial") w other.2 in
    let f = turned (codes "follow") w other.3 in
    rw (r, c, t, f) refl

no_words : (reads : Reads) → Result reads [] ≡ command_of []
unfolding top_app outage_app clap_on_literals command_of
no_words reads = refl

no_word : (program : Text) (reads : Reads) → Result reads (program ∷ []) ≡ command_of (program ∷ [])
unfolding top_app outage_app clap_on_literals command_of
no_word program reads = refl

first_word : (reads : Reads) → AreReads reads → (program w : Text) (rest : List Text) → Look w → AllSpelled rest → Right reads program w rest
first_word reads are program w rest l all =
    go (bytes_eq (codes "replay") w) (bytes_eq (codes "check") w) (bytes_eq (codes "trial") w) (bytes_eq (codes "follow") w) refl refl refl refl
  where
    along : (v : Text) → bytes_eq v w ≡ true → Right reads program v rest → Right reads program w rest
    along v e h = subst (λ (x : Text). Right reads program x rest) ((bytes_eq-Decides v w).0 e) h

    go : (r c t f : Bool) → bytes_eq (codes "replay") w ≡ r → bytes_eq (codes "check") w ≡ c → bytes_eq (codes "trial") w ≡ t → bytes_eq (codes "follow") w ≡ f
        → Right reads program w rest
    go true c t f p q u v = along (codes "replay") p (at_replay reads are program rest all)
    go false true t f p q u v = along (codes "check") q (at_check reads are program rest all)
    go false false true f p q u v = along (codes "trial") u (at_trial reads are program rest all)
    go false false false true p q u v = along (codes "follow") v (at_follow reads are program rest all)
    go false false false false p q u v = other_wrong program w rest reads (p, q, u, v) l ∙ sym (no_command program w rest (p, q, u, v))

-- what is read of the parse, where nothing is wrong, is the command of the words
pub words_follow : (reads : Reads) → AreReads reads → (words : List Text) → AllSpelled words → Result reads words ≡ command_of words
words_follow reads are [] all = no_words reads
words_follow reads are (program ∷ []) all = no_word program reads
words_follow reads are (program ∷ w ∷ rest) all = first_word reads are program w rest (look w all.1.0) all.1.1
