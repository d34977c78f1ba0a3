-- What the program reads of the matches.
use Rattle.std.proofs.Common.{◌≡◌, ◌∙◌, ap, sym, refl, Bool, true, false, List, [], ◌∷◌, Option, Some, None}
use Rattle.std.specs.Prelude.{codes, option_map, option_and_then, slice_get, if◌then◌else◌}
use Rattle.std.specs.Str.{bytes_eq}
use Rattle.clap.specs.Kinds.{Kinds}
use Rattle.clap.specs.Walk.{Row, Text, first_of, row_text}
use Rattle.clap.specs.Simple.{subcommand_of}
use Rattle.clap.specs.Faults.{fault_of}
use Rattle.command_words.specs.Told.{outage_app}
use Rattle.command_words.specs.Forms.{Command, Check, Places, check_by, command_of, follow_on, one_by, replay_by, trial_over, wish_by}
use Rattle.command_words.specs.Given.{places_after, second_in}
use Rattle.command_words.specs.Matched.{IsKnown, Read, Reads, check_in, check_with, command_by_name, flag_by, flag_in, follow_in, own_reads, places_by, replay_in, trial_in}
use Rattle.command_words.proofs.Taking.{replay_at_end}
use Rattle.command_words.proofs.RowsFound.{row_at, value_row, flag_row}
use Rattle.command_words.proofs.Outcome.{outcome}
use Rattle.command_words.proofs.Looks.{AllSpelled}
use Rattle.command_words.proofs.ReplaySteps as replay
use Rattle.command_words.proofs.CheckWalk as check
use Rattle.command_words.proofs.OnePlaceWalk as one
use Rattle.command_words.proofs.AppWords.{trial_place, follow_place, words_follow}

first_is : (id : Text) (rows : List Row) (o : Option Row) → row_at id rows ≡ o → first_of id rows ≡ option_and_then (λ (r : Row). slice_get r.values 0) o
first_is id rows o e = ap (λ (o : Option Row). option_and_then (λ (r : Row). slice_get r.values 0) o) e

value_is : (id : Text) (rows : List Row) (v : Option Text) → row_at id rows ≡ option_map (value_row id) v → first_of id rows ≡ v
value_is id rows None e = first_is id rows None e
value_is id rows (Some v) e = first_is id rows (Some (value_row id v)) e

flag_is : (rows : List Row) (b : Bool) → row_at (codes "bounds") rows ≡ Some (flag_row b) → flag_in rows ≡ Some b
flag_is rows true e = ap (λ (o : Option Row). flag_by (option_and_then row_text o)) e
flag_is rows false e = ap (λ (o : Option Row). flag_by (option_and_then row_text o)) e

pub replay_reads : replay.Reads replay_in
unfolding replay_in
replay_reads rows a e b f u c =
    ap (λ (x : Option Text). replay_by (places_by x (first_of (codes "events") rows)) (wish_by (flag_in rows) (second_in (first_of (codes "from") rows)) (second_in (first_of (codes "to") rows)))) (value_is (codes "net") rows (Some a) c.net)
    ∙ ap (λ (x : Option Text). replay_by (places_by (Some a) x) (wish_by (flag_in rows) (second_in (first_of (codes "from") rows)) (second_in (first_of (codes "to") rows)))) (value_is (codes "events") rows (Some e) c.events)
    ∙ ap (λ (x : Option Bool). replay_by (places_by (Some a) (Some e)) (wish_by x (second_in (first_of (codes "from") rows)) (second_in (first_of (codes "to") rows)))) (flag_is rows b c.bounds)
    ∙ ap (λ (x : Option Text). replay_by (places_by (Some a) (Some e)) (wish_by (Some b) (second_in x) (second_in (first_of (codes "to") rows)))) (value_is (codes "from") rows f c.from)
    ∙ ap (λ (x : Option Text). replay_by (places_by (Some a) (Some e)) (wish_by (Some b) (second_in f) (second_in x))) (value_is (codes "to") rows u c.until)
    ∙ sym (replay_at_end a e b f u)

pub check_reads : check.Reads check_in
unfolding check_in places_after
check_reads rows a e r s =
    ap (λ (x : Option Text). check_with (places_by x (first_of (codes "events") rows)) (first_of (codes "report") rows)) (value_is (codes "net") rows (Some a) s.net)
    ∙ ap (λ (x : Option Text). check_with (places_by (Some a) x) (first_of (codes "report") rows)) (value_is (codes "events") rows (Some e) s.events)
    ∙ ap (λ (x : Option Text). check_with (places_by (Some a) (Some e)) x) (value_is (codes "report") rows (Some r) s.report)

pub trial_reads : one.Reads trial_place trial_in
unfolding trial_in places_after
trial_reads rows a s = ap (λ (x : Option Text). option_and_then trial_over x) (value_is (codes "n") rows (Some a) s)

pub follow_reads : one.Reads follow_place follow_in
unfolding follow_in places_after
follow_reads rows a s = ap (λ (x : Option Text). option_and_then follow_on x) (value_is (codes "net") rows (Some a) s)

-- ---- the flag is known

some_command : Option Command
some_command = Some (Check (record { net = []; events = [] }) [])

by_flag : Option Bool → List Row → Option Command
by_flag None rows = some_command
by_flag (Some b) rows = replay_in rows

lax : Read
lax rows = by_flag (flag_in rows) rows

lax_reads : replay.Reads lax
unfolding lax by_flag
lax_reads rows a e b f u c = ap (λ (x : Option Bool). by_flag x rows) (flag_is rows b c.bounds) ∙ replay_reads rows a e b f u c

no_wish : (x : Option Places) → replay_by x None ≡ None
no_wish None = refl
no_wish (Some p) = refl

unknown_flag : (rows : List Row) → flag_in rows ≡ None → replay_in rows ≡ None
unfolding replay_in
unknown_flag rows e =
    ap (λ (x : Option Bool). replay_by (places_by (first_of (codes "net") rows) (first_of (codes "events") rows)) (wish_by x (second_in (first_of (codes "from") rows)) (second_in (first_of (codes "to") rows)))) e
    ∙ no_wish (places_by (first_of (codes "net") rows) (first_of (codes "events") rows))

known_if_same : (rows : List Row) → replay_in rows ≡ lax rows → (b : Bool) × (flag_in rows ≡ Some b)
unfolding lax by_flag some_command
known_if_same rows e = go (flag_in rows) refl
  where
    go : (o : Option Bool) → flag_in rows ≡ o → (b : Bool) × (flag_in rows ≡ Some b)
    go (Some b) is = (b, is)
    go None is =
        let none : None ≡ Some (Check (record { net = []; events = [] }) []) = sym (unknown_flag rows is) ∙ e ∙ ap (λ (x : Option Bool). by_flag x rows) is in
        cc

-- the program's reads, with one of a replay that tells a flag that isn't known
abbrev lax_ones : Reads
lax_ones = record own_reads { replay = lax }

known_at : (o : Option (Text × List Row)) → command_by_name own_reads o ≡ command_by_name lax_ones o → IsKnown o
known_at None e = tt
known_at (Some p) e = λ is.
    let other = if bytes_eq p.0 (codes "check") then check_in p.1 else (if bytes_eq p.0 (codes "trial") then trial_in p.1 else follow_in p.1) in
    known_if_same p.1 (sym (ap (λ (b : Bool). if b then replay_in p.1 else other) is) ∙ e ∙ ap (λ (b : Bool). if b then lax p.1 else other) is)

own_follow : (words : List Text) → AllSpelled words → outcome (fault_of outage_app words) (command_by_name own_reads (subcommand_of outage_app words)) ≡ command_of words
own_follow words all = words_follow own_reads (record { replay = replay_reads; check = check_reads; trial = trial_reads; follow = follow_reads }) words all

lax_follow : (words : List Text) → AllSpelled words → outcome (fault_of outage_app words) (command_by_name lax_ones (subcommand_of outage_app words)) ≡ command_of words
lax_follow words all = words_follow lax_ones (record { replay = lax_reads; check = check_reads; trial = trial_reads; follow = follow_reads }) words all

pub known : (words : List Text) → AllSpelled words → fault_of outage_app words ≡ [] → IsKnown (subcommand_of outage_app words)
known words all fine =
    known_at (subcommand_of outage_app words)
    (sym (ap (λ (k : Kinds). outcome k (command_by_name own_reads (subcommand_of outage_app words))) fine) ∙ own_follow words all ∙ sym (lax_follow words all)
    ∙ ap (λ (k : Kinds). outcome k (command_by_name lax_ones (subcommand_of outage_app words))) fine)

-- the command of words that are parsed
pub command_parsed : (words : List Text) → AllSpelled words → fault_of outage_app words ≡ [] → command_by_name own_reads (subcommand_of outage_app words) ≡ command_of words
command_parsed words all fine =
    sym (ap (λ (k : Kinds). outcome k (command_by_name own_reads (subcommand_of outage_app words))) fine) ∙ own_follow words all

outcome_of_fault : (l : Kinds) (c : Option Command) → (l ≡ [] → ⊥) → outcome l c ≡ None
outcome_of_fault [] c h = absurd (h refl)
outcome_of_fault (k ∷ ks) c h = refl

-- words that are refused have none
pub command_refused : (words : List Text) → AllSpelled words → (fault_of outage_app words ≡ [] → ⊥) → command_of words ≡ None
command_refused words all bad =
    sym (own_follow words all) ∙ outcome_of_fault (fault_of outage_app words) (command_by_name own_reads (subcommand_of outage_app words)) bad
