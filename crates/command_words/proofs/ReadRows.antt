-- What the program reads one by one of the matches is what is read of their rows.
use Rattle.std.proofs.Common.{◌≡◌, ◌∙◌, ap, refl, sym, Bool, true, false, List, Option, Some, None}
use Rattle.std.specs.Prelude.{option_and_then, option_map, codes, if◌then◌else◌}
use Rattle.std.specs.Str.{bytes_eq}
use Rattle.std.proofs.lemmas.Slice.Eq.{bytes_eq-Decides}
use Rattle.clap.specs.Walk.{Row, Text, first_of}
use Rattle.command_words.specs.declared.words.Wish.{Wish}
use Rattle.command_words.specs.Forms.{Places, follow_on, replay_by, trial_over, wish_by}
use Rattle.command_words.specs.Given.{second_in}
use Rattle.command_words.specs.Matched.{check_in, check_with, flag_by, flag_in, follow_in, places_by, replay_in, trial_in}

-- a name and rows that are told one by one
pub told_together : {X : Type 0} (name : X → Text) (rows : X → List Row) (o : Option X) (n : Text) (r : List Row)
    → Some n ≡ option_map name o → Some r ≡ option_map (λ (p : Text × List Row). p.1) (option_map {U = Text × List Row} (λ (x : X). (name x, rows x)) o)
    → option_map {U = Text × List Row} (λ (x : X). (name x, rows x)) o ≡ Some (n, r)
told_together name rows None n r e f = cc
told_together name rows (Some x) n r e f =
    let same_name : n ≡ name x = cc in
    let same_rows : r ≡ rows x = cc in
    let at_name : Text → Text × List Row = λ m. (m, rows x) in
    let at_rows : List Row → Text × List Row = λ l. (n, l) in
    ap (λ (m : Text). Some (at_name m)) (sym same_name) ∙ ap (λ (l : List Row). Some (at_rows l)) (sym same_rows)

-- a command by what was read of its rows
pub check_told : (rows : List Row) (places : Option Places) (net events report : Option Text)
    → net ≡ first_of (codes "net") rows → events ≡ first_of (codes "events") rows → report ≡ first_of (codes "report") rows
    → places ≡ places_by net events → check_with places report ≡ check_in rows
unfolding check_in
check_told rows places net events report n e r p =
    ap (λ (x : Option Places). check_with x report) p
    ∙ ap (λ (x : Option Text). check_with (places_by x events) report) n
    ∙ ap (λ (x : Option Text). check_with (places_by (first_of (codes "net") rows) x) report) e
    ∙ ap (λ (x : Option Text). check_with (places_by (first_of (codes "net") rows) (first_of (codes "events") rows)) x) r

pub trial_told : (rows : List Row) (number : Option Text) → number ≡ first_of (codes "n") rows → option_and_then trial_over number ≡ trial_in rows
unfolding trial_in
trial_told rows number e = ap (λ (x : Option Text). option_and_then trial_over x) e

pub follow_told : (rows : List Row) (net : Option Text) → net ≡ first_of (codes "net") rows → option_and_then follow_on net ≡ follow_in rows
unfolding follow_in
follow_told rows net e = ap (λ (x : Option Text). option_and_then follow_on x) e

pub wish_told : (rows : List Row) (flag : Option Bool) (from until : Option Text) → flag ≡ flag_in rows
    → from ≡ first_of (codes "from") rows → until ≡ first_of (codes "to") rows
    → wish_by flag (second_in from) (second_in until) ≡ wish_by (flag_in rows) (second_in (first_of (codes "from") rows)) (second_in (first_of (codes "to") rows))
wish_told rows flag from until b f u =
    ap (λ (x : Option Bool). wish_by x (second_in from) (second_in until)) b
    ∙ ap (λ (x : Option Text). wish_by (flag_in rows) (second_in x) (second_in until)) f
    ∙ ap (λ (x : Option Text). wish_by (flag_in rows) (second_in (first_of (codes "from") rows)) (second_in x)) u

pub replay_told : (rows : List Row) (places : Option Places) (wish : Option Wish) (net events : Option Text)
    → net ≡ first_of (codes "net") rows → events ≡ first_of (codes "events") rows → places ≡ places_by net events
    → wish ≡ wish_by (flag_in rows) (second_in (first_of (codes "from") rows)) (second_in (first_of (codes "to") rows)) → replay_by places wish ≡ replay_in rows
unfolding replay_in
replay_told rows places wish net events n e p w =
    ap (λ (x : Option Places). replay_by x wish) p
    ∙ ap (λ (x : Option Text). replay_by (places_by x events) wish) n
    ∙ ap (λ (x : Option Text). replay_by (places_by (first_of (codes "net") rows) x) wish) e
    ∙ ap (λ (x : Option Wish). replay_by (places_by (first_of (codes "net") rows) (first_of (codes "events") rows)) x) w

-- what `get_flag` says, where the flag's text is known
pub flag_told : (o : Option Text) (r b : Bool) → (o ≡ None → r ≡ false) → (o ≡ Some (codes "true") → r ≡ true) → (o ≡ Some (codes "false") → r ≡ false)
    → flag_by o ≡ Some b → Some r ≡ flag_by o
flag_told None r b none value other e = ap (λ (x : Bool). Some x) (none refl)
flag_told (Some t) r b none value other e = go (bytes_eq t (codes "true")) (bytes_eq t (codes "false")) refl refl e
  where
    go : (x y : Bool) → bytes_eq t (codes "true") ≡ x → bytes_eq t (codes "false") ≡ y → (if x then Some true else (if y then Some false else None)) ≡ Some b
        → Some r ≡ (if bytes_eq t (codes "true") then Some true else (if bytes_eq t (codes "false") then Some false else None))
    go true y p q h = rw p (ap (λ (x : Bool). Some x) (value (ap (λ (l : Text). Some l) ((bytes_eq-Decides t (codes "true")).0 p))))
    go false true p q h = rw (p, q) (ap (λ (x : Bool). Some x) (other (ap (λ (l : Text). Some l) ((bytes_eq-Decides t (codes "false")).0 q))))
    go false false p q h = cc
