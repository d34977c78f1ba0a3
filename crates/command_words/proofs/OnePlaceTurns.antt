-- What a word does to the parse of a command of one place.
use Rattle.std.proofs.Common.{◌≡◌, ap, refl, ℕ, Bool, true, false, List, [], ◌∷◌, length, Option, Some, None}
use Rattle.std.specs.Prelude.{codes, ◌==◌, slice_get}
use Rattle.std.specs.Str.{bytes_eq, chars}
use Rattle.clap.specs.Lexer.{long_of, short_of}
use Rattle.clap.specs.Kinds.{Kinds}
use Rattle.clap.specs.Walk.{Held, Row, Rule, Text, idle, has_row, is_pending, pushed, settled, settled_rows, walked}
use Rattle.clap.specs.Simple.{Shape, built_leaf, inherited, filled, with_index}
use Rattle.clap.specs.Faults.{bundle_step_fault, flags_fault, settle_fault, turn_fault, use_fault}
use Rattle.clap.specs.declared.error.kind.ErrorKind.TheVariants as kind
use Rattle.clap.proofs.OnLiterals.{clap_on_literals}
use Rattle.command_words.specs.Told.{bare_app, one_place_app, place_rule}
use Rattle.command_words.proofs.Turns.{Pending, Placed, at, either_way, fault_first, held}

abbrev pub one_rule : Text → Rule
one_rule id = with_index 1 (filled (place_rule id))

abbrev pub one_rules : Text → List Rule
one_rules id = one_rule id ∷ []

unfoldable pub one_shape : Text → Text → Shape
one_shape name id = built_leaf (inherited bare_app.top (one_place_app name id).top)

unfoldable pub owed : Text → List Row → Pending → Kinds
owed id rows p = settle_fault (one_rules id) false (held rows p)

unfoldable pub kept : Text → List Row → Pending → List Row
kept id rows p = settled_rows (one_rules id) p rows

pub fault_only : (name id : Text) (t : Bool) (rows : List Row) (p : Pending) (w : Text) → Placed t w → turn_fault (one_shape name id) [] (at rows p idle 1 t) w ≡ owed id rows p
unfolding one_shape clap_on_literals owed
fault_only name id true rows p w h = either_way (is_pending (one_rule id) p) [] _
fault_only name id false rows p w h =
    let d = h.dashes in
    let l = h.long in
    let s = h.short in
    rw (d, l, s) (either_way (is_pending (one_rule id) p) [] _)

pub after_only : (name id : Text) (t : Bool) (rows : List Row) (p : Pending) (w : Text) → Placed t w
    → walked (one_shape name id).rules [] (at rows p idle 1 t) w ≡ at (kept id rows p) (Some (id, w ∷ [])) idle 2 t
unfolding one_shape clap_on_literals kept
after_only name id true rows p w h =
    ap (λ (h : Held). record { held = pushed id w h; waiting = idle; position = 2; is_trailing = true; stopped = None })
    (either_way (is_pending (one_rule id) p) (held rows p) (settled (one_rules id) (held rows p)))
after_only name id false rows p w h =
    let d = h.dashes in
    let l = h.long in
    let s = h.short in
    rw (d, l, s) (ap (λ (h : Held). record { held = pushed id w h; waiting = idle; position = 2; is_trailing = false; stopped = None })
    (either_way (is_pending (one_rule id) p) (held rows p) (settled (one_rules id) (held rows p))))

pub fault_second : (name id : Text) (t : Bool) (rows : List Row) (p : Pending) (w : Text) → Placed t w → turn_fault (one_shape name id) [] (at rows p idle 2 t) w ≡ kind.UnknownArgument ∷ []
unfolding one_shape clap_on_literals
fault_second name id true rows p w h = refl
fault_second name id false rows p w h =
    let d = h.dashes in
    let l = h.long in
    let s = h.short in
    rw (d, l, s) refl

-- ---- `--`, and options

pub fault_dashes : (name id : Text) (rows : List Row) (p : Pending) (n : ℕ) → turn_fault (one_shape name id) [] (at rows p idle n false) (codes "--") ≡ []
unfolding one_shape clap_on_literals
fault_dashes name id rows p n = refl

pub after_dashes : (name id : Text) (rows : List Row) (p : Pending) (n : ℕ) → walked (one_shape name id).rules [] (at rows p idle n false) (codes "--") ≡ at rows p idle n true
unfolding one_shape clap_on_literals
after_dashes name id rows p n = refl

pub fault_long : (name id : Text) (rows : List Row) (p : Pending) (n : ℕ) (w option : Text) (v : Option Text) → bytes_eq w (codes "--") ≡ false → long_of w ≡ Some (option, v)
    → turn_fault (one_shape name id) [] (at rows p idle n false) w ≡ kind.UnknownArgument ∷ []
unfolding one_shape clap_on_literals
fault_long name id rows p n w option v d l = rw (d, l) refl

bundle : (id : Text) (x : ℕ) (xs : Text) (c : ℕ) (cs : List ℕ) (h : Held) → chars (x ∷ xs) ≡ c ∷ cs
    → flags_fault (one_rules id) false (length (x ∷ xs)) (x ∷ xs) 0 h ≡ kind.UnknownArgument ∷ []
unfolding flags_fault
bundle id x xs c cs h is = ap (λ (l : List ℕ). bundle_step_fault (one_rules id) false (slice_get l 0) (x ∷ xs) 0 h (flags_fault (one_rules id) false (length xs))) is

fault_bundle : (name id : Text) (rows : List Row) (p : Pending) (n : ℕ) (w : Text) (x : ℕ) (xs : Text) (c : ℕ) (cs : List ℕ)
    → bytes_eq w (codes "--") ≡ false → long_of w ≡ None → short_of w ≡ Some (x ∷ xs) → chars (x ∷ xs) ≡ c ∷ cs
    → turn_fault (one_shape name id) [] (at rows p idle n false) w ≡ kind.UnknownArgument ∷ []
unfolding one_shape
fault_bundle name id rows p n w x xs c cs d l s is = rw (d, l, s) (fault_first _ _ _ _ (bundle id x xs c cs (held rows p) is))

pub fault_short : (name id : Text) (rows : List Row) (p : Pending) (n : ℕ) (x : ℕ) (xs : Text) (c : ℕ) (cs : List ℕ) → (x == 45) ≡ false → chars (x ∷ xs) ≡ c ∷ cs
    → turn_fault (one_shape name id) [] (at rows p idle n false) (45 ∷ x ∷ xs) ≡ kind.UnknownArgument ∷ []
fault_short name id rows p n x xs c cs other is = fault_bundle name id rows p n (45 ∷ x ∷ xs) x xs c cs (rw other refl) (rw other refl) (rw other refl) is

-- ---- one use

pub use_only : (id : Text) (rows : List Row) (w : Text) → has_row id rows ≡ false → use_fault false (one_rule id) (w ∷ []) rows ≡ []
use_only id rows w other = rw other refl
