-- What a word does to the parse of a check.
use Rattle.std.proofs.Common.{◌≡◌, ap, refl, ℕ, Bool, true, false, List, [], ◌∷◌, length, Option, Some, None}
use Rattle.std.specs.Prelude.{codes, ◌==◌, slice_get}
use Rattle.std.specs.Str.{bytes_eq, chars}
use Rattle.clap.specs.Lexer.{long_of, short_of}
use Rattle.clap.specs.Kinds.{Kinds}
use Rattle.clap.specs.Walk.{Held, Row, Rule, Text, idle, has_row, is_pending, pushed, settled, settled_rows, walked}
use Rattle.clap.specs.Simple.{Shape, built_leaf, inherited, filled, with_index}
use Rattle.clap.specs.Faults.{bundle_step_fault, flags_fault, settle_fault, turn_fault, use_fault}
use Rattle.clap.specs.declared.error.kind.ErrorKind.TheVariants as kind
use Rattle.clap.proofs.OnLiterals.{clap_on_literals}
use Rattle.command_words.specs.Told.{bare_app, check_app, place_rule}
use Rattle.command_words.proofs.Turns.{Pending, Placed, at, either_way, events_rule, fault_first, held, net_rule}

abbrev pub report_rule : Rule
report_rule = with_index 3 (filled (place_rule (codes "report")))

abbrev pub check_rules : List Rule
check_rules = net_rule ∷ events_rule ∷ report_rule ∷ []

unfoldable pub check_shape : Shape
check_shape = built_leaf (inherited bare_app.top check_app.top)

unfoldable pub owed : List Row → Pending → Kinds
owed rows p = settle_fault check_rules false (held rows p)

unfoldable pub kept : List Row → Pending → List Row
kept rows p = settled_rows check_rules p rows

pub fault_net : (t : Bool) (rows : List Row) (p : Pending) (w : Text) → Placed t w → turn_fault check_shape [] (at rows p idle 1 t) w ≡ owed rows p
unfolding check_shape clap_on_literals owed
fault_net true rows p w h = either_way (is_pending net_rule p) [] _
fault_net false rows p w h =
    let d = h.dashes in
    let l = h.long in
    let s = h.short in
    rw (d, l, s) (either_way (is_pending net_rule p) [] _)

pub after_net : (t : Bool) (rows : List Row) (p : Pending) (w : Text) → Placed t w
    → walked check_shape.rules [] (at rows p idle 1 t) w ≡ at (kept rows p) (Some (codes "net", w ∷ [])) idle 2 t
unfolding check_shape clap_on_literals kept
after_net true rows p w h =
    ap (λ (h : Held). record { held = pushed (codes "net") w h; waiting = idle; position = 2; is_trailing = true; stopped = None })
    (either_way (is_pending net_rule p) (held rows p) (settled check_rules (held rows p)))
after_net false rows p w h =
    let d = h.dashes in
    let l = h.long in
    let s = h.short in
    rw (d, l, s) (ap (λ (h : Held). record { held = pushed (codes "net") w h; waiting = idle; position = 2; is_trailing = false; stopped = None })
    (either_way (is_pending net_rule p) (held rows p) (settled check_rules (held rows p))))

pub fault_events : (t : Bool) (rows : List Row) (p : Pending) (w : Text) → Placed t w → turn_fault check_shape [] (at rows p idle 2 t) w ≡ owed rows p
unfolding check_shape clap_on_literals owed
fault_events true rows p w h = either_way (is_pending events_rule p) [] _
fault_events false rows p w h =
    let d = h.dashes in
    let l = h.long in
    let s = h.short in
    rw (d, l, s) (either_way (is_pending events_rule p) [] _)

pub after_events : (t : Bool) (rows : List Row) (p : Pending) (w : Text) → Placed t w
    → walked check_shape.rules [] (at rows p idle 2 t) w ≡ at (kept rows p) (Some (codes "events", w ∷ [])) idle 3 t
unfolding check_shape clap_on_literals kept
after_events true rows p w h =
    ap (λ (h : Held). record { held = pushed (codes "events") w h; waiting = idle; position = 3; is_trailing = true; stopped = None })
    (either_way (is_pending events_rule p) (held rows p) (settled check_rules (held rows p)))
after_events false rows p w h =
    let d = h.dashes in
    let l = h.long in
    let s = h.short in
    rw (d, l, s) (ap (λ (h : Held). record { held = pushed (codes "events") w h; waiting = idle; position = 3; is_trailing = false; stopped = None })
    (either_way (is_pending events_rule p) (held rows p) (settled check_rules (held rows p))))

pub fault_report : (t : Bool) (rows : List Row) (p : Pending) (w : Text) → Placed t w → turn_fault check_shape [] (at rows p idle 3 t) w ≡ owed rows p
unfolding check_shape clap_on_literals owed
fault_report true rows p w h = either_way (is_pending report_rule p) [] _
fault_report false rows p w h =
    let d = h.dashes in
    let l = h.long in
    let s = h.short in
    rw (d, l, s) (either_way (is_pending report_rule p) [] _)

pub after_report : (t : Bool) (rows : List Row) (p : Pending) (w : Text) → Placed t w
    → walked check_shape.rules [] (at rows p idle 3 t) w ≡ at (kept rows p) (Some (codes "report", w ∷ [])) idle 4 t
unfolding check_shape clap_on_literals kept
after_report true rows p w h =
    ap (λ (h : Held). record { held = pushed (codes "report") w h; waiting = idle; position = 4; is_trailing = true; stopped = None })
    (either_way (is_pending report_rule p) (held rows p) (settled check_rules (held rows p)))
after_report false rows p w h =
    let d = h.dashes in
    let l = h.long in
    let s = h.short in
    rw (d, l, s) (ap (λ (h : Held). record { held = pushed (codes "report") w h; waiting = idle; position = 4; is_trailing = false; stopped = None })
    (either_way (is_pending report_rule p) (held rows p) (settled check_rules (held rows p))))

pub fault_fourth : (t : Bool) (rows : List Row) (p : Pending) (w : Text) → Placed t w → turn_fault check_shape [] (at rows p idle 4 t) w ≡ kind.UnknownArgument ∷ []
unfolding check_shape clap_on_literals
fault_fourth true rows p w h = refl
fault_fourth false rows p w h =
    let d = h.dashes in
    let l = h.long in
    let s = h.short in
    rw (d, l, s) refl

-- ---- `--`, and options

pub fault_dashes : (rows : List Row) (p : Pending) (n : ℕ) → turn_fault check_shape [] (at rows p idle n false) (codes "--") ≡ []
unfolding check_shape clap_on_literals
fault_dashes rows p n = refl

pub after_dashes : (rows : List Row) (p : Pending) (n : ℕ) → walked check_shape.rules [] (at rows p idle n false) (codes "--") ≡ at rows p idle n true
unfolding check_shape clap_on_literals
after_dashes rows p n = refl

pub fault_long : (rows : List Row) (p : Pending) (n : ℕ) (w name : Text) (v : Option Text) → bytes_eq w (codes "--") ≡ false → long_of w ≡ Some (name, v)
    → turn_fault check_shape [] (at rows p idle n false) w ≡ kind.UnknownArgument ∷ []
unfolding check_shape clap_on_literals
fault_long rows p n w name v d l = rw (d, l) refl

bundle : (x : ℕ) (xs : Text) (c : ℕ) (cs : List ℕ) (h : Held) → chars (x ∷ xs) ≡ c ∷ cs
    → flags_fault check_rules false (length (x ∷ xs)) (x ∷ xs) 0 h ≡ kind.UnknownArgument ∷ []
unfolding flags_fault
bundle x xs c cs h is = ap (λ (l : List ℕ). bundle_step_fault check_rules false (slice_get l 0) (x ∷ xs) 0 h (flags_fault check_rules false (length xs))) is

fault_bundle : (rows : List Row) (p : Pending) (n : ℕ) (w : Text) (x : ℕ) (xs : Text) (c : ℕ) (cs : List ℕ)
    → bytes_eq w (codes "--") ≡ false → long_of w ≡ None → short_of w ≡ Some (x ∷ xs) → chars (x ∷ xs) ≡ c ∷ cs
    → turn_fault check_shape [] (at rows p idle n false) w ≡ kind.UnknownArgument ∷ []
unfolding check_shape
fault_bundle rows p n w x xs c cs d l s is = rw (d, l, s) (fault_first _ _ _ _ (bundle x xs c cs (held rows p) is))

pub fault_short : (rows : List Row) (p : Pending) (n : ℕ) (x : ℕ) (xs : Text) (c : ℕ) (cs : List ℕ) → (x == 45) ≡ false → chars (x ∷ xs) ≡ c ∷ cs
    → turn_fault check_shape [] (at rows p idle n false) (45 ∷ x ∷ xs) ≡ kind.UnknownArgument ∷ []
fault_short rows p n x xs c cs other is = fault_bundle rows p n (45 ∷ x ∷ xs) x xs c cs (rw other refl) (rw other refl) (rw other refl) is

-- ---- one use

pub use_report : (rows : List Row) (w : Text) → has_row (codes "report") rows ≡ false → use_fault false report_rule (w ∷ []) rows ≡ []
use_report rows w other = rw other refl
