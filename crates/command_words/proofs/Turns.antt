-- What a word does to the parse of a replay.
use Rattle.std.proofs.Common.{◌≡◌, ap, refl, ℕ, Bool, true, false, List, [], ◌∷◌, ◌++◌, length, Option, Some, None}
use Rattle.std.specs.Prelude.{if◌then◌else◌, codes, ◌&&◌, ◌==◌, slice_get}
use Rattle.std.specs.Str.{bytes_eq, chars}
use Rattle.clap.specs.Lexer.{long_of, short_of}
use Rattle.clap.specs.Kinds.{Kinds, or_else}
use Rattle.clap.specs.Walk.{Held, Row, Rule, Text, Waiting, Walk, idle, option, positional, has_row, is_pending, pushed, settled, settled_rows, used, walked}
use Rattle.clap.specs.Simple.{Shape, built_leaf, inherited, filled, with_index}
use Rattle.clap.specs.Faults.{bundle_step_fault, flags_fault, settle_fault, turn_fault, use_fault}
use Rattle.clap.specs.declared.error.kind.ErrorKind.{ErrorKind}
use Rattle.clap.specs.declared.error.kind.ErrorKind.TheVariants as kind
use Rattle.clap.proofs.OnLiterals.{clap_on_literals}
use Rattle.command_words.specs.Told.{bare_app, replay_app, place_rule, option_rule, flag_rule}
use Rattle.command_words.proofs.Looks.{Plain, Strange}

abbrev pub net_rule : Rule
net_rule = with_index 1 (filled (place_rule (codes "net")))

abbrev pub events_rule : Rule
events_rule = with_index 2 (filled (place_rule (codes "events")))

abbrev pub bounds_rule : Rule
bounds_rule = with_index 3 (filled (flag_rule (codes "bounds")))

abbrev pub from_rule : Rule
from_rule = with_index 3 (filled (option_rule (codes "from")))

abbrev pub to_rule : Rule
to_rule = with_index 3 (filled (option_rule (codes "to")))

abbrev pub replay_rules : List Rule
replay_rules = net_rule ∷ events_rule ∷ bounds_rule ∷ from_rule ∷ to_rule ∷ []

unfoldable pub replay_shape : Shape
replay_shape = built_leaf (inherited bare_app.top replay_app.top)

abbrev pub Pending : Type 0
Pending = Option (Text × List Text)

abbrev pub held : List Row → Pending → Held
held rows p = record { rows = rows; pending = p; skip = 0 }

abbrev pub at : List Row → Pending → Waiting → ℕ → Bool → Walk
at rows p waiting position has_ended = record { held = held rows p; waiting = waiting; position = position; is_trailing = has_ended; stopped = None }

-- what is wrong with what waits for its end, and the rows with it
unfoldable pub owed : List Row → Pending → Kinds
owed rows p = settle_fault replay_rules false (held rows p)

unfoldable pub kept : List Row → Pending → List Row
kept rows p = settled_rows replay_rules p rows

pub either_way : (b : Bool) {X : Type 0} (x y : X) → (if b && false then x else y) ≡ y
either_way true x y = refl
either_way false x y = refl

-- the word is a place, where the options have ended or by itself
abbrev pub Placed : Bool → Text → Type 0
Placed true w = Unit {0}
Placed false w = Plain w

pub fault_net : (t : Bool) (rows : List Row) (p : Pending) (w : Text) → Placed t w → turn_fault replay_shape [] (at rows p idle 1 t) w ≡ owed rows p
unfolding replay_shape clap_on_literals owed
fault_net true rows p w h = either_way (is_pending net_rule p) [] _
fault_net false rows p w h =
    let d = h.dashes in
    let l = h.long in
    let s = h.short in
    rw (d, l, s) (either_way (is_pending net_rule p) [] _)

pub after_net : (t : Bool) (rows : List Row) (p : Pending) (w : Text) → Placed t w
    → walked replay_shape.rules [] (at rows p idle 1 t) w ≡ at (kept rows p) (Some (codes "net", w ∷ [])) idle 2 t
unfolding replay_shape clap_on_literals kept
after_net true rows p w h =
    ap (λ (h : Held). record { held = pushed (codes "net") w h; waiting = idle; position = 2; is_trailing = true; stopped = None })
    (either_way (is_pending net_rule p) (held rows p) (settled replay_rules (held rows p)))
after_net false rows p w h =
    let d = h.dashes in
    let l = h.long in
    let s = h.short in
    rw (d, l, s) (ap (λ (h : Held). record { held = pushed (codes "net") w h; waiting = idle; position = 2; is_trailing = false; stopped = None })
    (either_way (is_pending net_rule p) (held rows p) (settled replay_rules (held rows p))))

pub fault_events : (t : Bool) (rows : List Row) (p : Pending) (w : Text) → Placed t w → turn_fault replay_shape [] (at rows p idle 2 t) w ≡ owed rows p
unfolding replay_shape clap_on_literals owed
fault_events true rows p w h = either_way (is_pending events_rule p) [] _
fault_events false rows p w h =
    let d = h.dashes in
    let l = h.long in
    let s = h.short in
    rw (d, l, s) (either_way (is_pending events_rule p) [] _)

pub after_events : (t : Bool) (rows : List Row) (p : Pending) (w : Text) → Placed t w
    → walked replay_shape.rules [] (at rows p idle 2 t) w ≡ at (kept rows p) (Some (codes "events", w ∷ [])) idle 3 t
unfolding replay_shape clap_on_literals kept
after_events true rows p w h =
    ap (λ (h : Held). record { held = pushed (codes "events") w h; waiting = idle; position = 3; is_trailing = true; stopped = None })
    (either_way (is_pending events_rule p) (held rows p) (settled replay_rules (held rows p)))
after_events false rows p w h =
    let d = h.dashes in
    let l = h.long in
    let s = h.short in
    rw (d, l, s) (ap (λ (h : Held). record { held = pushed (codes "events") w h; waiting = idle; position = 3; is_trailing = false; stopped = None })
    (either_way (is_pending events_rule p) (held rows p) (settled replay_rules (held rows p))))

pub fault_third : (t : Bool) (rows : List Row) (p : Pending) (w : Text) → Placed t w → turn_fault replay_shape [] (at rows p idle 3 t) w ≡ kind.UnknownArgument ∷ []
unfolding replay_shape clap_on_literals
fault_third true rows p w h = refl
fault_third false rows p w h =
    let d = h.dashes in
    let l = h.long in
    let s = h.short in
    rw (d, l, s) refl

-- where the options have ended

pub fault_net_ended : (rows : List Row) (p : Pending) (x : Waiting) (w : Text) → turn_fault replay_shape [] (at rows p x 1 true) w ≡ owed rows p
unfolding replay_shape clap_on_literals owed
fault_net_ended rows p x w = either_way (is_pending net_rule p) [] _

pub fault_events_ended : (rows : List Row) (p : Pending) (x : Waiting) (w : Text) → turn_fault replay_shape [] (at rows p x 2 true) w ≡ owed rows p
unfolding replay_shape clap_on_literals owed
fault_events_ended rows p x w = either_way (is_pending events_rule p) [] _

pub fault_third_ended : (rows : List Row) (p : Pending) (x : Waiting) (w : Text) → turn_fault replay_shape [] (at rows p x 3 true) w ≡ kind.UnknownArgument ∷ []
unfolding replay_shape clap_on_literals
fault_third_ended rows p x w = refl

-- ---- `--`

pub fault_dashes : (rows : List Row) (p : Pending) (x : Waiting) (n : ℕ) → turn_fault replay_shape [] (at rows p x n false) (codes "--") ≡ []
unfolding replay_shape clap_on_literals
fault_dashes rows p idle n = refl
fault_dashes rows p (option id) n = refl
fault_dashes rows p positional n = refl

pub after_dashes : (rows : List Row) (p : Pending) (x : Waiting) (n : ℕ) → walked replay_shape.rules [] (at rows p x n false) (codes "--") ≡ at rows p x n true
unfolding replay_shape clap_on_literals
after_dashes rows p idle n = refl
after_dashes rows p (option id) n = refl
after_dashes rows p positional n = refl

-- ---- the flag, and options with their value in one word

pub fault_bounds : (rows : List Row) (p : Pending) (x : Waiting) (n : ℕ)
    → turn_fault replay_shape [] (at rows p x n false) (codes "--bounds") ≡ or_else (or_else (owed rows p) (use_fault false bounds_rule [] (kept rows p))) []
unfolding replay_shape clap_on_literals owed kept
fault_bounds rows p idle n = refl
fault_bounds rows p (option id) n = refl
fault_bounds rows p positional n = refl

pub after_bounds : (rows : List Row) (p : Pending) (n : ℕ)
    → walked replay_shape.rules [] (at rows p idle n false) (codes "--bounds") ≡ at (used bounds_rule [] (kept rows p)) None idle n false
unfolding replay_shape clap_on_literals kept
after_bounds rows p n = refl

pub fault_from_with : (rows : List Row) (p : Pending) (x : Waiting) (n : ℕ) (v : Text)
    → turn_fault replay_shape [] (at rows p x n false) (codes "--from=" ++ v) ≡ or_else (or_else (owed rows p) (use_fault false from_rule (v ∷ []) (kept rows p))) []
unfolding replay_shape clap_on_literals owed kept
fault_from_with rows p idle n v = refl
fault_from_with rows p (option id) n v = refl
fault_from_with rows p positional n v = refl

pub after_from_with : (rows : List Row) (p : Pending) (n : ℕ) (v : Text)
    → walked replay_shape.rules [] (at rows p idle n false) (codes "--from=" ++ v) ≡ at (used from_rule (v ∷ []) (kept rows p)) None idle n false
unfolding replay_shape clap_on_literals kept
after_from_with rows p n v = refl

pub fault_to_with : (rows : List Row) (p : Pending) (x : Waiting) (n : ℕ) (v : Text)
    → turn_fault replay_shape [] (at rows p x n false) (codes "--to=" ++ v) ≡ or_else (or_else (owed rows p) (use_fault false to_rule (v ∷ []) (kept rows p))) []
unfolding replay_shape clap_on_literals owed kept
fault_to_with rows p idle n v = refl
fault_to_with rows p (option id) n v = refl
fault_to_with rows p positional n v = refl

pub after_to_with : (rows : List Row) (p : Pending) (n : ℕ) (v : Text)
    → walked replay_shape.rules [] (at rows p idle n false) (codes "--to=" ++ v) ≡ at (used to_rule (v ∷ []) (kept rows p)) None idle n false
unfolding replay_shape clap_on_literals kept
after_to_with rows p n v = refl

-- ---- an option and the word behind it

pub fault_from : (rows : List Row) (p : Pending) (x : Waiting) (n : ℕ) → turn_fault replay_shape [] (at rows p x n false) (codes "--from") ≡ or_else (owed rows p) []
unfolding replay_shape clap_on_literals owed
fault_from rows p idle n = refl
fault_from rows p (option id) n = refl
fault_from rows p positional n = refl

pub after_from : (rows : List Row) (p : Pending) (n : ℕ)
    → walked replay_shape.rules [] (at rows p idle n false) (codes "--from") ≡ at (kept rows p) (Some (codes "from", [])) (option (codes "from")) n false
unfolding replay_shape clap_on_literals kept
after_from rows p n = refl

pub fault_to : (rows : List Row) (p : Pending) (x : Waiting) (n : ℕ) → turn_fault replay_shape [] (at rows p x n false) (codes "--to") ≡ or_else (owed rows p) []
unfolding replay_shape clap_on_literals owed
fault_to rows p idle n = refl
fault_to rows p (option id) n = refl
fault_to rows p positional n = refl

pub after_to : (rows : List Row) (p : Pending) (n : ℕ)
    → walked replay_shape.rules [] (at rows p idle n false) (codes "--to") ≡ at (kept rows p) (Some (codes "to", [])) (option (codes "to")) n false
unfolding replay_shape clap_on_literals kept
after_to rows p n = refl

pub fault_from_value : (rows : List Row) (n : ℕ) (v : Text) → Plain v → turn_fault replay_shape [] (at rows (Some (codes "from", [])) (option (codes "from")) n false) v ≡ []
unfolding replay_shape clap_on_literals
fault_from_value rows n v h =
    let d = h.dashes in
    let l = h.long in
    let s = h.short in
    rw (d, l, s) refl

pub after_from_value : (rows : List Row) (n : ℕ) (v : Text) → Plain v
    → walked replay_shape.rules [] (at rows (Some (codes "from", [])) (option (codes "from")) n false) v ≡ at rows (Some (codes "from", v ∷ [])) idle n false
unfolding replay_shape clap_on_literals
after_from_value rows n v h =
    let d = h.dashes in
    let l = h.long in
    let s = h.short in
    rw (d, l, s) refl

pub fault_to_value : (rows : List Row) (n : ℕ) (v : Text) → Plain v → turn_fault replay_shape [] (at rows (Some (codes "to", [])) (option (codes "to")) n false) v ≡ []
unfolding replay_shape clap_on_literals
fault_to_value rows n v h =
    let d = h.dashes in
    let l = h.long in
    let s = h.short in
    rw (d, l, s) refl

pub after_to_value : (rows : List Row) (n : ℕ) (v : Text) → Plain v
    → walked replay_shape.rules [] (at rows (Some (codes "to", [])) (option (codes "to")) n false) v ≡ at rows (Some (codes "to", v ∷ [])) idle n false
unfolding replay_shape clap_on_literals
after_to_value rows n v h =
    let d = h.dashes in
    let l = h.long in
    let s = h.short in
    rw (d, l, s) refl

-- ---- words that are refused

pub fault_strange : (rows : List Row) (p : Pending) (x : Waiting) (n : ℕ) (w : Text) → Strange w → turn_fault replay_shape [] (at rows p x n false) w ≡ kind.UnknownArgument ∷ []
unfolding replay_shape clap_on_literals
fault_strange rows p idle n w h =
    let d = h.dashes in
    let l = h.long in
    let b = h.no_bounds in
    let f = h.no_from in
    let u = h.no_to in
    rw (d, l, b, f, u) refl
fault_strange rows p (option id) n w h =
    let d = h.dashes in
    let l = h.long in
    let b = h.no_bounds in
    let f = h.no_from in
    let u = h.no_to in
    rw (d, l, b, f, u) refl
fault_strange rows p positional n w h =
    let d = h.dashes in
    let l = h.long in
    let b = h.no_bounds in
    let f = h.no_from in
    let u = h.no_to in
    rw (d, l, b, f, u) refl

pub fault_bounds_with : (rows : List Row) (p : Pending) (x : Waiting) (n : ℕ) (v : Text) → turn_fault replay_shape [] (at rows p x n false) (codes "--bounds=" ++ v) ≡ kind.TooManyValues ∷ []
unfolding replay_shape clap_on_literals
fault_bounds_with rows p idle n v = refl
fault_bounds_with rows p (option id) n v = refl
fault_bounds_with rows p positional n v = refl

pub fault_first : (a b : Kinds) (k : ErrorKind) (ks : Kinds) → a ≡ k ∷ ks → or_else a b ≡ k ∷ ks
fault_first a b k ks e = ap (λ (l : Kinds). or_else l b) e

-- no argument has a short name
bundle : (x : ℕ) (xs : Text) (c : ℕ) (cs : List ℕ) (h : Held) → chars (x ∷ xs) ≡ c ∷ cs
    → flags_fault replay_rules false (length (x ∷ xs)) (x ∷ xs) 0 h ≡ kind.UnknownArgument ∷ []
unfolding flags_fault
bundle x xs c cs h is = ap (λ (l : List ℕ). bundle_step_fault replay_rules false (slice_get l 0) (x ∷ xs) 0 h (flags_fault replay_rules false (length xs))) is

fault_bundle : (rows : List Row) (p : Pending) (y : Waiting) (n : ℕ) (w : Text) (x : ℕ) (xs : Text) (c : ℕ) (cs : List ℕ)
    → bytes_eq w (codes "--") ≡ false → long_of w ≡ None → short_of w ≡ Some (x ∷ xs) → chars (x ∷ xs) ≡ c ∷ cs
    → turn_fault replay_shape [] (at rows p y n false) w ≡ kind.UnknownArgument ∷ []
unfolding replay_shape
fault_bundle rows p idle n w x xs c cs d l s is = rw (d, l, s) (fault_first _ _ _ _ (bundle x xs c cs (held rows p) is))
fault_bundle rows p (option id) n w x xs c cs d l s is = rw (d, l, s) (fault_first _ _ _ _ (bundle x xs c cs (held rows p) is))
fault_bundle rows p positional n w x xs c cs d l s is = rw (d, l, s) (fault_first _ _ _ _ (bundle x xs c cs (held rows p) is))

pub fault_short : (rows : List Row) (p : Pending) (y : Waiting) (n : ℕ) (x : ℕ) (xs : Text) (c : ℕ) (cs : List ℕ) → (x == 45) ≡ false → chars (x ∷ xs) ≡ c ∷ cs
    → turn_fault replay_shape [] (at rows p y n false) (45 ∷ x ∷ xs) ≡ kind.UnknownArgument ∷ []
fault_short rows p y n x xs c cs other is = fault_bundle rows p y n (45 ∷ x ∷ xs) x xs c cs (rw other refl) (rw other refl) (rw other refl) is

-- ---- one use

pub use_net : (rows : List Row) (w : Text) → has_row (codes "net") rows ≡ false → use_fault false net_rule (w ∷ []) rows ≡ []
use_net rows w other = rw other refl

pub use_events : (rows : List Row) (w : Text) → has_row (codes "events") rows ≡ false → use_fault false events_rule (w ∷ []) rows ≡ []
use_events rows w other = rw other refl

pub use_bounds : (rows : List Row) → has_row (codes "bounds") rows ≡ false → use_fault false bounds_rule [] rows ≡ []
use_bounds rows other = rw other refl

pub use_from : (rows : List Row) (v : Text) → has_row (codes "from") rows ≡ false → use_fault false from_rule (v ∷ []) rows ≡ []
use_from rows v other = rw other refl

pub use_to : (rows : List Row) (v : Text) → has_row (codes "to") rows ≡ false → use_fault false to_rule (v ∷ []) rows ≡ []
use_to rows v other = rw other refl

pub use_bounds_again : (rows : List Row) → has_row (codes "bounds") rows ≡ true → use_fault false bounds_rule [] rows ≡ kind.ArgumentConflict ∷ []
use_bounds_again rows there = rw there refl

pub use_from_again : (rows : List Row) (v : Text) → has_row (codes "from") rows ≡ true → use_fault false from_rule (v ∷ []) rows ≡ kind.ArgumentConflict ∷ []
use_from_again rows v there = rw there refl

pub use_to_again : (rows : List Row) (v : Text) → has_row (codes "to") rows ≡ true → use_fault false to_rule (v ∷ []) rows ≡ kind.ArgumentConflict ∷ []
use_to_again rows v there = rw there refl
