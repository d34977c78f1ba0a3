-- What a level of a parse comes to, word by word.
use Rattle.std.proofs.Common.{◌≡◌, ◌∙◌, ap, sym, refl, List, [], ◌∷◌, Option, None}
use Rattle.std.specs.Prelude.{false}
use Rattle.std.specs.List.{fold}
use Rattle.clap.specs.Kinds.{Kinds, or_else}
use Rattle.clap.specs.Walk.{Held, Row, Text, Walk, finished, settled, walked}
use Rattle.clap.specs.Simple.{Shape}
use Rattle.clap.specs.Faults.{check_fault, defaults_fault, settle_fault, turn_fault, walk_fault}
use Rattle.clap.specs.declared.error.kind.ErrorKind.{ErrorKind}
use Rattle.command_words.specs.Forms.{Command}

-- a command, where there is no fault
abbrev pub outcome : Kinds → Option Command → Option Command
outcome [] c = c
outcome (k ∷ ks) c = None

outcome-or_else : (a b : Kinds) (c : Option Command) → outcome (or_else a b) c ≡ outcome a (outcome b c)
outcome-or_else [] b c = refl
outcome-or_else (k ∷ ks) b c = refl

pub or_else-nil : (a : Kinds) → or_else a [] ≡ a
or_else-nil [] = refl
or_else-nil (k ∷ ks) = refl

-- what is wrong once the words are read
abbrev pub end_fault : Shape → Held → Kinds
end_fault s h =
    or_else (settle_fault s.rules s.args_override_self h)
    (or_else (defaults_fault (settled s.rules h).rows s.rules) (check_fault s (finished s.rules h) false))

abbrev pub end_of : Shape → Walk → List Text → Held
end_of s w words = (fold (walked s.rules []) w words).held

-- what is read of the rows at the end, where nothing is wrong from here on
unfoldable pub left_of : Shape → (List Row → Option Command) → Walk → List Text → Option Command
left_of s read w words =
    outcome (or_else (walk_fault s [] w words) (end_fault s (end_of s w words))) (read (finished s.rules (end_of s w words)))

turn : (s : Shape) (read : List Row → Option Command) (w : Walk) (word : Text) (rest : List Text)
    → left_of s read w (word ∷ rest) ≡ outcome (turn_fault s [] w word) (left_of s read (walked s.rules [] w word) rest)
unfolding left_of walk_fault
turn s read w word rest =
    let next = walked s.rules [] w word in
    let now = turn_fault s [] w word in
    let later = walk_fault s [] next rest in
    let last = end_fault s (end_of s next rest) in
    let result = read (finished s.rules (end_of s next rest)) in
    outcome-or_else (or_else now later) last result ∙ outcome-or_else now later (outcome last result)
    ∙ ap (outcome now) (sym (outcome-or_else later last result))

pub goes_on : (s : Shape) (read : List Row → Option Command) (w next : Walk) (word : Text) (rest : List Text)
    → turn_fault s [] w word ≡ [] → walked s.rules [] w word ≡ next → left_of s read w (word ∷ rest) ≡ left_of s read next rest
goes_on s read w next word rest fine is =
    turn s read w word rest ∙ ap (λ (k : Kinds). outcome k (left_of s read (walked s.rules [] w word) rest)) fine
    ∙ ap (λ (v : Walk). left_of s read v rest) is

pub ends : (s : Shape) (read : List Row → Option Command) (w : Walk) (word : Text) (rest : List Text) (k : ErrorKind) (ks : Kinds)
    → turn_fault s [] w word ≡ k ∷ ks → left_of s read w (word ∷ rest) ≡ None
ends s read w word rest k ks bad =
    turn s read w word rest ∙ ap (λ (l : Kinds). outcome l (left_of s read (walked s.rules [] w word) rest)) bad

pub last : (s : Shape) (read : List Row → Option Command) (w : Walk) → left_of s read w [] ≡ outcome (end_fault s w.held) (read (finished s.rules w.held))
unfolding left_of walk_fault
last s read w = refl
