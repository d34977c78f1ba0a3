-- The parse of a command that has places and no options gives what our parts give.
use Rattle.std.proofs.Common.{◌≡◌, ◌∙◌, ap, sym, refl, subst, ℕ, Bool, true, false, List, [], ◌∷◌, ◌++◌, map, Option, Some, None}
use Rattle.std.specs.Prelude.{codes, ◌==◌}
use Rattle.std.specs.Str.{bytes_eq, chars}
use Rattle.clap.specs.Lexer.{long_of}
use Rattle.clap.specs.Walk.{Row, Text, idle, walked}
use Rattle.clap.specs.Simple.{Shape}
use Rattle.clap.specs.Faults.{turn_fault}
use Rattle.clap.specs.declared.error.kind.ErrorKind.TheVariants as kind
use Rattle.command_words.specs.Forms.{Command, Part, Place, Bounds, From, To, Stray, is_place, part_of, parts_of, takes_next}
use Rattle.command_words.specs.Matched.{Read}
use Rattle.command_words.proofs.Taking.{parts_dashes, parts_pair, parts_last, parts_lone, parts_none}
use Rattle.command_words.proofs.Outcome.{left_of, goes_on, ends}
use Rattle.command_words.proofs.Looks.{AllSpelled, Dashed, Look, look}
use Rattle.command_words.proofs.Looks as word
use Rattle.command_words.proofs.Turns.{Pending, Placed, at}

-- a command: its shape, what is read of its rows, where the next place stands, what it comes to where
-- some places were taken, and what holds of the rows and of what waits for its end
pub record Form : Type 1 where
  pub shape : Shape
  pub read : Read
  pub position : List Text → ℕ
  pub after : List Text → List Part → Option Command
  pub Fits : List Row → Pending → List Text → Type 0

-- the parse of the words gives what our parts give, from wherever it stands
abbrev pub Follows : Form → Bool → List Text → List Part → Type 0
Follows f t words parts = (rows : List Row) (p : Pending) (ps : List Text) → f.Fits rows p ps
    → left_of f.shape f.read (at rows p idle (f.position ps) t) words ≡ f.after ps parts

-- a place is taken, `--` ends the options, and an option is refused
pub record OnlyPlaces (f : Form) : Type 0 where
  pub place_step : (t : Bool) (w : Text) (words : List Text) (parts : List Part) → Placed t w → Follows f t words parts → Follows f t (w ∷ words) (Place w ∷ parts)
  pub end_step : (t : Bool) → Follows f t [] []
  pub no_option : (ps : List Text) (part : Part) (rest : List Part) → is_place part ≡ false → f.after ps (part ∷ rest) ≡ None
  pub fault_dashes : (rows : List Row) (p : Pending) (n : ℕ) → turn_fault f.shape [] (at rows p idle n false) (codes "--") ≡ []
  pub after_dashes : (rows : List Row) (p : Pending) (n : ℕ) → walked f.shape.rules [] (at rows p idle n false) (codes "--") ≡ at rows p idle n true
  pub fault_long : (rows : List Row) (p : Pending) (n : ℕ) (w name : Text) (v : Option Text) → bytes_eq w (codes "--") ≡ false → long_of w ≡ Some (name, v)
      → turn_fault f.shape [] (at rows p idle n false) w ≡ kind.UnknownArgument ∷ []
  pub fault_short : (rows : List Row) (p : Pending) (n : ℕ) (x : ℕ) (xs : Text) (c : ℕ) (cs : List ℕ) → (x == 45) ≡ false → chars (x ∷ xs) ≡ c ∷ cs
      → turn_fault f.shape [] (at rows p idle n false) (45 ∷ x ∷ xs) ≡ kind.UnknownArgument ∷ []

ended : (f : Form) → OnlyPlaces f → (words : List Text) → Follows f true words (map Place words)
ended f o [] = o.end_step true
ended f o (w ∷ words) = o.place_step true w words (map Place words) tt (ended f o words)

-- the word is refused wherever it stands
abbrev Bad : Form → Text → Type 0
Bad f w = (rows : List Row) (p : Pending) (n : ℕ) → turn_fault f.shape [] (at rows p idle n false) w ≡ kind.UnknownArgument ∷ []

refused : (f : Form) → OnlyPlaces f → (w : Text) (words : List Text) (parts rest : List Part) (part : Part) → parts ≡ part ∷ rest → is_place part ≡ false
    → Bad f w → Follows f false (w ∷ words) parts
refused f o w words parts rest part is no_place bad rows p ps fits =
    ends f.shape f.read (at rows p idle (f.position ps) false) w words kind.UnknownArgument [] (bad rows p (f.position ps))
    ∙ sym (ap (λ (l : List Part). f.after ps l) is ∙ o.no_option ps part rest no_place)

abbrev Alone : Form → Text → List Text → Type 0
Alone f w words = Follows f false (w ∷ words) (parts_of (w ∷ words))

lone : (f : Form) → OnlyPlaces f → (w : Text) (words : List Text) (part : Part) → bytes_eq w (codes "--") ≡ false → takes_next w ≡ false → part_of w ≡ part
    → is_place part ≡ false → Bad f w → Alone f w words
lone f o w words part d t is no_place bad =
    refused f o w words (parts_of (w ∷ words)) (parts_of words) part (parts_lone w words d t ∙ ap (λ (q : Part). q ∷ parts_of words) is) no_place bad

from_or_end : (f : Form) → OnlyPlaces f → (words : List Text) → Alone f (codes "--from") words
from_or_end f o [] = refused f o (codes "--from") [] (parts_of (codes "--from" ∷ [])) (parts_of []) Stray (parts_last (codes "--from") refl) refl
    (λ rows p n. o.fault_long rows p n (codes "--from") (codes "from") None refl refl)
from_or_end f o (v ∷ rest) = refused f o (codes "--from") (v ∷ rest) (parts_of (codes "--from" ∷ v ∷ rest)) (parts_of rest) (From v) (parts_pair (codes "--from") v rest refl refl) refl
    (λ rows p n. o.fault_long rows p n (codes "--from") (codes "from") None refl refl)

to_or_end : (f : Form) → OnlyPlaces f → (words : List Text) → Alone f (codes "--to") words
to_or_end f o [] = refused f o (codes "--to") [] (parts_of (codes "--to" ∷ [])) (parts_of []) Stray (parts_last (codes "--to") refl) refl
    (λ rows p n. o.fault_long rows p n (codes "--to") (codes "to") None refl refl)
to_or_end f o (v ∷ rest) = refused f o (codes "--to") (v ∷ rest) (parts_of (codes "--to" ∷ v ∷ rest)) (parts_of rest) (To v) (parts_pair (codes "--to") v rest refl refl) refl
    (λ rows p n. o.fault_long rows p n (codes "--to") (codes "to") None refl refl)

dashed_word : (f : Form) → OnlyPlaces f → (w : Text) (words : List Text) → Dashed w → Alone f w words
dashed_word f o w words d = go d
  where
    along : (v : Text) → w ≡ v → Alone f v words → Alone f w words
    along v e h = subst (λ (x : Text). Alone f x words) (sym e) h

    go : Dashed w → Alone f w words
    go (word.dashes e) = along (codes "--") e
        (subst (Follows f false (codes "--" ∷ words)) (sym (parts_dashes words))
        (λ rows p ps fits. goes_on f.shape f.read (at rows p idle (f.position ps) false) (at rows p idle (f.position ps) true) (codes "--") words
        (o.fault_dashes rows p (f.position ps)) (o.after_dashes rows p (f.position ps)) ∙ ended f o words rows p ps fits))
    go (word.bounds e) = along (codes "--bounds") e (lone f o (codes "--bounds") words Bounds refl refl refl refl
        (λ rows p n. o.fault_long rows p n (codes "--bounds") (codes "bounds") None refl refl))
    go (word.bounds_with v e) = along (codes "--bounds=" ++ v) e (lone f o (codes "--bounds=" ++ v) words Stray refl refl refl refl
        (λ rows p n. o.fault_long rows p n (codes "--bounds=" ++ v) (codes "bounds") (Some v) refl refl))
    go (word.from e) = along (codes "--from") e (from_or_end f o words)
    go (word.from_with v e) = along (codes "--from=" ++ v) e (lone f o (codes "--from=" ++ v) words (From v) refl refl refl refl
        (λ rows p n. o.fault_long rows p n (codes "--from=" ++ v) (codes "from") (Some v) refl refl))
    go (word.to e) = along (codes "--to") e (to_or_end f o words)
    go (word.to_with v e) = along (codes "--to=" ++ v) e (lone f o (codes "--to=" ++ v) words (To v) refl refl refl refl
        (λ rows p n. o.fault_long rows p n (codes "--to=" ++ v) (codes "to") (Some v) refl refl))
    go (word.strange s) = lone f o w words Stray s.dashes s.next s.part refl (λ rows p n. o.fault_long rows p n w s.name s.value s.dashes s.long)
    go (word.short x xs c cs e other is) = along (45 ∷ x ∷ xs) e
        (lone f o (45 ∷ x ∷ xs) words Stray (rw other refl) (rw other refl) (rw other refl) refl (λ rows p n. o.fault_short rows p n x xs c cs other is))

word_step : (f : Form) → OnlyPlaces f → (w : Text) (words : List Text) → Look w → Follows f false words (parts_of words) → Alone f w words
word_step f o w words (word.dashed d) next = dashed_word f o w words d
word_step f o w words (word.place h) next =
    subst (Follows f false (w ∷ words)) (sym (parts_lone w words h.dashes h.next ∙ ap (λ (q : Part). q ∷ parts_of words) h.part))
    (o.place_step false w words (parts_of words) h next)

pub places_follow : (f : Form) → OnlyPlaces f → (words : List Text) → AllSpelled words → Follows f false words (parts_of words)
places_follow f o [] all = subst (Follows f false []) (sym parts_none) (o.end_step false)
places_follow f o (w ∷ words) all = word_step f o w words (look w all.0) (places_follow f o words all.1)
