-- The shapes of lines by their words.
use Rattle.std.proofs.Common.{◌≡◌, ◌≢◌, ◌<◌, ℕ, Bool, false, cond, List, [], get_or, Result, Err, Contains, refl, sym, ap, ◌∙◌, inl, inr, arith}
use Rattle.std.specs.Prelude.{codes}
use Rattle.std.specs.Str.{bytes_eq}
use Rattle.std.proofs.lemmas.Bool.{cases_Bool, false≢true}
use Rattle.std.proofs.lemmas.Map.Views.{Contains-from_any}
use Rattle.std.proofs.lemmas.List.Folds.{list_any_at}
use Rattle.std.proofs.lemmas.Slice.Eq.{bytes_eq-Decides}
use Rattle.word_tables.specs.Words.{event_words}
use Rattle.event_rules.specs.declared.read_rule.ReadRule.{ReadRule}
use Rattle.event_rules.specs.declared.read_rule.ReadRule.TheVariants.{BadFields, BadWord}
use Rattle.event_rules.specs.EventLines.{Shape, is_event_word, misfit, lone_shape, named_shape, detailed_shape}
use Rattle.event_reader.specs.declared.words.EventWord.{EventWord}
use Rattle.event_reader.specs.declared.words.EventWord.TheVariants.{Call, Gasp, Ping, Powerup, Confirm, Restore, Open, Close, Clock}
use Rattle.event_reader.specs.Words.{spelling}

-- a text that the table hasn't is no word
pub no_word : (text : List ℕ) → (Contains event_words text → ⊥) → is_event_word text ≡ false
no_word text absent =
    elim (cases_Bool (is_event_word text)) [
      | inl has ↦ absurd (absent (Contains-from_any (λ x y. (bytes_eq-Decides x y).0) text event_words has))
      | inr none ↦ none
    ]

-- a text that is no word differs from each
pub differs : (text : List ℕ) → is_event_word text ≡ false → (i : ℕ) → i < 9 → bytes_eq text (get_or event_words i []) ≡ false
differs text none i lt =
    elim (cases_Bool (bytes_eq text (get_or event_words i []))) [
      | inl same ↦ absurd (false≢true (sym none ∙ list_any_at (bytes_eq text) event_words i [] lt same))
      | inr other ↦ other
    ]

pub misfit_none : (text : List ℕ) → is_event_word text ≡ false → misfit text ≡ Err BadWord
unfolding misfit
misfit_none text none =
    let misfit_if : Bool → Result Shape ReadRule = λ is_word. Err (cond is_word BadFields BadWord) in
    ap misfit_if none

-- a text that spells a word has the shape of the word
pub as_spelt : (shape : List ℕ → Result Shape ReadRule) (text : List ℕ) (word known : EventWord) → text ≡ spelling word → word ≡ known → shape (spelling known) ≡ shape text
as_spelt shape text word known spelt is = ap (λ w. shape (spelling w)) (sym is) ∙ ap shape (sym spelt)

-- lines with two fields
pub lone_other : (word : EventWord) → word ≢ Clock → lone_shape (spelling word) ≡ Err BadFields
unfolding lone_shape misfit
lone_other Call other = refl
lone_other Gasp other = refl
lone_other Ping other = refl
lone_other Powerup other = refl
lone_other Confirm other = refl
lone_other Restore other = refl
lone_other Open other = refl
lone_other Close other = refl
lone_other Clock other = absurd (other refl)

pub lone_none : (text : List ℕ) → is_event_word text ≡ false → lone_shape text ≡ Err BadWord
unfolding lone_shape
lone_none text none =
    let clock : bytes_eq text (codes "clock") ≡ false = differs text none 8 (omega arith) in
    rw clock (misfit_none text none)

-- lines with three fields
pub named_other : (word : EventWord) (name : List ℕ) → word ≢ Call → word ≢ Gasp → word ≢ Powerup → word ≢ Restore → word ≢ Open → word ≢ Close → named_shape (spelling word) name ≡ Err BadFields
unfolding named_shape misfit
named_other Call name call gasp powerup restore opened closed = absurd (call refl)
named_other Gasp name call gasp powerup restore opened closed = absurd (gasp refl)
named_other Ping name call gasp powerup restore opened closed = refl
named_other Powerup name call gasp powerup restore opened closed = absurd (powerup refl)
named_other Confirm name call gasp powerup restore opened closed = refl
named_other Restore name call gasp powerup restore opened closed = absurd (restore refl)
named_other Open name call gasp powerup restore opened closed = absurd (opened refl)
named_other Close name call gasp powerup restore opened closed = absurd (closed refl)
named_other Clock name call gasp powerup restore opened closed = refl

pub named_none : (text name : List ℕ) → is_event_word text ≡ false → named_shape text name ≡ Err BadWord
unfolding named_shape
named_none text name none =
    let call : bytes_eq text (codes "call") ≡ false = differs text none 0 (omega arith) in
    let gasp : bytes_eq text (codes "gasp") ≡ false = differs text none 1 (omega arith) in
    let powerup : bytes_eq text (codes "powerup") ≡ false = differs text none 3 (omega arith) in
    let restore : bytes_eq text (codes "restore") ≡ false = differs text none 5 (omega arith) in
    let opened : bytes_eq text (codes "open") ≡ false = differs text none 6 (omega arith) in
    let closed : bytes_eq text (codes "close") ≡ false = differs text none 7 (omega arith) in
    rw (call, gasp, powerup, restore, opened, closed) (misfit_none text none)

-- lines with four fields
pub detailed_other : (word : EventWord) (name detail : List ℕ) → word ≢ Ping → word ≢ Confirm → detailed_shape (spelling word) name detail ≡ Err BadFields
unfolding detailed_shape misfit
detailed_other Call name detail ping confirm = refl
detailed_other Gasp name detail ping confirm = refl
detailed_other Ping name detail ping confirm = absurd (ping refl)
detailed_other Powerup name detail ping confirm = refl
detailed_other Confirm name detail ping confirm = absurd (confirm refl)
detailed_other Restore name detail ping confirm = refl
detailed_other Open name detail ping confirm = refl
detailed_other Close name detail ping confirm = refl
detailed_other Clock name detail ping confirm = refl

pub detailed_none : (text name detail : List ℕ) → is_event_word text ≡ false → detailed_shape text name detail ≡ Err BadWord
unfolding detailed_shape
detailed_none text name detail none =
    let ping : bytes_eq text (codes "ping") ≡ false = differs text none 2 (omega arith) in
    let confirm : bytes_eq text (codes "confirm") ≡ false = differs text none 4 (omega arith) in
    rw (ping, confirm) (misfit_none text none)
