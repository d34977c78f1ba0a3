-- Words with commas between them are the fields of their line.
use Rattle.std.proofs.Common.{◌≡◌, ◌==◌, ◌&&◌, ◌||◌, not, true, false, Bool, ℕ, List, [], ◌∷◌, refl, ap, ◌∙◌}
use Rattle.std.specs.List.{list_any, list_all, join_with_byte}
use Rattle.std.proofs.lemmas.Bool.{and_parts, or_from, not-true}
use Rattle.std.proofs.lemmas.List.Folds.{list_any-append}
use Rattle.event_rules.specs.Fields.{between_commas}
use Rattle.line_text.proofs.FieldParts.{parts_from-cut, parts_from-whole}
use Rattle.bound_table.proofs.WordBytes.{is_word_byte, is_word}

abbrev pub are_words : List (List ℕ) → Bool
are_words words = list_all is_word words

-- a test that no byte of a word passes
pub word_none : (test : ℕ → Bool) → ((b : ℕ) → is_word_byte b ≡ true → test b ≡ false) → (word : List ℕ) → is_word word ≡ true → list_any test word ≡ false
word_none test f [] h = refl
word_none test f (b ∷ word) h =
    let parts = and_parts (is_word_byte b) (list_all is_word_byte word) h in
    or_from (test b) (list_any test word) (f b parts.0) (word_none test f word parts.1)

pub words_none : (test : ℕ → Bool) → ((b : ℕ) → is_word_byte b ≡ true → test b ≡ false) → test 44 ≡ false → (words : List (List ℕ)) → are_words words ≡ true → list_any test (join_with_byte 44 words) ≡ false
words_none test f comma [] h = refl
words_none test f comma (word ∷ []) h = word_none test f word (and_parts (is_word word) true h).0
words_none test f comma (word ∷ next ∷ words) h =
    let parts = and_parts (is_word word) (are_words (next ∷ words)) h in
    list_any-append test word (44 ∷ join_with_byte 44 (next ∷ words))
    ∙ or_from (list_any test word) (test 44 || list_any test (join_with_byte 44 (next ∷ words))) (word_none test f word parts.0)
    (or_from (test 44) (list_any test (join_with_byte 44 (next ∷ words))) comma (words_none test f comma (next ∷ words) parts.1))

-- the four bytes that no word holds
record IsWordByte (b : ℕ) : Type 0 where
  lf : (b == 10) ≡ false
  cr : (b == 13) ≡ false
  quote : (b == 34) ≡ false
  comma : (b == 44) ≡ false

word_byte : (b : ℕ) → is_word_byte b ≡ true → IsWordByte b
word_byte b h =
    let a = and_parts (not (b == 10)) (not (b == 13) && (not (b == 34) && not (b == 44))) h in
    let c = and_parts (not (b == 13)) (not (b == 34) && not (b == 44)) a.1 in
    let d = and_parts (not (b == 34)) (not (b == 44)) c.1 in
    record { lf = not-true (b == 10) a.0; cr = not-true (b == 13) c.0; quote = not-true (b == 34) d.0; comma = not-true (b == 44) d.1 }

pub words_no_lf : (words : List (List ℕ)) → are_words words ≡ true → list_any (λ b. b == 10) (join_with_byte 44 words) ≡ false
words_no_lf words h = words_none (λ b. b == 10) (λ b hb. (word_byte b hb).lf) refl words h

pub words_plain : (words : List (List ℕ)) → are_words words ≡ true → list_any (λ b. (b == 13) || (b == 34)) (join_with_byte 44 words) ≡ false
words_plain words h = words_none (λ b. (b == 13) || (b == 34)) (λ b hb. or_from (b == 13) (b == 34) (word_byte b hb).cr (word_byte b hb).quote) refl words h

word_no_comma : (word : List ℕ) → is_word word ≡ true → list_any (λ b. b == 44) word ≡ false
word_no_comma word h = word_none (λ b. b == 44) (λ b hb. (word_byte b hb).comma) word h

pub between_commas-join : (word : List ℕ) (words : List (List ℕ)) → are_words (word ∷ words) ≡ true → between_commas (join_with_byte 44 (word ∷ words)) ≡ word ∷ words
between_commas-join word [] h = parts_from-whole [] word (word_no_comma word (and_parts (is_word word) true h).0)
between_commas-join word (next ∷ words) h =
    let parts = and_parts (is_word word) (are_words (next ∷ words)) h in
    parts_from-cut [] word (join_with_byte 44 (next ∷ words)) (word_no_comma word parts.0) ∙ ap (λ z. word ∷ z) (between_commas-join next words parts.1)
