-- Rows that may stand before the bounds part, and words that may stand in them.
use Rattle.std.proofs.Common.{◌≡◌, ℕ, zero, suc, ◌+◌, ◌/◌, ◌%◌, ◌<◌, true, false, refl, ap, sym, ◌∙◌, ⊎_elim, arith, List, [], ◌∷◌, ◌++◌, length}
use Rattle.std.specs.Prelude.{◌==◌, ◌&&◌, not, decimal, nat_lt, flat_map}
use Rattle.std.specs.Fmt.{digit_glyph, digits_onto, digits}
use Rattle.std.specs.List.{list_any, list_all, join_with_byte}
use Rattle.std.proofs.lemmas.Bool.{and_from, cases_lt, cond_both, cond-true, lt-ltb, ne_eqb, not_from_false}
use Rattle.std.proofs.lemmas.Grind.{flat_map-append}
use Rattle.std.proofs.lemmas.List.{append-nil, get_or_past}
use Rattle.std.proofs.lemmas.List.Folds.{list_all-append}
use Rattle.grid_model.specs.Parts.{Parts}
use Rattle.grid_model.specs.Places.{no_device, device_at, no_meter, meter_at}
use Rattle.grid_model.specs.Sound.{HasNames}
use Rattle.event_rules.specs.Rows.{row}
use Rattle.bound_table.specs.Report.{begins_bounds}
use Rattle.bound_table.specs.Laws.{is_line_before, ended}
use Rattle.bound_table.proofs.Commas.{are_words, words_no_lf}
use Rattle.bound_table.proofs.WordBytes.{is_word_byte, is_word, name_text}

-- the text is lines that may stand before the bounds part
pub record IsBefore (text : List ℕ) : Type 0 where
  pub before : List (List ℕ)
  pub are : text ≡ ended before
  pub may : list_all is_line_before before ≡ true

pub none : IsBefore []
none = record { before = []; are = refl; may = refl }

pub both : (a b : List ℕ) → IsBefore a → IsBefore b → IsBefore (a ++ b)
both a b x y = record {
  before = x.before ++ y.before;
  are = ap (λ s. s ++ b) x.are ∙ ap (λ s. ended x.before ++ s) y.are ∙ sym (flat_map-append (λ line. line ++ 10 ∷ []) x.before y.before);
  may = list_all-append is_line_before x.before y.before ∙ and_from (list_all is_line_before x.before) (list_all is_line_before y.before) x.may y.may;
}

pub each : {X : Type 0} (f : X → List ℕ) (xs : List X) → ((x : X) → IsBefore (f x)) → IsBefore (flat_map f xs)
each f [] h = none
each f (x ∷ xs) h = both (f x) (flat_map f xs) (h x) (each f xs h)

-- a row of words of which the first isn't `bounds`
pub one_row : (words : List (List ℕ)) → are_words words ≡ true → begins_bounds (join_with_byte 44 words) ≡ false → IsBefore (row words)
one_row words h other =
    let line = join_with_byte 44 words in
    record {
      before = line ∷ [];
      are = sym (append-nil (row words));
      may = and_from (is_line_before line) true
          (and_from (not (list_any (λ b. b == 10) line)) (not (begins_bounds line)) (not_from_false (list_any (λ b. b == 10) line) (words_no_lf words h)) (not_from_false (begins_bounds line) other))
          refl;
    }

-- a byte from `0` on may stand in a word
pub high_byte : (d : ℕ) → is_word_byte (48 + d) ≡ true
high_byte d =
    and_from (not (48 + d == 10)) (not (48 + d == 13) && (not (48 + d == 34) && not (48 + d == 44))) (differs 10 (λ e. omega arith))
    (and_from (not (48 + d == 13)) (not (48 + d == 34) && not (48 + d == 44)) (differs 13 (λ e. omega arith))
    (and_from (not (48 + d == 34)) (not (48 + d == 44)) (differs 34 (λ e. omega arith)) (differs 44 (λ e. omega arith))))
  where
    differs : (x : ℕ) → (48 + d ≡ x → ⊥) → not (48 + d == x) ≡ true
    differs x ne = not_from_false (48 + d == x) (ne_eqb (48 + d) x ne)

-- and so may a digit
digit_word : (d : ℕ) → d < 10 → is_word_byte (digit_glyph false d) ≡ true
digit_word d l = ap is_word_byte (cond-true (nat_lt d 10) (48 + d) (87 + d) (lt-ltb d 10 l)) ∙ high_byte d

digits_word : (k n : ℕ) (behind : List ℕ) → is_word behind ≡ true → is_word (digits_onto k 10 false n behind) ≡ true
digits_word zero n behind h = h
digits_word (suc k) n behind h =
    let digit = digit_glyph false (n % 10) in
    let more = and_from (is_word_byte digit) (is_word behind) (digit_word (n % 10) (omega arith)) h in
    cond_both (n / 10 == 0) (digit ∷ behind) (digits_onto k 10 false (n / 10) (digit ∷ behind)) (λ word. is_word word ≡ true) (λ e. more) (λ e. digits_word k (n / 10) (digit ∷ behind) more)

-- a number is a word
pub decimal_word : (n : ℕ) → is_word (decimal n) ≡ true
unfolding digits
decimal_word n = digits_word 64 n [] refl

-- a word behind a word
pub word_append : (a b : List ℕ) → is_word a ≡ true → is_word b ≡ true → is_word (a ++ b) ≡ true
word_append a b ha hb = list_all-append is_word_byte a b ∙ and_from (is_word a) (is_word b) ha hb

-- a word before words
pub onto : (word : List ℕ) (words : List (List ℕ)) → is_word word ≡ true → are_words words ≡ true → are_words (word ∷ words) ≡ true
onto word words h rest = and_from (is_word word) (are_words words) h rest

-- words, a number and words
pub three_words : (a b c : List ℕ) → is_word a ≡ true → is_word b ≡ true → is_word c ≡ true → are_words (a ∷ b ∷ c ∷ []) ≡ true
three_words a b c ha hb hc = onto a (b ∷ c ∷ []) ha (onto b (c ∷ []) hb (onto c [] hc refl))

-- names are words, also the empty ones past the last device and the last meter
module _ (g : Parts) (names : HasNames g) where
  pub device_is_word : (d : ℕ) → is_word (device_at g d).name ≡ true
  device_is_word d =
      ⊎_elim
      (λ l. (name_text (device_at g d).name (names.devices d no_device l)).word)
      (λ l. ap (λ v. is_word v.name) (get_or_past g.devices d no_device l))
      (cases_lt d (length g.devices))

  pub meter_is_word : (m : ℕ) → is_word (meter_at g m).name ≡ true
  meter_is_word m =
      ⊎_elim
      (λ l. (name_text (meter_at g m).name (names.meters m no_meter l)).word)
      (λ l. ap (λ v. is_word v.name) (get_or_past g.meters m no_meter l))
      (cases_lt m (length g.meters))
