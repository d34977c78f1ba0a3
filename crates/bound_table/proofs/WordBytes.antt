-- Words that a line may hold between its commas: names and decimals.
use Rattle.std.proofs.Common.{◌≡◌, ◌+◌, ◌-◌, ◌*◌, ◌/◌, ◌%◌, ◌^◌, ◌<◌, ◌≤◌, ◌==◌, ◌&&◌, ◌||◌, not, true, false, Bool, ℕ, List, [], ◌∷◌, ◌++◌, length, Some, None, refl, ap, ◌∙◌, arith}
use Rattle.std.specs.Prelude.{decimal, codes, nat_le, if◌then◌else◌}
use Rattle.std.specs.List.{list_all}
use Rattle.std.specs.Str.{bytes_eq}
use Rattle.std.proofs.lemmas.Bool.{and_parts, and_from, or_right, not_from_false, not-true, ne_eqb, le-leb, leb-true}
use Rattle.std.proofs.lemmas.List.Folds.{list_all-append}
use Rattle.std.proofs.lemmas.List.Sums.{fold-append}
use Rattle.std.proofs.lemmas.Fmt.{decimal_by_steps, length-decimal-le}
use Rattle.grid_model.specs.Name.{is_name_byte, is_name}
use Rattle.event_rules.specs.Lines.{is_empty, begins_with}
use Rattle.event_rules.specs.Decimals.{is_digit, is_decimal, value_of, decimal_within}

-- neither an LF nor a CR nor a double quote nor a comma
abbrev pub is_word_byte : ℕ → Bool
is_word_byte b = not (b == 10) && (not (b == 13) && (not (b == 34) && not (b == 44)))

abbrev pub is_word : List ℕ → Bool
is_word text = list_all is_word_byte text

differs : (test : ℕ → Bool) (x b : ℕ) → test x ≡ false → test b ≡ true → not (b == x) ≡ true
differs test x b hx hb = not_from_false (b == x) (ne_eqb b x (λ e. let same = ap test e in cc))

-- a test that refuses the four bytes
word_byte-from : (test : ℕ → Bool) → test 10 ≡ false → test 13 ≡ false → test 34 ≡ false → test 44 ≡ false → (b : ℕ) → test b ≡ true → is_word_byte b ≡ true
word_byte-from test h10 h13 h34 h44 b h =
    and_from (not (b == 10)) (not (b == 13) && (not (b == 34) && not (b == 44))) (differs test 10 b h10 h)
    (and_from (not (b == 13)) (not (b == 34) && not (b == 44)) (differs test 13 b h13 h)
    (and_from (not (b == 34)) (not (b == 44)) (differs test 34 b h34 h) (differs test 44 b h44 h)))

list_all-from : (p q : ℕ → Bool) → ((b : ℕ) → p b ≡ true → q b ≡ true) → (xs : List ℕ) → list_all p xs ≡ true → list_all q xs ≡ true
list_all-from p q f [] h = refl
list_all-from p q f (x ∷ xs) h =
    let parts = and_parts (p x) (list_all p xs) h in
    and_from (q x) (list_all q xs) (f x parts.0) (list_all-from p q f xs parts.1)

-- what a name is
pub record IsNameText (text : List ℕ) : Type 0 where
  pub word : is_word text ≡ true
  pub short : length text ≤ 32
  pub no_dash : bytes_eq text (codes "-") ≡ false

pub name_text : (text : List ℕ) → is_name text ≡ true → IsNameText text
name_text text h =
    let a = and_parts (nat_le 1 (length text) && nat_le (length text) 32 && list_all is_name_byte text) (not (bytes_eq text (45 ∷ []))) h in
    let b = and_parts (nat_le 1 (length text) && nat_le (length text) 32) (list_all is_name_byte text) a.0 in
    let c = and_parts (nat_le 1 (length text)) (nat_le (length text) 32) b.0 in
    record {
      word = list_all-from is_name_byte is_word_byte (word_byte-from is_name_byte refl refl refl refl) text b.1;
      short = leb-true (length text) 32 c.1;
      no_dash = not-true (bytes_eq text (45 ∷ [])) a.1;
    }

-- what the digits of a number are
record IsDecimalOf (n : ℕ) (text : List ℕ) : Type 0 where
  digits : list_all is_digit text ≡ true
  some : is_empty text ≡ false
  lead : ((length text == 1) || not (begins_with 48 text)) ≡ true
  first : 1 ≤ n → begins_with 48 text ≡ false
  value : value_of text ≡ n

digit-is : (d : ℕ) → d < 10 → is_digit (48 + d) ≡ true
digit-is d h = and_from (nat_le 48 (48 + d)) (nat_le (48 + d) 57) (le-leb 48 (48 + d) (omega arith)) (le-leb (48 + d) 57 (omega arith))

one_digit : (n : ℕ) → n < 10 → IsDecimalOf n ((48 + n) ∷ [])
one_digit n h = record {
  digits = and_from (is_digit (48 + n)) true (digit-is n h) refl;
  some = refl;
  lead = refl;
  first = λ l. ne_eqb (48 + n) 48 (λ e. omega arith);
  value = omega arith;
}

begins_with-append : (b : ℕ) (xs ys : List ℕ) → is_empty xs ≡ false → begins_with b (xs ++ ys) ≡ begins_with b xs
begins_with-append b [] ys h = cc
begins_with-append b (x ∷ xs) ys h = refl

is_empty-append : (xs : List ℕ) (y : ℕ) → is_empty (xs ++ y ∷ []) ≡ false
is_empty-append [] y = refl
is_empty-append (x ∷ xs) y = refl

more_digits : (n : ℕ) (ds : List ℕ) → 10 ≤ n → IsDecimalOf (n / 10) ds → IsDecimalOf n (ds ++ (48 + n % 10) ∷ [])
more_digits n ds h p =
    let front : begins_with 48 (ds ++ (48 + n % 10) ∷ []) ≡ false = begins_with-append 48 ds ((48 + n % 10) ∷ []) p.some ∙ p.first (omega arith) in
    record {
      digits = list_all-append is_digit ds ((48 + n % 10) ∷ []) ∙ and_from (list_all is_digit ds) (is_digit (48 + n % 10) && true) p.digits (and_from (is_digit (48 + n % 10)) true (digit-is (n % 10) (omega arith)) refl);
      some = is_empty-append ds (48 + n % 10);
      lead = or_right (length (ds ++ (48 + n % 10) ∷ []) == 1) (not (begins_with 48 (ds ++ (48 + n % 10) ∷ []))) (not_from_false (begins_with 48 (ds ++ (48 + n % 10) ∷ [])) front);
      first = λ l. front;
      value = fold-append (λ value b. 10 * value + (b - 48)) 0 ds ((48 + n % 10) ∷ []) ∙ ap (λ v. 10 * v + (48 + n % 10 - 48)) p.value ∙ omega arith;
    }

decimal_is : (n : ℕ) → n < 2 ^ 64 → IsDecimalOf n (decimal n)
decimal_is n h = decimal_by_steps (λ n ds. IsDecimalOf n ds) one_digit more_digits n h

pub decimal-word : (n : ℕ) → n < 2 ^ 64 → is_word (decimal n) ≡ true
decimal-word n h = list_all-from is_digit is_word_byte (word_byte-from is_digit refl refl refl refl) (decimal n) (decimal_is n h).digits

-- a number is read as it was printed
pub decimal_within-decimal : (most n : ℕ) → n < 2 ^ 64 → n ≤ most → decimal_within 0 most (decimal n) ≡ Some n
decimal_within-decimal most n small h =
    let p = decimal_is n small in
    let form : is_decimal (decimal n) ≡ true =
    and_from (not (is_empty (decimal n))) (list_all is_digit (decimal n) && ((length (decimal n) == 1) || not (begins_with 48 (decimal n)))) (not_from_false (is_empty (decimal n)) p.some)
    (and_from (list_all is_digit (decimal n)) ((length (decimal n) == 1) || not (begins_with 48 (decimal n))) p.digits p.lead) in
    let range : (nat_le 0 (value_of (decimal n)) && nat_le (value_of (decimal n)) most) ≡ true =
    and_from (nat_le 0 (value_of (decimal n))) (nat_le (value_of (decimal n)) most) (le-leb 0 (value_of (decimal n)) (omega arith))
    (le-leb (value_of (decimal n)) most (omega (arith, p.value))) in
    within (is_decimal (decimal n) && (nat_le 0 (value_of (decimal n)) && nat_le (value_of (decimal n)) most)) (value_of (decimal n)) n
    (and_from (is_decimal (decimal n)) (nat_le 0 (value_of (decimal n)) && nat_le (value_of (decimal n)) most) form range) p.value
  where
    within : (b : Bool) (v n : ℕ) → b ≡ true → v ≡ n → (if b then Some v else None) ≡ Some n
    within b v n hb hv = rw hb (ap (λ x. Some x) hv)

pub length-decimal : (n : ℕ) → n ≤ 1_000_000_000_000_000 → length (decimal n) ≤ 16
length-decimal n h = length-decimal-le 16 n (omega arith) (omega arith) (omega arith)
