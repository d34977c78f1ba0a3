-- Numbers as they are printed, and as they are read.
use Rattle.std.proofs.Common.{◌≡◌, ◌≢◌, ◌+◌, ◌-◌, ◌*◌, ◌/◌, ◌%◌, ◌^◌, ◌<◌, ◌≤◌, ◌==◌, ◌&&◌, ◌||◌, not, true, false, Bool, ℕ, List, [], ◌∷◌, ◌++◌, length, fold, Some, None, refl, ap, sym, ◌∙◌, append_assoc, arith}
use Rattle.std.specs.Prelude.{decimal, nat_le, if◌then◌else◌}
use Rattle.std.specs.List.{list_all}
use Rattle.std.proofs.lemmas.Bool.{and_parts, and_from, or_right, not_from_false, not-true, ne_eqb, eq-eqb, le-leb, leb-true, false≢true}
use Rattle.std.proofs.lemmas.List.{append-nil}
use Rattle.std.proofs.lemmas.List.Folds.{list_all-append}
use Rattle.std.proofs.lemmas.List.Sums.{fold-append}
use Rattle.std.proofs.lemmas.Fmt.{decimal_by_steps, decimal_digit, decimal_step}
use Rattle.event_rules.specs.Lines.{is_empty, begins_with}
use Rattle.event_rules.specs.Decimals.{is_digit, is_decimal, value_of, decimal_within}
use Rattle.line_text.proofs.DecimalValues.{with_digit, value-le}

-- what the digits of a number are
record IsDecimalOf (n : ℕ) (text : List ℕ) : Type 0 where
  digits : list_all is_digit text ≡ true
  some : is_empty text ≡ false
  lead : ((length text == 1) || not (begins_with 48 text)) ≡ true
  first : 1 ≤ n → begins_with 48 text ≡ false
  value : value_of text ≡ n

digit-is : (d : ℕ) → d < 10 → is_digit (48 + d) ≡ true
digit-is d h = and_from (nat_le 48 (48 + d)) (nat_le (48 + d) 57) (le-leb 48 (48 + d) (omega arith)) (le-leb (48 + d) 57 (omega arith))

one_digit : (n : ℕ) → n < 10 → IsDecimalOf n ((48 + n) ∷ [])
one_digit n h = record {
  digits = and_from (is_digit (48 + n)) true (digit-is n h) refl;
  some = refl;
  lead = refl;
  first = λ l. ne_eqb (48 + n) 48 (λ e. omega arith);
  value = omega arith;
}

begins_with-append : (b : ℕ) (xs ys : List ℕ) → is_empty xs ≡ false → begins_with b (xs ++ ys) ≡ begins_with b xs
begins_with-append b [] ys h = cc
begins_with-append b (x ∷ xs) ys h = refl

is_empty-append : (xs : List ℕ) (y : ℕ) → is_empty (xs ++ y ∷ []) ≡ false
is_empty-append [] y = refl
is_empty-append (x ∷ xs) y = refl

more_digits : (n : ℕ) (ds : List ℕ) → 10 ≤ n → IsDecimalOf (n / 10) ds → IsDecimalOf n (ds ++ (48 + n % 10) ∷ [])
more_digits n ds h p =
    let front : begins_with 48 (ds ++ (48 + n % 10) ∷ []) ≡ false = begins_with-append 48 ds ((48 + n % 10) ∷ []) p.some ∙ p.first (omega arith) in
    record {
      digits = list_all-append is_digit ds ((48 + n % 10) ∷ []) ∙ and_from (list_all is_digit ds) (is_digit (48 + n % 10) && true) p.digits (and_from (is_digit (48 + n % 10)) true (digit-is (n % 10) (omega arith)) refl);
      some = is_empty-append ds (48 + n % 10);
      lead = or_right (length (ds ++ (48 + n % 10) ∷ []) == 1) (not (begins_with 48 (ds ++ (48 + n % 10) ∷ []))) (not_from_false (begins_with 48 (ds ++ (48 + n % 10) ∷ [])) front);
      first = λ l. front;
      value = fold-append with_digit 0 ds ((48 + n % 10) ∷ []) ∙ ap (λ v. 10 * v + (48 + n % 10 - 48)) p.value ∙ omega arith;
    }

decimal_is : (n : ℕ) → n < 2 ^ 64 → IsDecimalOf n (decimal n)
decimal_is n h = decimal_by_steps (λ n ds. IsDecimalOf n ds) one_digit more_digits n h

within-is : (b : Bool) (v n : ℕ) → b ≡ true → v ≡ n → (if b then Some v else None) ≡ Some n
within-is b v n hb hv = rw hb (ap (λ x. Some x) hv)

-- a number is read as it was printed
pub decimal_within-decimal : (n most : ℕ) → n ≤ most → most < 2 ^ 64 → decimal_within 0 most (decimal n) ≡ Some n
decimal_within-decimal n most h small =
    let p = decimal_is n (omega arith) in
    let form : is_decimal (decimal n) ≡ true =
    and_from (not (is_empty (decimal n))) (list_all is_digit (decimal n) && ((length (decimal n) == 1) || not (begins_with 48 (decimal n)))) (not_from_false (is_empty (decimal n)) p.some)
    (and_from (list_all is_digit (decimal n)) ((length (decimal n) == 1) || not (begins_with 48 (decimal n))) p.digits p.lead) in
    let range : (nat_le 0 (value_of (decimal n)) && nat_le (value_of (decimal n)) most) ≡ true =
    and_from (nat_le 0 (value_of (decimal n))) (nat_le (value_of (decimal n)) most) (le-leb 0 (value_of (decimal n)) (omega arith))
    (le-leb (value_of (decimal n)) most (omega (arith, p.value))) in
    within-is (is_decimal (decimal n) && (nat_le 0 (value_of (decimal n)) && nat_le (value_of (decimal n)) most)) (value_of (decimal n)) n
    (and_from (is_decimal (decimal n)) (nat_le 0 (value_of (decimal n)) && nat_le (value_of (decimal n)) most) form range) p.value

-- the value of an ASCII digit
digit-value : (b : ℕ) → is_digit b ≡ true → (48 ≤ b) × (b ≤ 57)
digit-value b h =
    let parts = and_parts (nat_le 48 b) (nat_le b 57) h in
    (leb-true 48 b parts.0, leb-true b 57 parts.1)

-- one digit behind a number that is printed
next_digit : (v b : ℕ) → 1 ≤ v → 48 ≤ b → b ≤ 57 → with_digit v b < 2 ^ 64 → decimal v ++ b ∷ [] ≡ decimal (with_digit v b)
next_digit v b some low high small =
    let front : with_digit v b / 10 ≡ v = omega arith in
    let last : 48 + with_digit v b % 10 ≡ b = omega arith in
    sym (decimal_step (with_digit v b) (omega arith) small ∙ rw (front, last) refl)

-- digits behind a number that is printed
more_spelled : (v : ℕ) (digits : List ℕ) → 1 ≤ v → list_all is_digit digits ≡ true → fold with_digit v digits < 2 ^ 64 → decimal v ++ digits ≡ decimal (fold with_digit v digits)
more_spelled v [] some h small = append-nil (decimal v)
more_spelled v (b ∷ digits) some h small =
    let parts = and_parts (is_digit b) (list_all is_digit digits) h in
    let range = digit-value b parts.0 in
    let next : with_digit v b < 2 ^ 64 = omega (arith, value-le (with_digit v b) digits) in
    sym (append_assoc (decimal v) (b ∷ []) digits)
    ∙ ap (λ z. z ++ digits) (next_digit v b some range.0 range.1 next)
    ∙ more_spelled (with_digit v b) digits (omega arith) parts.1 small

second : (a b : Bool) → a ≡ false → (a || b) ≡ true → b ≡ true
second true b e h = cc
second false b e h = h

-- the one spelling of the number that a text writes
spelled : (text : List ℕ) → list_all is_digit text ≡ true → ((length text == 1) || not (begins_with 48 text)) ≡ true → is_empty text ≡ false → value_of text < 2 ^ 64 → text ≡ decimal (value_of text)
spelled [] digits lead some small = cc
spelled (b ∷ []) digits lead some small =
    let range = digit-value b (and_parts (is_digit b) true digits).0 in
    let digit : 48 + (with_digit 0 b) ≡ b = omega arith in
    sym (decimal_digit (with_digit 0 b) (omega arith) ∙ ap (λ z. z ∷ []) digit)
spelled (b ∷ c ∷ rest) digits lead some small =
    let parts = and_parts (is_digit b) (list_all is_digit (c ∷ rest)) digits in
    let range = digit-value b parts.0 in
    let long : (length (b ∷ c ∷ rest) == 1) ≡ false = ne_eqb (length (b ∷ c ∷ rest)) 1 (λ e. omega arith) in
    let no_zero : (b == 48) ≡ false = not-true (b == 48) (second (length (b ∷ c ∷ rest) == 1) (not (b == 48)) long lead) in
    let more : b ≢ 48 = λ e. false≢true (sym no_zero ∙ eq-eqb b 48 e) in
    let digit : 48 + (with_digit 0 b) ≡ b = omega arith in
    ap (λ z. z ++ c ∷ rest) (sym (decimal_digit (with_digit 0 b) (omega arith) ∙ ap (λ z. z ∷ []) digit))
    ∙ more_spelled (with_digit 0 b) (c ∷ rest) (omega arith) parts.1 small

-- what a number that is read says of its text
some_is : (b : Bool) (v n : ℕ) → (if b then Some v else None) ≡ Some n → (b ≡ true) × (v ≡ n)
some_is true v n e = (refl, cc)
some_is false v n e = cc

-- a text that is read as a number is what is printed of it
pub decimal_within-spelled : (text : List ℕ) (n most : ℕ) → most < 2 ^ 64 → decimal_within 0 most text ≡ Some n → text ≡ decimal n
decimal_within-spelled text n most small e =
    let read = some_is (is_decimal text && (nat_le 0 (value_of text) && nat_le (value_of text) most)) (value_of text) n e in
    let outer = and_parts (is_decimal text) (nat_le 0 (value_of text) && nat_le (value_of text) most) read.0 in
    let range = leb-true (value_of text) most (and_parts (nat_le 0 (value_of text)) (nat_le (value_of text) most) outer.1).1 in
    let form = and_parts (not (is_empty text)) (list_all is_digit text && ((length text == 1) || not (begins_with 48 text))) outer.0 in
    let inner = and_parts (list_all is_digit text) ((length text == 1) || not (begins_with 48 text)) form.1 in
    spelled text inner.0 inner.1 (not-true (is_empty text) form.0) (omega arith) ∙ ap decimal read.1
