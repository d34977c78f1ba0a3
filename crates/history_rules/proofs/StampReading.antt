-- The text of a second is read as that second.
use Rattle.std.proofs.Common.{◌≡◌, ◌&&◌, ℕ, ◌+◌, ◌-◌, ◌*◌, ◌/◌, ◌%◌, ◌<◌, ◌≤◌, Bool, true, List, [], ◌∷◌, ◌++◌, Option, None, Some, refl, ◌∙◌, ap, arith, if◌then◌else◌}
use Rattle.std.proofs.lemmas.Bool.{and_from, le-leb}
use Rattle.event_rules.specs.Decimals.{is_digit}
use Rattle.event_rules.specs.Stamps.{has_stamp_shape, two_at, year_in, is_date, is_time, day_number, second_of_day, second_since_1970, stamp_of}
use Rattle.history_rules.specs.StampTexts.{year_of, month_of, day_of_month, two_digits, stamp_text, StampTextIsRead}
use Rattle.history_rules.proofs.CivilDays.{date_is, date_number, date_bounds}

-- the text by its parts
unfoldable digits_text : ℕ → ℕ → ℕ → ℕ → ℕ → ℕ → ℕ → List ℕ
digits_text c y m d h i s =
    (two_digits c ++ two_digits y ++ 45 ∷ two_digits m ++ 45 ∷ two_digits d) ++ 84 ∷ (two_digits h ++ 58 ∷ two_digits i ++ 58 ∷ two_digits s) ++ 90 ∷ []

text_is : (at : ℕ) → stamp_text at ≡ digits_text (year_of (at / 86400) / 100) (year_of (at / 86400) % 100) (month_of (at / 86400)) (day_of_month (at / 86400)) (at % 86400 / 3600) (at % 86400 / 60 % 60) (at % 86400 % 60)
unfolding stamp_text digits_text
text_is at = refl

if_true : (b : Bool) (x y : Option ℕ) → b ≡ true → (if b then x else y) ≡ x
if_true b x y e = rw e refl

-- what a text of the right shape is read as
when_shaped : (text : List ℕ) → has_stamp_shape text ≡ true → stamp_of text ≡ second_since_1970 (year_in text) (two_at text 5) (two_at text 8) (two_at text 11) (two_at text 14) (two_at text 17)
unfolding stamp_of
when_shaped text e = if_true (has_stamp_shape text) _ None e

second_exists : (y m d h i s : ℕ) → is_date y m d ≡ true → is_time h i s ≡ true → second_since_1970 y m d h i s ≡ Some (day_number y m d * 86400 + second_of_day h i s)
unfolding second_since_1970
second_exists y m d h i s date time = if_true (is_date y m d && is_time h i s) _ None (and_from _ _ date time)

-- two digits that are written are read as their number
two_back : (n : ℕ) → n ≤ 99 → (48 + n / 10 - 48) * 10 + (48 + n % 10 - 48) ≡ n
two_back n h = omega arith

pair_fits : (n : ℕ) (rest : Bool) → n ≤ 99 → rest ≡ true → (is_digit (48 + n / 10) && (is_digit (48 + n % 10) && rest)) ≡ true
pair_fits n rest h r =
    and_from (is_digit (48 + n / 10)) (is_digit (48 + n % 10) && rest)
    (and_from _ _ (le-leb 48 (48 + n / 10) (omega arith)) (le-leb (48 + n / 10) 57 (omega arith)))
    (and_from (is_digit (48 + n % 10)) rest
    (and_from _ _ (le-leb 48 (48 + n % 10) (omega arith)) (le-leb (48 + n % 10) 57 (omega arith))) r)

text_has_shape : (c y m d h i s : ℕ) → c ≤ 99 → y ≤ 99 → m ≤ 99 → d ≤ 99 → h ≤ 99 → i ≤ 99 → s ≤ 99 → has_stamp_shape (digits_text c y m d h i s) ≡ true
unfolding digits_text
text_has_shape c y m d h i s pc py pm pd ph pi ps =
    pair_fits c _ pc (pair_fits y _ py (pair_fits m _ pm (pair_fits d _ pd (pair_fits h _ ph (pair_fits i _ pi (pair_fits s true ps refl))))))

same_second : (y y₂ m m₂ d d₂ h h₂ i i₂ s s₂ : ℕ) → y ≡ y₂ → m ≡ m₂ → d ≡ d₂ → h ≡ h₂ → i ≡ i₂ → s ≡ s₂ → second_since_1970 y m d h i s ≡ second_since_1970 y₂ m₂ d₂ h₂ i₂ s₂
same_second y y₂ m m₂ d d₂ h h₂ i i₂ s s₂ ey em ed eh ei es = cc

text_second : (c y m d h i s : ℕ) → c ≤ 99 → y ≤ 99 → m ≤ 99 → d ≤ 99 → h ≤ 99 → i ≤ 99 → s ≤ 99 → stamp_of (digits_text c y m d h i s) ≡ second_since_1970 (c * 100 + y) m d h i s
unfolding digits_text
text_second c y m d h i s pc py pm pd ph pi ps =
    when_shaped (digits_text c y m d h i s) (text_has_shape c y m d h i s pc py pm pd ph pi ps)
    ∙ same_second _ (c * 100 + y) _ m _ d _ h _ i _ s
    (omega (arith, two_back c pc, two_back y py)) (two_back m pm) (two_back d pd) (two_back h ph) (two_back i pi) (two_back s ps)

clock_is_time : (second : ℕ) → second < 86400 → is_time (second / 3600) (second / 60 % 60) (second % 60) ≡ true
clock_is_time second h =
    and_from _ _ (and_from _ _ (le-leb (second / 3600) 23 (omega arith)) (le-leb (second / 60 % 60) 59 (omega arith))) (le-leb (second % 60) 59 (omega arith))

clock_back : (second : ℕ) → second_of_day (second / 3600) (second / 60 % 60) (second % 60) ≡ second
clock_back second = omega arith

-- a date and a time of day that exist are read as their second
parts_are_read : (y m d second at : ℕ) → y ≤ 9999 → m ≤ 12 → d ≤ 31 → second < 86400 → is_date y m d ≡ true → at ≡ day_number y m d * 86400 + second → stamp_of (digits_text (y / 100) (y % 100) m d (second / 3600) (second / 60 % 60) (second % 60)) ≡ Some at
parts_are_read y m d second at year month day h date total =
    let back : y / 100 * 100 + y % 100 ≡ y = omega arith in
    text_second (y / 100) (y % 100) m d (second / 3600) (second / 60 % 60) (second % 60) (omega arith) (omega arith) (omega arith) (omega arith) (omega arith) (omega arith) (omega arith)
    ∙ same_second _ y m m d d _ _ _ _ _ _ back refl refl refl refl refl
    ∙ second_exists y m d _ _ _ date (clock_is_time second h)
    ∙ ap (λ n. Some n) (omega (arith, total, clock_back second))

pub stamp_text_is_read : StampTextIsRead
stamp_text_is_read at h =
    let last : at / 86400 ≤ 2932896 = omega arith in
    let bounds = date_bounds (at / 86400) last in
    ap stamp_of (text_is at)
    ∙ parts_are_read (year_of (at / 86400)) (month_of (at / 86400)) (day_of_month (at / 86400)) (at % 86400) at
    bounds.0 bounds.1 bounds.2 (omega arith) (date_is (at / 86400) last) (omega (arith, date_number (at / 86400) last))
