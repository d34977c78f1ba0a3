-- The text of a date and a time of day is read as that second.
use Rattle.std.proofs.Common.{◌≡◌, ◌&&◌, ℕ, ◌+◌, ◌-◌, ◌*◌, ◌/◌, ◌%◌, ◌<◌, ◌≤◌, Bool, true, false, List, Option, None, Some, IsSome, ◌↔◌, inl, inr, pos, refl, ◌∙◌, ap, arith, if◌then◌else◌}
use Rattle.std.proofs.lemmas.Bool.{and_from, le-leb, cases_Bool}
use Rattle.jiff_core.proofs.CalendarLemmas.{days_in_month_bounds}
use Rattle.event_rules.specs.Decimals.{is_digit}
use Rattle.event_rules.specs.Stamps.{has_stamp_shape, two_at, year_in, is_date, is_time, day_number, second_of_day, second_since_1970, stamp_of}
use Rattle.line_text.specs.Dates.{Exists}
use Rattle.line_text.specs.StampText.{tens, ones, stamp_text}
use Rattle.line_text.proofs.StampDays.{date_exists, exists_from}

pub if_true : (b : Bool) (x y : Option ℕ) → b ≡ true → (if b then x else y) ≡ x
if_true b x y e = rw e refl

-- what a text of the right shape is read as
pub when_shaped : (text : List ℕ) → has_stamp_shape text ≡ true → stamp_of text ≡ second_since_1970 (year_in text) (two_at text 5) (two_at text 8) (two_at text 11) (two_at text 14) (two_at text 17)
unfolding stamp_of
when_shaped text e = if_true (has_stamp_shape text) _ None e

pub when_misshapen : (text : List ℕ) → has_stamp_shape text ≡ false → stamp_of text ≡ None
unfolding stamp_of
when_misshapen text e = rw e refl

-- where the date and the time of day exist, and where one of them doesn't
pub second_exists : (y m d h i s : ℕ) → is_date y m d ≡ true → is_time h i s ≡ true → second_since_1970 y m d h i s ≡ Some (day_number y m d * 86400 + second_of_day h i s)
unfolding second_since_1970
second_exists y m d h i s date time = if_true (is_date y m d && is_time h i s) _ None (and_from _ _ date time)

pub if_false : (b : Bool) (x y : Option ℕ) → b ≡ false → (if b then x else y) ≡ y
if_false b x y e = rw e refl

and_false_left : (a b : Bool) → a ≡ false → (a && b) ≡ false
and_false_left true b e = cc
and_false_left false b e = refl

and_false_right : (a b : Bool) → b ≡ false → (a && b) ≡ false
and_false_right true b e = e
and_false_right false b e = refl

pub no_day : (r : Option ℕ) (y m d h i s : ℕ) → (IsSome r ↔ Exists y m d) → r ≡ None → second_since_1970 y m d h i s ≡ None
unfolding second_since_1970
no_day None y m d h i s iff e = elim (cases_Bool (is_date y m d)) [
  | inl t ↦ let bad = iff.1 (exists_from y m d t) in cc
  | inr f ↦ if_false (is_date y m d && is_time h i s) _ None (and_false_left (is_date y m d) (is_time h i s) f)
]
no_day (Some n) y m d h i s iff e = cc

pub no_time : (t : Option ℕ) (y m d h i s : ℕ) → t ≡ (if is_time h i s then Some (second_of_day h i s) else None) → t ≡ None → second_since_1970 y m d h i s ≡ None
unfolding second_since_1970
no_time t y m d h i s is e = elim (cases_Bool (is_time h i s)) [
  | inl t ↦ let bad = if_true (is_time h i s) (Some (second_of_day h i s)) None t in cc
  | inr f ↦ if_false (is_date y m d && is_time h i s) _ None (and_false_right (is_date y m d) (is_time h i s) f)
]

pub both_exist : (day second y m d h i s : ℕ) → Exists y m d → day ≡ day_number y m d → Some second ≡ (if is_time h i s then Some (second_of_day h i s) else None) → second_since_1970 y m d h i s ≡ Some (day * 86400 + second)
both_exist day second y m d h i s e number is = elim (cases_Bool (is_time h i s)) [
  | inl t ↦
      let time = if_true (is_time h i s) (Some (second_of_day h i s)) None t in
      let same : second ≡ second_of_day h i s = cc in
      second_exists y m d h i s (date_exists y m d e) t ∙ ap (λ n. Some n) (omega (arith, number, same))
  | inr f ↦ let bad = if_false (is_time h i s) (Some (second_of_day h i s)) None f in cc
]

-- two digits that are written are read as their number
two_back : (n : ℕ) → n ≤ 99 → (tens n - 48) * 10 + (ones n - 48) ≡ n
two_back n h = omega arith

tens_digit : (n : ℕ) → n ≤ 99 → is_digit (tens n) ≡ true
tens_digit n h = and_from _ _ (le-leb 48 (tens n) (omega arith)) (le-leb (tens n) 57 (omega arith))

ones_digit : (n : ℕ) → is_digit (ones n) ≡ true
ones_digit n = and_from _ _ (le-leb 48 (ones n) (omega arith)) (le-leb (ones n) 57 (omega arith))

two_digits : (n : ℕ) (rest : Bool) → n ≤ 99 → rest ≡ true → (is_digit (tens n) && (is_digit (ones n) && rest)) ≡ true
two_digits n rest h r =
    and_from (is_digit (tens n)) (is_digit (ones n) && rest) (tens_digit n h) (and_from (is_digit (ones n)) rest (ones_digit n) r)

text_has_shape : (c y m d h i s : ℕ) → c ≤ 99 → y ≤ 99 → m ≤ 99 → d ≤ 99 → h ≤ 99 → i ≤ 99 → s ≤ 99 → has_stamp_shape (stamp_text c y m d h i s) ≡ true
unfolding stamp_text
text_has_shape c y m d h i s pc py pm pd ph pi ps =
    two_digits c _ pc (two_digits y _ py (two_digits m _ pm (two_digits d _ pd (two_digits h _ ph (two_digits i _ pi (two_digits s true ps refl))))))

pub same_second : (y y₂ m m₂ d d₂ h h₂ i i₂ s s₂ : ℕ) → y ≡ y₂ → m ≡ m₂ → d ≡ d₂ → h ≡ h₂ → i ≡ i₂ → s ≡ s₂ → second_since_1970 y m d h i s ≡ second_since_1970 y₂ m₂ d₂ h₂ i₂ s₂
same_second y y₂ m m₂ d d₂ h h₂ i i₂ s s₂ ey em ed eh ei es = cc

text_second : (c y m d h i s : ℕ) → c ≤ 99 → y ≤ 99 → m ≤ 99 → d ≤ 99 → h ≤ 99 → i ≤ 99 → s ≤ 99 → stamp_of (stamp_text c y m d h i s) ≡ second_since_1970 (c * 100 + y) m d h i s
unfolding stamp_text
text_second c y m d h i s pc py pm pd ph pi ps =
    when_shaped (stamp_text c y m d h i s) (text_has_shape c y m d h i s pc py pm pd ph pi ps)
    ∙ same_second _ (c * 100 + y) _ m _ d _ h _ i _ s
    (omega (arith, two_back c pc, two_back y py)) (two_back m pm) (two_back d pd) (two_back h ph) (two_back i pi) (two_back s ps)

clock_is_time : (second : ℕ) → second < 86400 → is_time (second / 3600) (second % 3600 / 60) (second % 60) ≡ true
clock_is_time second h =
    and_from _ _ (and_from _ _ (le-leb (second / 3600) 23 (omega arith)) (le-leb (second % 3600 / 60) 59 (omega arith))) (le-leb (second % 60) 59 (omega arith))

clock_back : (second : ℕ) → second_of_day (second / 3600) (second % 3600 / 60) (second % 60) ≡ second
clock_back second = omega arith

pub text_is_read : (y m d day second at : ℕ) → Exists y m d → day_number y m d ≡ day → second < 86400 → at ≡ day * 86400 + second → stamp_of (stamp_text (y / 100) (y % 100) m d (second / 3600) (second % 3600 / 60) (second % 60)) ≡ Some at
text_is_read y m d day second at e number h total =
    let most : d ≤ 31 = omega (arith, e.last_day, days_in_month_bounds (pos y) m) in
    let year : y ≤ 9999 = e.last_year in
    let month : m ≤ 12 = e.last_month in
    let back : y / 100 * 100 + y % 100 ≡ y = omega arith in
    text_second (y / 100) (y % 100) m d (second / 3600) (second % 3600 / 60) (second % 60) (omega arith) (omega arith) (omega arith) (omega arith) (omega arith) (omega arith) (omega arith)
    ∙ same_second _ y m m d d _ _ _ _ _ _ back refl refl refl refl refl
    ∙ second_exists y m d _ _ _ (date_exists y m d e) (clock_is_time second h)
    ∙ ap (λ n. Some n) (omega (arith, number, total, clock_back second))
