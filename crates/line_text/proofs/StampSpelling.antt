-- A time has one spelling.
use Rattle.std.proofs.Common.{◌≡◌, ◌&&◌, ℕ, zero, suc, ◌+◌, ◌*◌, ◌≤◌, Bool, true, List, [], ◌∷◌, slice_index, nat_le, ◌==◌, None, Some, inl, inr, refl, sym, ◌∙◌, subst, arith, if◌then◌else◌}
use Rattle.std.proofs.lemmas.Bool.{and_parts, leb-true, eqb-true, cases_Bool}
use Rattle.event_rules.specs.Decimals.{is_digit}
use Rattle.event_rules.specs.Stamps.{fits_pattern, stamp_pattern, has_stamp_shape, two_at, year_in, is_date, is_time, day_number, second_of_day, second_since_1970, stamp_of}
use Rattle.line_text.specs.Dates.{Exists}
use Rattle.line_text.specs.StampText.{fits_mark}
use Rattle.line_text.proofs.StampDays.{exists_from, same_date}
use Rattle.line_text.proofs.StampShapes.{digit_there}
use Rattle.line_text.proofs.StampTexts.{if_false, when_shaped, when_misshapen, second_exists}

-- what a text is, where it is read as a second
record IsRead (text : List ℕ) (at : ℕ) : Type 0 where
  shape : has_stamp_shape text ≡ true
  date : Exists (year_in text) (two_at text 5) (two_at text 8)
  time : is_time (two_at text 11) (two_at text 14) (two_at text 17) ≡ true
  second : at ≡ day_number (year_in text) (two_at text 5) (two_at text 8) * 86400 + second_of_day (two_at text 11) (two_at text 14) (two_at text 17)

second_parts : (y m d h i s at : ℕ) → second_since_1970 y m d h i s ≡ Some at → Exists y m d × (is_time h i s ≡ true) × (at ≡ day_number y m d * 86400 + second_of_day h i s)
unfolding second_since_1970
second_parts y m d h i s at e = elim (cases_Bool (is_date y m d && is_time h i s)) [
  | inl t ↦
      let both = and_parts (is_date y m d) (is_time h i s) t in
      let is = second_exists y m d h i s both.0 both.1 in
      (exists_from y m d both.0, both.1, cc)
  | inr f ↦ let bad = if_false (is_date y m d && is_time h i s) (Some (day_number y m d * 86400 + second_of_day h i s)) None f in cc
]

read_from : (text : List ℕ) (at : ℕ) → stamp_of text ≡ Some at → IsRead text at
read_from text at e = elim (cases_Bool (has_stamp_shape text)) [
  | inl t ↦
      let parts = second_parts (year_in text) (two_at text 5) (two_at text 8) (two_at text 11) (two_at text 14) (two_at text 17) at (sym (when_shaped text t) ∙ e) in
      record { shape = t; date = parts.0; time = parts.1; second = parts.2 }
  | inr f ↦ let bad = when_misshapen text f in cc
]

-- two texts of one shape with the same digits are one text
same_mark : (p a b : ℕ) → fits_mark p a ≡ true → fits_mark p b ≡ true → (p ≡ 48 → a ≡ b) → a ≡ b
same_mark p a b ha hb same = elim (cases_Bool (p == 48)) [
  | inl t ↦ same (eqb-true p 48 t)
  | inr f ↦
      let P : Bool → ℕ → Type 0 = λ test byte. (if test then is_digit byte else byte == p) ≡ true in
      let ea : a == p ≡ true = subst (λ test. P test a) f ha in
      let eb : b == p ≡ true = subst (λ test. P test b) f hb in
      eqb-true a p ea ∙ sym (eqb-true b p eb)
]

same_text : (pattern text other : List ℕ) → fits_pattern pattern text ≡ true → fits_pattern pattern other ≡ true → ((k : ℕ) → slice_index pattern k ≡ 48 → slice_index text k ≡ slice_index other k) → text ≡ other
same_text [] [] [] ht ho same = refl
same_text [] [] (b ∷ other) ht ho same = cc
same_text [] (a ∷ text) other ht ho same = cc
same_text (p ∷ pattern) [] other ht ho same = cc
same_text (p ∷ pattern) (a ∷ text) [] ht ho same = cc
same_text (p ∷ pattern) (a ∷ text) (b ∷ other) ht ho same =
    let parts = and_parts (fits_mark p a) (fits_pattern pattern text) ht in
    let parts₂ = and_parts (fits_mark p b) (fits_pattern pattern other) ho in
    let first = same_mark p a b parts.0 parts₂.0 (same zero) in
    let rest = same_text pattern text other parts.1 parts₂.1 (λ k. same (suc k)) in
    cc

-- the places of the digits
by_place : (P : ℕ → Type 0) → P 0 → P 1 → P 2 → P 3 → P 5 → P 6 → P 8 → P 9 → P 11 → P 12 → P 14 → P 15 → P 17 → P 18 → (k : ℕ) → slice_index stamp_pattern k ≡ 48 → P k
by_place P p0 p1 p2 p3 p5 p6 p8 p9 p11 p12 p14 p15 p17 p18 zero e = p0
by_place P p0 p1 p2 p3 p5 p6 p8 p9 p11 p12 p14 p15 p17 p18 (suc zero) e = p1
by_place P p0 p1 p2 p3 p5 p6 p8 p9 p11 p12 p14 p15 p17 p18 (suc (suc zero)) e = p2
by_place P p0 p1 p2 p3 p5 p6 p8 p9 p11 p12 p14 p15 p17 p18 (suc (suc (suc zero))) e = p3
by_place P p0 p1 p2 p3 p5 p6 p8 p9 p11 p12 p14 p15 p17 p18 (suc (suc (suc (suc zero)))) e = absurd (omega arith)
by_place P p0 p1 p2 p3 p5 p6 p8 p9 p11 p12 p14 p15 p17 p18 (suc (suc (suc (suc (suc zero))))) e = p5
by_place P p0 p1 p2 p3 p5 p6 p8 p9 p11 p12 p14 p15 p17 p18 (suc (suc (suc (suc (suc (suc zero)))))) e = p6
by_place P p0 p1 p2 p3 p5 p6 p8 p9 p11 p12 p14 p15 p17 p18 (suc (suc (suc (suc (suc (suc (suc zero))))))) e = absurd (omega arith)
by_place P p0 p1 p2 p3 p5 p6 p8 p9 p11 p12 p14 p15 p17 p18 (suc (suc (suc (suc (suc (suc (suc (suc zero)))))))) e = p8
by_place P p0 p1 p2 p3 p5 p6 p8 p9 p11 p12 p14 p15 p17 p18 (suc (suc (suc (suc (suc (suc (suc (suc (suc zero))))))))) e = p9
by_place P p0 p1 p2 p3 p5 p6 p8 p9 p11 p12 p14 p15 p17 p18 (suc (suc (suc (suc (suc (suc (suc (suc (suc (suc zero)))))))))) e = absurd (omega arith)
by_place P p0 p1 p2 p3 p5 p6 p8 p9 p11 p12 p14 p15 p17 p18 (suc (suc (suc (suc (suc (suc (suc (suc (suc (suc (suc zero))))))))))) e = p11
by_place P p0 p1 p2 p3 p5 p6 p8 p9 p11 p12 p14 p15 p17 p18 (suc (suc (suc (suc (suc (suc (suc (suc (suc (suc (suc (suc zero)))))))))))) e = p12
by_place P p0 p1 p2 p3 p5 p6 p8 p9 p11 p12 p14 p15 p17 p18 (suc (suc (suc (suc (suc (suc (suc (suc (suc (suc (suc (suc (suc zero))))))))))))) e = absurd (omega arith)
by_place P p0 p1 p2 p3 p5 p6 p8 p9 p11 p12 p14 p15 p17 p18 (suc (suc (suc (suc (suc (suc (suc (suc (suc (suc (suc (suc (suc (suc zero)))))))))))))) e = p14
by_place P p0 p1 p2 p3 p5 p6 p8 p9 p11 p12 p14 p15 p17 p18 (suc (suc (suc (suc (suc (suc (suc (suc (suc (suc (suc (suc (suc (suc (suc zero))))))))))))))) e = p15
by_place P p0 p1 p2 p3 p5 p6 p8 p9 p11 p12 p14 p15 p17 p18 (suc (suc (suc (suc (suc (suc (suc (suc (suc (suc (suc (suc (suc (suc (suc (suc zero)))))))))))))))) e = absurd (omega arith)
by_place P p0 p1 p2 p3 p5 p6 p8 p9 p11 p12 p14 p15 p17 p18 (suc (suc (suc (suc (suc (suc (suc (suc (suc (suc (suc (suc (suc (suc (suc (suc (suc zero))))))))))))))))) e = p17
by_place P p0 p1 p2 p3 p5 p6 p8 p9 p11 p12 p14 p15 p17 p18 (suc (suc (suc (suc (suc (suc (suc (suc (suc (suc (suc (suc (suc (suc (suc (suc (suc (suc zero)))))))))))))))))) e = p18
by_place P p0 p1 p2 p3 p5 p6 p8 p9 p11 p12 p14 p15 p17 p18 (suc (suc (suc (suc (suc (suc (suc (suc (suc (suc (suc (suc (suc (suc (suc (suc (suc (suc (suc zero))))))))))))))))))) e = absurd (omega arith)
by_place P p0 p1 p2 p3 p5 p6 p8 p9 p11 p12 p14 p15 p17 p18 (suc (suc (suc (suc (suc (suc (suc (suc (suc (suc (suc (suc (suc (suc (suc (suc (suc (suc (suc (suc k)))))))))))))))))))) e = absurd (omega arith)

-- two digits that write one number are the same
two_same : (text other : List ℕ) (k : ℕ) → has_stamp_shape text ≡ true → has_stamp_shape other ≡ true → slice_index stamp_pattern k ≡ 48 → slice_index stamp_pattern (k + 1) ≡ 48 → two_at text k ≡ two_at other k → (slice_index text k ≡ slice_index other k) × (slice_index text (k + 1) ≡ slice_index other (k + 1))
two_same text other k ht ho first second e =
    let a = digit_there stamp_pattern text k ht first in
    let b = digit_there stamp_pattern text (k + 1) ht second in
    let a₂ = digit_there stamp_pattern other k ho first in
    let b₂ = digit_there stamp_pattern other (k + 1) ho second in
    (omega arith, omega arith)

two_bound : (text : List ℕ) (k : ℕ) → has_stamp_shape text ≡ true → slice_index stamp_pattern k ≡ 48 → slice_index stamp_pattern (k + 1) ≡ 48 → two_at text k ≤ 99
two_bound text k ht first second =
    let a = digit_there stamp_pattern text k ht first in
    let b = digit_there stamp_pattern text (k + 1) ht second in
    omega arith

time_bounds : (h i s : ℕ) → is_time h i s ≡ true → (h ≤ 23) × (i ≤ 59) × (s ≤ 59)
time_bounds h i s t =
    let outer = and_parts (nat_le h 23 && nat_le i 59) (nat_le s 59) t in
    let inner = and_parts (nat_le h 23) (nat_le i 59) outer.0 in
    (leb-true h 23 inner.0, leb-true i 59 inner.1, leb-true s 59 outer.1)

-- a second is in one day, at one time of day
same_clock : (n h i s n₂ h₂ i₂ s₂ : ℕ) → is_time h i s ≡ true → is_time h₂ i₂ s₂ ≡ true → n * 86400 + second_of_day h i s ≡ n₂ * 86400 + second_of_day h₂ i₂ s₂ → (n ≡ n₂) × (h ≡ h₂) × (i ≡ i₂) × (s ≡ s₂)
same_clock n h i s n₂ h₂ i₂ s₂ t t₂ e =
    let a = time_bounds h i s t in
    let a₂ = time_bounds h₂ i₂ s₂ t₂ in
    let day : n ≡ n₂ = omega arith in
    let hour : h ≡ h₂ = omega arith in
    let minute : i ≡ i₂ = omega arith in
    (day, hour, minute, omega arith)

pub one_spelling : (text other : List ℕ) (at : ℕ) → stamp_of text ≡ Some at → stamp_of other ≡ Some at → text ≡ other
one_spelling text other at e e₂ =
    let a = read_from text at e in
    let b = read_from other at e₂ in
    let clock = same_clock (day_number (year_in text) (two_at text 5) (two_at text 8)) (two_at text 11) (two_at text 14) (two_at text 17)
    (day_number (year_in other) (two_at other 5) (two_at other 8)) (two_at other 11) (two_at other 14) (two_at other 17) a.time b.time (sym a.second ∙ b.second) in
    let date = same_date (year_in text) (two_at text 5) (two_at text 8) (year_in other) (two_at other 5) (two_at other 8) a.date b.date clock.0 in
    let most = two_bound text 2 a.shape refl refl in
    let most₂ = two_bound other 2 b.shape refl refl in
    let century : two_at text 0 ≡ two_at other 0 = omega (arith, date.0, most, most₂) in
    let year : two_at text 2 ≡ two_at other 2 = omega (arith, date.0, most, most₂) in
    let p0 = two_same text other 0 a.shape b.shape refl refl century in
    let p2 = two_same text other 2 a.shape b.shape refl refl year in
    let p5 = two_same text other 5 a.shape b.shape refl refl date.1 in
    let p8 = two_same text other 8 a.shape b.shape refl refl date.2 in
    let p11 = two_same text other 11 a.shape b.shape refl refl clock.1 in
    let p14 = two_same text other 14 a.shape b.shape refl refl clock.2 in
    let p17 = two_same text other 17 a.shape b.shape refl refl clock.3 in
    let P : ℕ → Type 0 = λ k. slice_index text k ≡ slice_index other k in
    same_text stamp_pattern text other a.shape b.shape
    (by_place P p0.0 p0.1 p2.0 p2.1 p5.0 p5.1 p8.0 p8.1 p11.0 p11.1 p14.0 p14.1 p17.0 p17.1)
