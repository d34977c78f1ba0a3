-- The second of a text of the right shape is that of its date and its time of day.
use Rattle.std.proofs.Common.{◌≡◌, ◌+◌, ◌*◌, true, false, None, refl, sym, ◌∙◌, rules, arith}
use Rattle.event_rules.specs.Stamps.{has_stamp_shape, two_at, year_in}
use Rattle.line_text.proofs.StampDays.{number_bound}
use Rattle.line_text.proofs.StampTexts.{when_shaped, when_misshapen, no_day, no_time, both_exist, same_second}
use Rattle.line_text.proofs.stamps.read_stamp.Goals as goal

pub returns-then-not-has_stamp_shape-clause-second : goal.returns-then-not-has_stamp_shape-clause-second
returns-then-not-has_stamp_shape-clause-second c =
    let misshapen : has_stamp_shape c.args.text.now ≡ false = first_of (cc, search rules) in
    sym (when_misshapen c.args.text.now misshapen)

pub returns-in_err-day-clause-second : goal.returns-in_err-day-clause-second
returns-in_err-day-clause-second c =
    let text = c.args.text.now in
    let shape : has_stamp_shape text ≡ true = first_of (cc, search rules) in
    let year : c.from.result * 100 + c.from-2.result ≡ year_in text = omega arith in
    let same = same_second _ _ _ _ _ _ (two_at text 11) _ (two_at text 14) _ (two_at text 17) _
    year c.two_digits-3.ensures.value c.two_digits-4.ensures.value refl refl refl in
    let none : c.from_residual.result ≡ None = first_of (cc, search rules) in
    rw none
    (sym (when_shaped text shape ∙ sym same ∙ no_day c.day_number.result _ _ _ _ _ _ c.day_number.ensures.exists c.in_err-day.was))

pub returns-in_err-second-clause-second : goal.returns-in_err-second-clause-second
returns-in_err-second-clause-second c =
    let text = c.args.text.now in
    let shape : has_stamp_shape text ≡ true = first_of (cc, search rules) in
    let year : c.from.result * 100 + c.from-2.result ≡ year_in text = omega arith in
    let same = same_second _ _ _ _ _ _ _ _ _ _ _ _
    year c.two_digits-3.ensures.value c.two_digits-4.ensures.value c.two_digits-5.ensures.value c.two_digits-6.ensures.value c.two_digits-7.ensures.value in
    let none : c.from_residual-in_err-second.result ≡ None = first_of (cc, search rules) in
    rw none
    (sym (when_shaped text shape ∙ sym same ∙ no_time c.second_of_day.result _ _ _ _ _ _ c.second_of_day.ensures.value c.in_err-second.was))

pub returns-clause-second : goal.returns-clause-second
returns-clause-second c =
    let text = c.args.text.now in
    let shape : has_stamp_shape text ≡ true = first_of (cc, search rules) in
    let year : c.from.result * 100 + c.from-2.result ≡ year_in text = omega arith in
    let same = same_second _ _ _ _ _ _ _ _ _ _ _ _
    year c.two_digits-3.ensures.value c.two_digits-4.ensures.value c.two_digits-5.ensures.value c.two_digits-6.ensures.value c.two_digits-7.ensures.value in
    sym (when_shaped text shape ∙ sym same
    ∙ both_exist c.from-3.result c.from-4.result _ _ _ _ _ _ (c.in_ok-day.ensures.exists.0 refl) (search rules) (search rules))

pub returns-clause-bound : goal.returns-clause-bound
returns-clause-bound c =
    let year = c.from.result * 100 + c.from-2.result in
    let day = number_bound year c.two_digits-3.result c.two_digits-4.result (c.in_ok-day.ensures.exists.0 refl) in
    omega (arith, day, c.in_ok-day.ensures.value, c.in_ok-second.ensures.bound)
