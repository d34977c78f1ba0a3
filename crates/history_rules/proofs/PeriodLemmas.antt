-- What a period counts is what its two parts count.
use Rattle.std.proofs.Common.{◌≡◌, ℕ, ◌+◌, ◌*◌, ◌<◌, ◌≤◌, ◌⊎◌, inl, inr, Bool, true, false, cond, List, [], ◌∷◌, refl, sym, sum_by, filter, arith}
use Rattle.std.specs.Prelude.{◌&&◌, nat_lt, nat_le, Option, Some, None, if◌then◌else◌}
use Rattle.std.proofs.lemmas.Bool.{false≢true, lt-ltb, le-ltb, le-leb, lt-leb, cases_lt}
use Rattle.std.proofs.lemmas.List.Sums.{sum_by-cons}
use Rattle.grid_model.specs.declared.history.Line.{Line}
use Rattle.grid_model.specs.declared.history.Stamp.{Stamp}
use Rattle.history_rules.specs.Outages.{customers_of}
use Rattle.history_rules.specs.Indices.{is_before, begins_in, seconds_of, is_sustained, counted_lines, customers_interrupted, customer_seconds, period_between, IsAtMost, PeriodsAddUp}

-- what passes a test counts
abbrev if_passed : Bool → ℕ → ℕ
if_passed passed n = if passed then n else 0

-- a number counts by one test where it counts by one of two others
abbrev AddsUp : Bool → Bool → Bool → Type 0
AddsUp whole first second = (n : ℕ) → if_passed whole n ≡ if_passed first n + if_passed second n

sum_step : (f : Line → ℕ) (passed : Bool) (l : Line) (kept : List Line) → sum_by f (cond passed (l ∷ kept) kept) ≡ if_passed passed (f l) + sum_by f kept
sum_step f true l kept = sum_by-cons f l kept
sum_step f false l kept = omega arith

sums_add_up : (f : Line → ℕ) (whole first second : Line → Bool) → ((l : Line) → AddsUp (whole l) (first l) (second l)) → (lines : List Line) →
    sum_by f (filter whole lines) ≡ sum_by f (filter first lines) + sum_by f (filter second lines)
sums_add_up f whole first second each [] = refl
sums_add_up f whole first second each (l ∷ rest) =
    let all = sum_step f (whole l) l (filter whole rest) in
    let one = sum_step f (first l) l (filter first rest) in
    let other = sum_step f (second l) l (filter second rest) in
    let here : if_passed (whole l) (f l) ≡ if_passed (first l) (f l) + if_passed (second l) (f l) = each l (f l) in
    let behind = sums_add_up f whole first second each rest in
    omega arith

-- a line that begins before the middle, and one that doesn't
in_first : (low below before high long : Bool) → below ≡ true → before ≡ true → high ≡ false → AddsUp ((low && before) && long) ((low && below) && long) ((high && before) && long)
in_first low true true false long b e h n = omega arith
in_first low true true true long b e h n = absurd (false≢true (sym h))
in_first low true false high long b e h n = absurd (false≢true e)
in_first low false before high long b e h n = absurd (false≢true b)

in_second : (low below before high long : Bool) → low ≡ true → below ≡ false → high ≡ true → AddsUp ((low && before) && long) ((low && below) && long) ((high && before) && long)
in_second true false before true long l b h n = omega arith
in_second true false before false long l b h n = absurd (false≢true h)
in_second true true before high long l b h n = absurd (false≢true (sym b))
in_second false below before high long l b h n = absurd (false≢true l)

before_end : (start : Stamp) (middle : ℕ) (until : Option Stamp) → start.0 < middle → IsAtMost middle until → is_before start until ≡ true
before_end start middle None earlier most = refl
before_end start middle (Some until) earlier most = lt-ltb start.0 until.0 (omega arith)

parts_add_up : (from middle : ℕ) (until : Option Stamp) (now : ℕ) → from ≤ middle → IsAtMost middle until → (l : Line) →
    AddsUp (begins_in (period_between from until) l && is_sustained now l)
    (begins_in (period_between from (Some (record { 0 = middle }))) l && is_sustained now l)
    (begins_in (period_between middle until) l && is_sustained now l)
parts_add_up from middle until now low most l = by_side (cases_lt l.start.0 middle)
  where
    by_side : (l.start.0 < middle) ⊎ (middle ≤ l.start.0) →
        AddsUp (begins_in (period_between from until) l && is_sustained now l)
        (begins_in (period_between from (Some (record { 0 = middle }))) l && is_sustained now l)
        (begins_in (period_between middle until) l && is_sustained now l)
    by_side (inl earlier) =
        in_first (nat_le from l.start.0) (nat_lt l.start.0 middle) (is_before l.start until) (nat_le middle l.start.0) (is_sustained now l)
        (lt-ltb l.start.0 middle earlier) (before_end l.start middle until earlier most) (lt-leb middle l.start.0 earlier)
    by_side (inr later) =
        in_second (nat_le from l.start.0) (nat_lt l.start.0 middle) (is_before l.start until) (nat_le middle l.start.0) (is_sustained now l)
        (le-leb from l.start.0 (omega arith)) (le-ltb l.start.0 middle later) (le-leb middle l.start.0 later)

pub periods_add_up : PeriodsAddUp
unfolding customers_interrupted customer_seconds counted_lines
periods_add_up g from middle until now lines low most =
    let whole = λ (l : Line). begins_in (period_between from until) l && is_sustained now l in
    let first = λ (l : Line). begins_in (period_between from (Some (record { 0 = middle }))) l && is_sustained now l in
    let second = λ (l : Line). begins_in (period_between middle until) l && is_sustained now l in
    let each = parts_add_up from middle until now low most in
    record {
      interrupted = sums_add_up (λ l. customers_of g l.meter.0) whole first second each lines;
      seconds = sums_add_up (λ l. customers_of g l.meter.0 * seconds_of now l) whole first second each lines;
    }
