-- What one line more adds.
use Rattle.std.proofs.Common.{◌≡◌, ℕ, ◌+◌, ◌*◌, ◌<◌, Bool, true, false, cond, List, [], ◌∷◌, ◌++◌, length, get_or, take, refl, sym, ap, ◌∙◌, zero-add}
use Rattle.std.specs.Prelude.{◌&&◌, filter, sum_by}
use Rattle.std.proofs.lemmas.List.{take_more}
use Rattle.std.proofs.lemmas.List.Elements.{filter-append}
use Rattle.std.proofs.lemmas.List.Sums.{sum_by-append}
use Rattle.grid_model.specs.Parts.{Parts}
use Rattle.grid_model.specs.declared.history.Line.{Line}
use Rattle.grid_model.specs.declared.history.Period.{Period}
use Rattle.history_rules.specs.Outages.{customers_of}
use Rattle.history_rules.specs.Indices.{begins_in, seconds_of, is_sustained, counted_lines, customers_interrupted, customer_seconds}

abbrev pub counts : Period → ℕ → Line → Bool
counts period now l = begins_in period l && is_sustained now l

-- a line that counts, and one that doesn't
one_passes : (f : Line → ℕ) (test : Line → Bool) (l : Line) → test l ≡ true → sum_by f (filter test (l ∷ [])) ≡ f l
one_passes f test l e = ap (λ b. sum_by f (cond b (l ∷ []) [])) e ∙ zero-add (f l)

one_fails : (f : Line → ℕ) (test : Line → Bool) (l : Line) → test l ≡ false → sum_by f (filter test (l ∷ [])) ≡ 0
one_fails f test l e = ap (λ b. sum_by f (cond b (l ∷ []) [])) e

more_passes : (f : Line → ℕ) (test : Line → Bool) (ls : List Line) (i : ℕ) (d : Line) → i < length ls
    → sum_by f (filter test (take (i + 1) ls)) ≡ sum_by f (filter test (take i ls)) + sum_by f (filter test (get_or ls i d ∷ []))
more_passes f test ls i d l =
    ap (λ ms. sum_by f (filter test ms)) (take_more ls i d l)
    ∙ ap (sum_by f) (filter-append test (take i ls) (get_or ls i d ∷ []))
    ∙ sum_by-append f (filter test (take i ls)) (filter test (get_or ls i d ∷ []))

module _ (g : Parts) (period : Period) (now : ℕ) where
  pub interrupted_of_none : 0 ≡ customers_interrupted g period now []
  unfolding customers_interrupted counted_lines
  interrupted_of_none = refl

  pub seconds_of_none : 0 ≡ customer_seconds g period now []
  unfolding customer_seconds counted_lines
  seconds_of_none = refl

  pub interrupted_of_counted : (l : Line) → counts period now l ≡ true → customers_interrupted g period now (l ∷ []) ≡ customers_of g l.meter.0
  unfolding customers_interrupted counted_lines
  interrupted_of_counted l e = one_passes (λ k. customers_of g k.meter.0) (counts period now) l e

  pub seconds_of_counted : (l : Line) → counts period now l ≡ true → customer_seconds g period now (l ∷ []) ≡ customers_of g l.meter.0 * seconds_of now l
  unfolding customer_seconds counted_lines
  seconds_of_counted l e = one_passes (λ k. customers_of g k.meter.0 * seconds_of now k) (counts period now) l e

  pub interrupted_of_uncounted : (l : Line) → counts period now l ≡ false → customers_interrupted g period now (l ∷ []) ≡ 0
  unfolding customers_interrupted counted_lines
  interrupted_of_uncounted l e = one_fails (λ k. customers_of g k.meter.0) (counts period now) l e

  pub seconds_of_uncounted : (l : Line) → counts period now l ≡ false → customer_seconds g period now (l ∷ []) ≡ 0
  unfolding customer_seconds counted_lines
  seconds_of_uncounted l e = one_fails (λ k. customers_of g k.meter.0 * seconds_of now k) (counts period now) l e

  -- the sums over one line more
  pub interrupted_more : (ls : List Line) (i : ℕ) (d : Line) (before after : ℕ) → i < length ls → before ≡ customers_interrupted g period now (take i ls)
      → after ≡ before + customers_interrupted g period now (get_or ls i d ∷ []) → after ≡ customers_interrupted g period now (take (i + 1) ls)
  unfolding customers_interrupted counted_lines
  interrupted_more ls i d before after l is_before is_after =
      is_after ∙ ap (λ n. n + customers_interrupted g period now (get_or ls i d ∷ [])) is_before
      ∙ sym (more_passes (λ k. customers_of g k.meter.0) (counts period now) ls i d l)

  pub seconds_more : (ls : List Line) (i : ℕ) (d : Line) (before after : ℕ) → i < length ls → before ≡ customer_seconds g period now (take i ls)
      → after ≡ before + customer_seconds g period now (get_or ls i d ∷ []) → after ≡ customer_seconds g period now (take (i + 1) ls)
  unfolding customer_seconds counted_lines
  seconds_more ls i d before after l is_before is_after =
      is_after ∙ ap (λ n. n + customer_seconds g period now (get_or ls i d ∷ [])) is_before
      ∙ sym (more_passes (λ k. customers_of g k.meter.0 * seconds_of now k) (counts period now) ls i d l)
