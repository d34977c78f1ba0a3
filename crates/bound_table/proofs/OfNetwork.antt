-- Bounds that are read are of the network.
use Rattle.std.proofs.Common.{◌≡◌, ◌+◌, ◌-◌, ◌<◌, ◌≤◌, true, ℕ, List, [], ◌∷◌, ◌++◌, length, get_or, Result, Ok, Err, ltb, inl, inr, subst, arith}
use Rattle.std.specs.Prelude.{AllPairs, slice_get, option_map, IfOk}
use Rattle.std.proofs.lemmas.Bool.{cond_both, ltb-true, cases_lt}
use Rattle.std.proofs.lemmas.Option.{slice_get-get_or}
use Rattle.std.proofs.lemmas.List.Elements.{All-push}
use Rattle.std.proofs.lemmas.List.Quantifiers.{all_pairs_push}
use Rattle.grid_model.specs.Parts.{Parts}
use Rattle.grid_model.specs.declared.parts.DeviceId.{DeviceId}
use Rattle.event_rules.specs.Lines.{is_empty}
use Rattle.bound_table.specs.declared.bounds.BoundRow.{BoundRow}
use Rattle.bound_table.specs.declared.bounds.BoundRule.{BoundRule}
use Rattle.bound_table.specs.declared.bounds.BoundRule.TheVariants.{OutOfOrder, Trailing}
use Rattle.bound_table.specs.declared.bound_line.BoundLine.{BoundLine}
use Rattle.bound_table.specs.declared.bound_line.BoundLine.TheVariants.{Cut, Row, End}
use Rattle.bound_table.specs.Table.{Table}
use Rattle.bound_table.specs.Sound.{most_cost, IsRowOf, IsTableOf}
use Rattle.bound_table.specs.BoundLines.{cost_of, line_of}
use Rattle.bound_table.specs.ReportLines.{ended_lines, unended_part}
use Rattle.bound_table.specs.Report.{Progress, Before, Inside, Ended, Stopped, is_behind, last_cut, last_row, with_cut, with_row, with_bound_line, with_cost, begins_bounds, has_no_rows, with_line, ReportReading, IsRead, IsRefused, at_end, after_lines, after_text, report_reading}
use Rattle.bound_table.proofs.LinesOfNetwork.{IsLineOf, cost_of-le, line_of-of}

-- the bounds so far are of the network
abbrev IsProgressOf : Parts → Progress → Type 0
IsProgressOf g Before = Unit {0}
IsProgressOf g (Inside t) = IsTableOf g t
IsProgressOf g (Ended t) = IsTableOf g t
IsProgressOf g (Stopped line rule) = Unit {0}

abbrev pub IsReadingOf : Parts → ReportReading → Type 0
IsReadingOf g (IsRead t) = IsTableOf g t
IsReadingOf g (IsRefused line rule) = Unit {0}

-- what is greater than the last one is greater than all
behind_all : {X : Type 0} (key : X → ℕ) (xs : List X) (n : ℕ) → AllPairs (λ a b. key a < key b) xs → is_behind n (option_map key (slice_get xs (length xs - 1))) ≡ true → (k : ℕ) (d : X) → k < length xs → key (get_or xs k d) < n
behind_all key xs n pairs h k d less =
    let place : length xs - 1 < length xs = omega arith in
    let last : ltb (key (get_or xs (length xs - 1) d)) n ≡ true = rw (slice_get-get_or xs (length xs - 1) d place) at h in
    let below = ltb-true (key (get_or xs (length xs - 1) d)) n last in
    elim (cases_lt k (length xs - 1)) [
      | inl before ↦ let more = pairs k (length xs - 1) d before place in omega arith
      | inr there ↦ let same : k ≡ length xs - 1 = omega arith in rw same below
    ]

with_cut-of : (g : Parts) (line : ℕ) (t : Table) (d : DeviceId) → IsTableOf g t → d.0 < length g.devices → IsProgressOf g (with_cut line t d)
with_cut-of g line t d h hd =
    cond_both (is_behind d.0 (last_cut t)) (Inside (record { cost = t.cost; cuts = t.cuts ++ d ∷ []; rows = t.rows })) (Stopped line OutOfOrder) (IsProgressOf g)
    (λ e. record {
      cost = h.cost;
      cuts = All-push (λ c. c.0 < length g.devices) t.cuts d h.cuts hd;
      rows = h.rows;
      cuts_ascend = all_pairs_push (λ a b. a.0 < b.0) t.cuts d h.cuts_ascend (behind_all (λ c. c.0) t.cuts d.0 h.cuts_ascend e);
      rows_ascend = h.rows_ascend;
    })
    (λ e. tt)

with_row-of : (g : Parts) (line : ℕ) (t : Table) (r : BoundRow) → IsTableOf g t → IsRowOf g r → IsProgressOf g (with_row line t r)
with_row-of g line t r h hr =
    cond_both (is_behind r.node.0 (last_row t)) (Inside (record { cost = t.cost; cuts = t.cuts; rows = t.rows ++ r ∷ [] })) (Stopped line OutOfOrder) (IsProgressOf g)
    (λ e. record {
      cost = h.cost;
      cuts = h.cuts;
      rows = All-push (IsRowOf g) t.rows r h.rows hr;
      cuts_ascend = h.cuts_ascend;
      rows_ascend = all_pairs_push (λ a b. a.node.0 < b.node.0) t.rows r h.rows_ascend (behind_all (λ a. a.node.0) t.rows r.node.0 h.rows_ascend e);
    })
    (λ e. tt)

with_bound_line-of : (g : Parts) (line : ℕ) (t : Table) (r : Result BoundLine BoundRule) → IsTableOf g t → IsLineOf g r → IsProgressOf g (with_bound_line line t r)
with_bound_line-of g line t (Err rule) h hr = tt
with_bound_line-of g line t (Ok (Cut d)) h hr = with_cut-of g line t d h hr
with_bound_line-of g line t (Ok (Row r)) h hr = with_row-of g line t r h hr
with_bound_line-of g line t (Ok End) h hr = h

with_cost-of : (g : Parts) (line : ℕ) (r : Result ℕ BoundRule) → IfOk r (λ n. n ≤ most_cost) → IsProgressOf g (with_cost line r)
with_cost-of g line (Err rule) h = tt
with_cost-of g line (Ok cost) h = record {
  cost = h;
  cuts = λ k d less. absurd (omega (arith, less));
  rows = λ k d less. absurd (omega (arith, less));
  cuts_ascend = λ i j d before less. absurd (omega (arith, less));
  rows_ascend = λ i j d before less. absurd (omega (arith, less));
}

with_line-of : (g : Parts) (number : ℕ) (line : List ℕ) (p : Progress) → IsProgressOf g p → IsProgressOf g (with_line g number line p)
with_line-of g number line Before h =
    cond_both (begins_bounds line) (with_cost number (cost_of line)) Before (IsProgressOf g)
    (λ e. with_cost-of g number (cost_of line) (cost_of-le line)) (λ e. tt)
with_line-of g number line (Inside t) h = with_bound_line-of g number t (line_of g (has_no_rows t) line) h (line_of-of g (has_no_rows t) line)
with_line-of g number line (Ended t) h = tt
with_line-of g number line (Stopped k rule) h = tt

at_end-of : (g : Parts) (p : Progress) (next : ℕ) (part : List ℕ) → IsProgressOf g p → IsReadingOf g (at_end p next part)
at_end-of g Before next part h = tt
at_end-of g (Inside t) next part h = tt
at_end-of g (Ended t) next part h = cond_both (is_empty part) (IsRead t) (IsRefused next Trailing) (IsReadingOf g) (λ e. h) (λ e. tt)
at_end-of g (Stopped k rule) next part h = tt

after_lines-of : (g : Parts) (p : Progress) (next : ℕ) (lines : List (List ℕ)) (part : List ℕ) → IsProgressOf g p → IsReadingOf g (after_lines g p next lines part)
unfolding after_lines
after_lines-of g p next [] part h = at_end-of g p next part h
after_lines-of g p next (line ∷ lines) part h = after_lines-of g (with_line g next line p) (next + 1) lines part (with_line-of g next line p h)

after_text-of : (g : Parts) (p : Progress) (next : ℕ) (text : List ℕ) → IsProgressOf g p → IsReadingOf g (after_text g p next text)
unfolding after_text
after_text-of g p next text h = after_lines-of g p next (ended_lines text) (unended_part text) h

pub read_of_network : (g : Parts) (t : Table) (report : List ℕ) → report_reading g report ≡ IsRead t → IsTableOf g t
read_of_network g t report e = subst (IsReadingOf g) e (after_text-of g Before 1 report tt)
