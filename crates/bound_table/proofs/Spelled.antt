-- A report that is read is lines before the bounds part, and then what is printed of its bounds.
use Rattle.std.proofs.Common.{◌≡◌, ◌+◌, ◌==◌, true, false, ℕ, suc, List, [], ◌∷◌, ◌++◌, length, Result, Ok, Err, refl, ap, sym, ◌∙◌, inl, inr, subst, append_assoc, arith, not}
use Rattle.std.specs.Prelude.{codes, decimal, flat_map, IfOk}
use Rattle.std.specs.List.{list_any, list_all, join_with_byte}
use Rattle.std.proofs.lemmas.Bool.{cond_both, cases_Bool, and_parts, and_from, or_from, not-true, not_from_false, eqb-true}
use Rattle.std.proofs.lemmas.List.{append-nil}
use Rattle.std.proofs.lemmas.List.Folds.{list_any-append, list_all-append}
use Rattle.std.proofs.lemmas.Grind.{flat_map-append}
use Rattle.grid_model.specs.Parts.{Parts}
use Rattle.grid_model.specs.declared.parts.DeviceId.{DeviceId}
use Rattle.event_rules.specs.Lines.{is_empty}
use Rattle.bound_table.specs.declared.bounds.BoundRow.{BoundRow}
use Rattle.bound_table.specs.declared.bounds.BoundRule.{BoundRule}
use Rattle.bound_table.specs.declared.bounds.BoundRule.TheVariants.{OutOfOrder, Trailing}
use Rattle.bound_table.specs.declared.bound_line.BoundLine.{BoundLine}
use Rattle.bound_table.specs.declared.bound_line.BoundLine.TheVariants.{Cut, Row, End}
use Rattle.bound_table.specs.Table.{Table}
use Rattle.bound_table.specs.Printed.{cost_text, cut_text, row_text, end_text, bounds_text}
use Rattle.bound_table.specs.BoundLines.{cost_of, line_of}
use Rattle.bound_table.specs.ReportLines.{ended_from, unended_from}
use Rattle.bound_table.specs.Report.{Progress, Before, Inside, Ended, Stopped, is_behind, last_cut, last_row, with_cut, with_row, with_bound_line, with_cost, bare_table, begins_bounds, has_no_rows, with_line, ReportReading, IsRead, IsRefused, at_end, after_lines, after_text, report_reading}
use Rattle.bound_table.specs.Laws.{is_line_before, ended, IsBehindLines}
use Rattle.bound_table.proofs.SpelledLines.{words_of, IsLineSpelled, line_of-spelled, cost_of-spelled}

-- what is printed of bounds so far
abbrev text_so_far : Parts → Table → List ℕ
text_so_far g t = cost_text t ++ (flat_map (cut_text g) t.cuts ++ flat_map (row_text g) t.rows)

-- what the bytes so far are
abbrev IsProgressSpelled : Parts → List ℕ → Progress → Type 0
IsProgressSpelled g seen Before = IsBehindLines seen []
IsProgressSpelled g seen (Inside t) = IsBehindLines seen (text_so_far g t)
IsProgressSpelled g seen (Ended t) = IsBehindLines seen (bounds_text g t)
IsProgressSpelled g seen (Stopped line rule) = Unit {0}

abbrev IsReadingSpelled : Parts → List ℕ → ReportReading → Type 0
IsReadingSpelled g text (IsRead t) = IsBehindLines text (bounds_text g t)
IsReadingSpelled g text (IsRefused line rule) = Unit {0}

-- more bytes behind the lines
behind_more : (seen part more whole : List ℕ) → IsBehindLines seen part → part ++ more ≡ whole → IsBehindLines (seen ++ more) whole
behind_more seen part more whole h e =
    (h.0, h.1, ap (λ z. z ++ more) h.2 ∙ append_assoc (ended h.0) part more ∙ ap (λ z. ended h.0 ++ z) e)

-- one more line before the bounds part
ended_push : (before : List (List ℕ)) (line : List ℕ) → (ended before ++ []) ++ (line ++ 10 ∷ []) ≡ ended (before ++ line ∷ []) ++ []
ended_push before line =
    ap (λ z. z ++ (line ++ 10 ∷ [])) (append-nil (ended before))
    ∙ ap (λ z. ended before ++ z) (sym (append-nil (line ++ 10 ∷ [])))
    ∙ sym (flat_map-append (λ (l : List ℕ). l ++ 10 ∷ []) before (line ∷ []))
    ∙ sym (append-nil (ended (before ++ line ∷ [])))

line_before_more : (seen line : List ℕ) → list_any (λ b. b == 10) line ≡ false → begins_bounds line ≡ false → IsBehindLines seen [] → IsBehindLines (seen ++ (line ++ 10 ∷ [])) []
line_before_more seen line lf first h =
    let here : is_line_before line ≡ true = and_from (not (list_any (λ b. b == 10) line)) (not (begins_bounds line)) (not_from_false (list_any (λ b. b == 10) line) lf) (not_from_false (begins_bounds line) first) in (
      h.0 ++ line ∷ [],
      list_all-append is_line_before h.0 (line ∷ []) ∙ and_from (list_all is_line_before h.0) (list_all is_line_before (line ∷ [])) h.1 (and_from (is_line_before line) true here refl),
      ap (λ z. z ++ (line ++ 10 ∷ [])) h.2 ∙ ended_push h.0 line,
    )

-- the first line of the bounds part
with_cost-spelled : (g : Parts) (number : ℕ) (seen line : List ℕ) (r : Result ℕ BoundRule) → IfOk r (λ n. line ≡ join_with_byte 44 (codes "bounds" ∷ decimal n ∷ [])) → IsBehindLines seen [] → IsProgressSpelled g (seen ++ (line ++ 10 ∷ [])) (with_cost number r)
with_cost-spelled g number seen line (Err rule) e h = tt
with_cost-spelled g number seen line (Ok cost) e h =
    behind_more seen [] (line ++ 10 ∷ []) (text_so_far g (bare_table cost)) h
    (ap (λ z. z ++ 10 ∷ []) e ∙ sym (append-nil (cost_text (bare_table cost))))

-- one more cut
cut_joined : (cost cuts cut : List ℕ) → (cost ++ (cuts ++ [])) ++ cut ≡ cost ++ ((cuts ++ (cut ++ [])) ++ [])
cut_joined cost cuts cut = simp (append_assoc, append-nil)

cut_added : (g : Parts) (cost : List ℕ) (cuts : List DeviceId) (d : DeviceId) (rows : List BoundRow) → (length rows == 0) ≡ true → (cost ++ (flat_map (cut_text g) cuts ++ flat_map (row_text g) rows)) ++ cut_text g d ≡ cost ++ (flat_map (cut_text g) (cuts ++ d ∷ []) ++ flat_map (row_text g) rows)
cut_added g cost cuts d [] h =
    cut_joined cost (flat_map (cut_text g) cuts) (cut_text g d)
    ∙ ap (λ z. cost ++ (z ++ [])) (sym (flat_map-append (cut_text g) cuts (d ∷ [])))
cut_added g cost cuts d (r ∷ rows) h = let none = eqb-true (suc (length rows)) 0 h in absurd (omega arith)

with_cut-spelled : (g : Parts) (number : ℕ) (seen line : List ℕ) (t : Table) (d : DeviceId) → line ≡ join_with_byte 44 (words_of g (Cut d)) → has_no_rows t ≡ true → IsBehindLines seen (text_so_far g t) → IsProgressSpelled g (seen ++ (line ++ 10 ∷ [])) (with_cut number t d)
with_cut-spelled g number seen line t d e none h =
    cond_both (is_behind d.0 (last_cut t)) (Inside (record { cost = t.cost; cuts = t.cuts ++ d ∷ []; rows = t.rows })) (Stopped number OutOfOrder) (IsProgressSpelled g (seen ++ (line ++ 10 ∷ [])))
    (λ fits. behind_more seen (text_so_far g t) (line ++ 10 ∷ []) (text_so_far g (record { cost = t.cost; cuts = t.cuts ++ d ∷ []; rows = t.rows })) h
    (ap (λ z. text_so_far g t ++ (z ++ 10 ∷ [])) e ∙ cut_added g (cost_text t) t.cuts d t.rows none))
    (λ fits. tt)

-- one more row
row_joined : (cost cuts rows row : List ℕ) → (cost ++ (cuts ++ rows)) ++ row ≡ cost ++ (cuts ++ (rows ++ (row ++ [])))
row_joined cost cuts rows row = simp (append_assoc, append-nil)

row_added : (g : Parts) (cost cuts : List ℕ) (rows : List BoundRow) (r : BoundRow) → (cost ++ (cuts ++ flat_map (row_text g) rows)) ++ row_text g r ≡ cost ++ (cuts ++ flat_map (row_text g) (rows ++ r ∷ []))
row_added g cost cuts rows r =
    row_joined cost cuts (flat_map (row_text g) rows) (row_text g r)
    ∙ ap (λ z. cost ++ (cuts ++ z)) (sym (flat_map-append (row_text g) rows (r ∷ [])))

with_row-spelled : (g : Parts) (number : ℕ) (seen line : List ℕ) (t : Table) (r : BoundRow) → line ≡ join_with_byte 44 (words_of g (Row r)) → IsBehindLines seen (text_so_far g t) → IsProgressSpelled g (seen ++ (line ++ 10 ∷ [])) (with_row number t r)
with_row-spelled g number seen line t r e h =
    cond_both (is_behind r.node.0 (last_row t)) (Inside (record { cost = t.cost; cuts = t.cuts; rows = t.rows ++ r ∷ [] })) (Stopped number OutOfOrder) (IsProgressSpelled g (seen ++ (line ++ 10 ∷ [])))
    (λ fits. behind_more seen (text_so_far g t) (line ++ 10 ∷ []) (text_so_far g (record { cost = t.cost; cuts = t.cuts; rows = t.rows ++ r ∷ [] })) h
    (ap (λ z. text_so_far g t ++ (z ++ 10 ∷ [])) e ∙ row_added g (cost_text t) (flat_map (cut_text g) t.cuts) t.rows r))
    (λ fits. tt)

-- the end of the bounds part
end_joined : (cost cuts rows last : List ℕ) → (cost ++ (cuts ++ rows)) ++ last ≡ cost ++ cuts ++ rows ++ last
end_joined cost cuts rows last = simp append_assoc

with_end-spelled : (g : Parts) (seen line : List ℕ) (t : Table) → line ≡ join_with_byte 44 (words_of g End) → IsBehindLines seen (text_so_far g t) → IsBehindLines (seen ++ (line ++ 10 ∷ [])) (bounds_text g t)
unfolding bounds_text
with_end-spelled g seen line t e h =
    behind_more seen (text_so_far g t) (line ++ 10 ∷ []) (bounds_text g t) h
    (ap (λ z. text_so_far g t ++ (z ++ 10 ∷ [])) e ∙ end_joined (cost_text t) (flat_map (cut_text g) t.cuts) (flat_map (row_text g) t.rows) end_text)

-- a later line of the bounds part
with_bound_line-spelled : (g : Parts) (number : ℕ) (seen line : List ℕ) (t : Table) (r : Result BoundLine BoundRule) → IsLineSpelled g (has_no_rows t) line r → IsBehindLines seen (text_so_far g t) → IsProgressSpelled g (seen ++ (line ++ 10 ∷ [])) (with_bound_line number t r)
with_bound_line-spelled g number seen line t (Err rule) e h = tt
with_bound_line-spelled g number seen line t (Ok (Cut d)) e h = with_cut-spelled g number seen line t d e.0 e.1 h
with_bound_line-spelled g number seen line t (Ok (Row r)) e h = with_row-spelled g number seen line t r e.0 h
with_bound_line-spelled g number seen line t (Ok End) e h = with_end-spelled g seen line t e.0 h

-- one more line
with_line-spelled : (g : Parts) (number : ℕ) (seen line : List ℕ) (p : Progress) → list_any (λ b. b == 10) line ≡ false → IsProgressSpelled g seen p → IsProgressSpelled g (seen ++ (line ++ 10 ∷ [])) (with_line g number line p)
with_line-spelled g number seen line Before lf h =
    cond_both (begins_bounds line) (with_cost number (cost_of line)) Before (IsProgressSpelled g (seen ++ (line ++ 10 ∷ [])))
    (λ e. with_cost-spelled g number seen line (cost_of line) (cost_of-spelled line e) h)
    (λ e. line_before_more seen line lf e h)
with_line-spelled g number seen line (Inside t) lf h =
    with_bound_line-spelled g number seen line t (line_of g (has_no_rows t) line) (line_of-spelled g (has_no_rows t) line) h
with_line-spelled g number seen line (Ended t) lf h = tt
with_line-spelled g number seen line (Stopped k rule) lf h = tt

-- behind the last line
whole_text : (g : Parts) (t : Table) (seen part : List ℕ) → is_empty part ≡ true → IsBehindLines seen (bounds_text g t) → IsBehindLines (seen ++ (part ++ [])) (bounds_text g t)
whole_text g t seen [] e h = behind_more seen (bounds_text g t) [] (bounds_text g t) h (append-nil (bounds_text g t))
whole_text g t seen (b ∷ part) e h = cc

at_end-spelled : (g : Parts) (p : Progress) (next : ℕ) (seen part : List ℕ) → IsProgressSpelled g seen p → IsReadingSpelled g (seen ++ (part ++ [])) (at_end p next part)
at_end-spelled g Before next seen part h = tt
at_end-spelled g (Inside t) next seen part h = tt
at_end-spelled g (Ended t) next seen part h =
    cond_both (is_empty part) (IsRead t) (IsRefused next Trailing) (IsReadingSpelled g (seen ++ (part ++ [])))
    (λ e. whole_text g t seen part e h) (λ e. tt)
at_end-spelled g (Stopped k rule) next seen part h = tt

line_joined : (seen part text : List ℕ) → (seen ++ (part ++ 10 ∷ [])) ++ ([] ++ text) ≡ seen ++ (part ++ 10 ∷ text)
line_joined seen part text = append_assoc seen (part ++ 10 ∷ []) text ∙ ap (λ z. seen ++ z) (append_assoc part (10 ∷ []) text)

-- line by line
lines_spelled : (g : Parts) (p : Progress) (next : ℕ) (seen part text : List ℕ) → list_any (λ b. b == 10) part ≡ false → IsProgressSpelled g seen p → IsReadingSpelled g (seen ++ (part ++ text)) (after_lines g p next (ended_from part text) (unended_from part text))
unfolding after_lines ended_from unended_from
lines_spelled g p next seen part [] lf h = at_end-spelled g p next seen part h
lines_spelled g p next seen part (b ∷ text) lf h =
    elim (cases_Bool (b == 10)) [
      | inl end ↦
          rw (end, eqb-true b 10 end)
          (subst (λ z. IsReadingSpelled g z (after_lines g (with_line g next part p) (next + 1) (ended_from [] text) (unended_from [] text))) (line_joined seen part text)
          (lines_spelled g (with_line g next part p) (next + 1) (seen ++ (part ++ 10 ∷ [])) [] text refl (with_line-spelled g next seen part p lf h)))
      | inr other ↦
          rw other
          (subst (λ z. IsReadingSpelled g (seen ++ z) (after_lines g p next (ended_from (part ++ b ∷ []) text) (unended_from (part ++ b ∷ []) text))) (append_assoc part (b ∷ []) text)
          (lines_spelled g p next seen (part ++ b ∷ []) text
          (list_any-append (λ c. c == 10) part (b ∷ []) ∙ or_from (list_any (λ c. c == 10) part) (list_any (λ c. c == 10) (b ∷ [])) lf (or_from (b == 10) false other refl)) h))
    ]

report_spelled : (g : Parts) (report : List ℕ) → IsReadingSpelled g report (report_reading g report)
unfolding after_text
report_spelled g report = lines_spelled g Before 1 [] [] report refl ([], refl, refl)

pub one_spelling : (g : Parts) (t : Table) (report : List ℕ) → report_reading g report ≡ IsRead t → IsBehindLines report (bounds_text g t)
one_spelling g t report e = subst (IsReadingSpelled g report) e (report_spelled g report)

-- a line that doesn't begin the bounds part doesn't so with what stands behind it
begins_same : (line behind : List ℕ) → begins_bounds (line ++ 10 ∷ behind) ≡ begins_bounds line
begins_same [] behind = refl
begins_same (a ∷ []) behind = refl
begins_same (a ∷ b ∷ []) behind = refl
begins_same (a ∷ b ∷ c ∷ []) behind = refl
begins_same (a ∷ b ∷ c ∷ d ∷ []) behind = refl
begins_same (a ∷ b ∷ c ∷ d ∷ e ∷ []) behind = refl
begins_same (a ∷ b ∷ c ∷ d ∷ e ∷ f ∷ []) behind = refl
begins_same (a ∷ b ∷ c ∷ d ∷ e ∷ f ∷ h ∷ line) behind = refl

no_line_before : (report part : List ℕ) (before : List (List ℕ)) → begins_bounds report ≡ true → list_all is_line_before before ≡ true → report ≡ ended before ++ part → report ≡ part
no_line_before report part [] first h e = e
no_line_before report part (line ∷ before) first h e =
    let here = and_parts (is_line_before line) (list_all is_line_before before) h in
    let other : begins_bounds line ≡ false = not-true (begins_bounds line) (and_parts (not (list_any (λ b. b == 10) line)) (not (begins_bounds line)) here.0).1 in
    let whole : report ≡ line ++ 10 ∷ (ended before ++ part) = e ∙ append_assoc (line ++ 10 ∷ []) (ended before) part ∙ append_assoc line (10 ∷ []) (ended before ++ part) in
    let same : true ≡ false = sym first ∙ ap begins_bounds whole ∙ begins_same line (ended before ++ part) ∙ other in
    cc

pub one_spelling_alone : (g : Parts) (t : Table) (part : List ℕ) → begins_bounds part ≡ true → report_reading g part ≡ IsRead t → part ≡ bounds_text g t
one_spelling_alone g t part first e =
    let h = one_spelling g t part e in no_line_before part (bounds_text g t) h.0 first h.1 h.2
