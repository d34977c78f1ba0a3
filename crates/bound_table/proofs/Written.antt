-- Bounds are read as they were printed.
use Rattle.std.proofs.Common.{◌≡◌, ◌+◌, ◌-◌, ◌<◌, true, ℕ, suc, List, [], ◌∷◌, ◌++◌, length, get_or, Ok, refl, ap, sym, ◌∙◌, inl, inr, subst, arith, append_assoc, length-append, ◌==◌, not}
use Rattle.std.specs.Prelude.{All, AllPairs, codes, decimal, flat_map, slice_get, option_map}
use Rattle.std.specs.List.{join_with_byte, list_any, list_all}
use Rattle.std.proofs.lemmas.Bool.{lt-ltb, and_parts, not-true}
use Rattle.std.proofs.lemmas.List.{append-nil, get_or_at, get_or_append_left}
use Rattle.std.proofs.lemmas.Option.{slice_get_cases}
use Rattle.grid_model.specs.Parts.{Parts}
use Rattle.grid_model.specs.Sound.{IsSoundParts}
use Rattle.grid_model.specs.declared.parts.DeviceId.{DeviceId}
use Rattle.event_rules.specs.Rows.{row}
use Rattle.bound_table.specs.declared.bounds.BoundRow.{BoundRow}
use Rattle.bound_table.specs.declared.bound_line.BoundLine.TheVariants.{Cut, Row, End}
use Rattle.bound_table.specs.Table.{Table}
use Rattle.bound_table.specs.Sound.{IsRowOf, IsTableOf}
use Rattle.bound_table.specs.Printed.{device_name, cost_text, cut_text, row_text, end_text, bounds_text}
use Rattle.bound_table.specs.BoundLines.{line_of}
use Rattle.bound_table.specs.Report.{Progress, Before, Inside, Ended, is_behind, last_cut, last_row, bare_table, begins_bounds, has_no_rows, with_line, ReportReading, IsRead, after_text, report_reading}
use Rattle.bound_table.specs.Laws.{is_line_before, ended}
use Rattle.bound_table.proofs.ReportSteps.{after_text-line, after_text-ended}
use Rattle.bound_table.proofs.FirstLines.{first_line-taken, line_before}
use Rattle.bound_table.proofs.Commas.{are_words, words_no_lf}
use Rattle.bound_table.proofs.PrintedLines.{cost_words, cost_line, cut_words, cut_line, row_words, row_are_words, row_line, end_line}

abbrev table : ℕ → List DeviceId → List BoundRow → Table
table cost cuts rows = record { cost = cost; cuts = cuts; rows = rows }

-- a printed line is one line
row_step : (g : Parts) (p q : Progress) (n : ℕ) (words : List (List ℕ)) (behind : List ℕ) → are_words words ≡ true → with_line g n (join_with_byte 44 words) p ≡ q → after_text g p n (row words ++ behind) ≡ after_text g q (n + 1) behind
row_step g p q n words behind h e =
    ap (after_text g p n) (append_assoc (join_with_byte 44 words) (10 ∷ []) behind)
    ∙ after_text-line g p n (join_with_byte 44 words) behind (words_no_lf words h) ∙ ap (λ z. after_text g z (n + 1) behind) e

-- in an ascending list each is greater than the last one before it
behind_last : {X : Type 0} (key : X → ℕ) (front : List X) (x : X) (back : List X) → AllPairs (λ a b. key a < key b) (front ++ x ∷ back) → is_behind (key x) (option_map key (slice_get front (length front - 1))) ≡ true
behind_last key front x back pairs =
    elim (slice_get_cases front (length front - 1)).1 [
      | inl found ↦
          let less : length front - 1 < length front = found.1 in
          let at : get_or (front ++ x ∷ back) (length front - 1) found.0 ≡ found.0 = get_or_append_left front (x ∷ back) found.0 (length front - 1) less ∙ found.3 in
          let here : get_or (front ++ x ∷ back) (length front) found.0 ≡ x = get_or_at front x back found.0 (length front) refl in
          let pair = pairs (length front - 1) (length front) found.0 less (omega (arith, length-append front (x ∷ back))) in
          rw found.2 (lt-ltb (key found.0) (key x) (rw (at, here) at pair))
      | inr none ↦ rw none.1 refl
    ]

cut_step : (g : Parts) (n cost : ℕ) (front : List DeviceId) (d : DeviceId) (line : List ℕ) → line_of g true line ≡ Ok (Cut d) → is_behind d.0 (last_cut (table cost front [])) ≡ true → with_line g n line (Inside (table cost front [])) ≡ Inside (table cost (front ++ d ∷ []) [])
cut_step g n cost front d line e h = rw (e, h) refl

cuts_taken : (g : Parts) (sound : IsSoundParts g) (n cost : ℕ) (front back : List DeviceId) (behind : List ℕ) (end : ReportReading) → All (λ d. d.0 < length g.devices) back → AllPairs (λ a b. a.0 < b.0) (front ++ back) → ((m : ℕ) → after_text g (Inside (table cost (front ++ back) [])) m behind ≡ end) → after_text g (Inside (table cost front [])) n (flat_map (cut_text g) back ++ behind) ≡ end
cuts_taken g sound n cost front [] behind end of_grid pairs rest =
    ap (λ z. after_text g (Inside (table cost z [])) n behind) (sym (append-nil front)) ∙ rest n
cuts_taken g sound n cost front (d ∷ back) behind end of_grid pairs rest =
    let known : d.0 < length g.devices = of_grid 0 d (omega arith) in
    ap (after_text g (Inside (table cost front [])) n) (append_assoc (cut_text g d) (flat_map (cut_text g) back) behind)
    ∙ row_step g (Inside (table cost front [])) (Inside (table cost (front ++ d ∷ []) [])) n (codes "cut" ∷ device_name g d ∷ []) (flat_map (cut_text g) back ++ behind) (cut_words g d sound known)
    (cut_step g n cost front d (join_with_byte 44 (codes "cut" ∷ device_name g d ∷ [])) (cut_line g d sound known) (behind_last (λ c. c.0) front d back pairs))
    ∙ cuts_taken g sound (n + 1) cost (front ++ d ∷ []) back behind end
    (λ k e less. of_grid (suc k) e (omega arith))
    (subst (AllPairs (λ a b. a.0 < b.0)) (sym (append_assoc front (d ∷ []) back)) pairs)
    (λ m. ap (λ z. after_text g (Inside (table cost z [])) m behind) (append_assoc front (d ∷ []) back) ∙ rest m)

table_row_step : (g : Parts) (n cost : ℕ) (cuts : List DeviceId) (front : List BoundRow) (r : BoundRow) (line : List ℕ) → line_of g (has_no_rows (table cost cuts front)) line ≡ Ok (Row r) → is_behind r.node.0 (last_row (table cost cuts front)) ≡ true → with_line g n line (Inside (table cost cuts front)) ≡ Inside (table cost cuts (front ++ r ∷ []))
table_row_step g n cost cuts front r line e h = rw (e, h) refl

rows_taken : (g : Parts) (sound : IsSoundParts g) (n cost : ℕ) (cuts : List DeviceId) (front back : List BoundRow) (behind : List ℕ) (end : ReportReading) → All (IsRowOf g) back → AllPairs (λ a b. a.node.0 < b.node.0) (front ++ back) → ((m : ℕ) → after_text g (Inside (table cost cuts (front ++ back))) m behind ≡ end) → after_text g (Inside (table cost cuts front)) n (flat_map (row_text g) back ++ behind) ≡ end
rows_taken g sound n cost cuts front [] behind end of_grid pairs rest =
    ap (λ z. after_text g (Inside (table cost cuts z)) n behind) (sym (append-nil front)) ∙ rest n
rows_taken g sound n cost cuts front (r ∷ back) behind end of_grid pairs rest =
    let known : IsRowOf g r = of_grid 0 r (omega arith) in
    ap (after_text g (Inside (table cost cuts front)) n) (append_assoc (row_text g r) (flat_map (row_text g) back) behind)
    ∙ row_step g (Inside (table cost cuts front)) (Inside (table cost cuts (front ++ r ∷ []))) n (row_words g r) (flat_map (row_text g) back ++ behind) (row_are_words g r sound known)
    (table_row_step g n cost cuts front r (join_with_byte 44 (row_words g r)) (row_line g (has_no_rows (table cost cuts front)) r sound known) (behind_last (λ a. a.node.0) front r back pairs))
    ∙ rows_taken g sound (n + 1) cost cuts (front ++ r ∷ []) back behind end
    (λ k e less. of_grid (suc k) e (omega arith))
    (subst (AllPairs (λ a b. a.node.0 < b.node.0)) (sym (append_assoc front (r ∷ []) back)) pairs)
    (λ m. ap (λ z. after_text g (Inside (table cost cuts z)) m behind) (append_assoc front (r ∷ []) back) ∙ rest m)

end_step : (g : Parts) (n : ℕ) (t : Table) (line : List ℕ) → line_of g (has_no_rows t) line ≡ Ok End → with_line g n line (Inside t) ≡ Ended t
end_step g n t line e = rw e refl

end_taken : (g : Parts) (n : ℕ) (t : Table) → after_text g (Inside t) n end_text ≡ IsRead t
end_taken g n t =
    ap (after_text g (Inside t) n) (sym (append-nil end_text))
    ∙ row_step g (Inside t) (Ended t) n (codes "endbounds" ∷ []) [] refl (end_step g n t (join_with_byte 44 (codes "endbounds" ∷ [])) (end_line g (has_no_rows t)))
    ∙ after_text-ended g t (n + 1) []

regroup : (a b c d : List ℕ) → a ++ b ++ c ++ d ≡ a ++ (b ++ (c ++ d))
regroup a b c d = simp append_assoc

bounds_taken : (g : Parts) (n : ℕ) (t : Table) → IsSoundParts g → IsTableOf g t → after_text g Before n (bounds_text g t) ≡ IsRead t
unfolding bounds_text
bounds_taken g n t sound h =
    let behind_cuts : List ℕ = flat_map (row_text g) t.rows ++ end_text in
    let behind : List ℕ = flat_map (cut_text g) t.cuts ++ behind_cuts in
    ap (after_text g Before n) (regroup (cost_text t) (flat_map (cut_text g) t.cuts) (flat_map (row_text g) t.rows) end_text)
    ∙ row_step g Before (Inside (bare_table t.cost)) n (codes "bounds" ∷ decimal t.cost ∷ []) behind (cost_words t.cost h.cost)
    (first_line-taken g n (join_with_byte 44 (codes "bounds" ∷ decimal t.cost ∷ [])) t.cost refl (cost_line t.cost h.cost))
    ∙ cuts_taken g sound (n + 1) t.cost [] t.cuts behind_cuts (IsRead t) h.cuts h.cuts_ascend
    (λ m. rows_taken g sound m t.cost t.cuts [] t.rows end_text (IsRead t) h.rows h.rows_ascend (λ k. end_taken g k t))

-- lines that may stand before the bounds part change nothing
lines_skipped : (g : Parts) (n : ℕ) (before : List (List ℕ)) (behind : List ℕ) (end : ReportReading) → list_all is_line_before before ≡ true → ((m : ℕ) → after_text g Before m behind ≡ end) → after_text g Before n (ended before ++ behind) ≡ end
lines_skipped g n [] behind end h rest = rest n
lines_skipped g n (line ∷ before) behind end h rest =
    let parts = and_parts (is_line_before line) (list_all is_line_before before) h in
    let of_line = and_parts (not (list_any (λ b. b == 10) line)) (not (begins_bounds line)) parts.0 in
    ap (after_text g Before n) (append_assoc (line ++ 10 ∷ []) (ended before) behind ∙ append_assoc line (10 ∷ []) (ended before ++ behind))
    ∙ after_text-line g Before n line (ended before ++ behind) (not-true (list_any (λ b. b == 10) line) of_line.0)
    ∙ ap (λ z. after_text g z (n + 1) (ended before ++ behind)) (line_before g n line (not-true (begins_bounds line) of_line.1))
    ∙ lines_skipped g (n + 1) before behind end parts.1 rest

pub written_is_read : (g : Parts) (t : Table) (before : List (List ℕ)) → IsSoundParts g → IsTableOf g t → list_all is_line_before before ≡ true → report_reading g (ended before ++ bounds_text g t) ≡ IsRead t
written_is_read g t before sound h lines = lines_skipped g 1 before (bounds_text g t) (IsRead t) lines (λ m. bounds_taken g m t sound h)
