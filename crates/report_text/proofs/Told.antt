-- What an engine tells is what the report of its events says.
use Rattle.std.proofs.Common.{◌≡◌, ℕ, ◌+◌, ◌*◌, ◌<◌, ◌≤◌, Bool, refl, sym, ap, ◌∙◌, subst, arith, List, [], ◌∷◌, ◌++◌, length, append_assoc}
use Rattle.std.proofs.lemmas.Bool.{cond-false, ne_eqb}
use Rattle.std.proofs.lemmas.Nat.{mul-le}
use Rattle.std.specs.Prelude.{All, flat_map, codes, decimal, ◌==◌}
use Rattle.std.specs.List.{range_with_len}
use Rattle.grid_model.specs.Parts.{Parts}
use Rattle.grid_model.specs.declared.history.Event.{Event}
use Rattle.grid_model.specs.declared.history.Line.{Line}
use Rattle.grid_model.specs.declared.history.Outage.{Outage}
use Rattle.grid_model.specs.declared.history.Period.{Period}
use Rattle.grid_model.specs.declared.history.Stamp.{Stamp}
use Rattle.event_rules.specs.Rows.{row}
use Rattle.evidence.specs.declared.Pull.{Pull}
use Rattle.history_rules.specs.State.{now}
use Rattle.history_rules.specs.Posed.{diagnosis_after}
use Rattle.diagnosis.specs.Judgement.{Judgement, opened_by}
use Rattle.history_rules.specs.Laws.{HistoryIsTimely}
use Rattle.history_rules.specs.Outages.{outages_after}
use Rattle.history_rules.specs.StampTexts.{last_second}
use Rattle.history_rules.specs.Ledger.{is_judged_dark, kept_lines, lines_of, ledger_after, IsLineBy, IsLedgerOf, LedgerIsTimely}
use Rattle.history_rules.specs.Crew.{crew_order, CanBeOrdered, OutagesCanBeOrdered}
use Rattle.history_rules.specs.Indices.{whole_period}
use Rattle.history_rules.specs.Report.{now_word, second_word, outage_row, crew_rows, unexplained_row, line_row, index_rows, first_rows_after, report_text, summary_text}
use Rattle.interruption_ledger.specs.Ledgered.{Ledgered, interrupted_at, lines_kept}
use Rattle.interruption_ledger.specs.Laws.{LedgerIsKept}
use Rattle.field_state.specs.Fielded.{Fielded, IsFieldAfter, pull_after}
use Rattle.outage_engine.specs.Engined.{Engined, IsEngineAfter}
use Rattle.report_text.specs.Rows.{IsOutageOf, IsLineOf, most_applied, last_word, first_rows, contradicted}
use Rattle.report_text.proofs.Ranges.{flat_map_more, flat_map_same}
use Rattle.report_text.proofs.Times.{AreBy, are_by}
use Rattle.report_text.proofs.OfNetwork.{outages_are, lines_are}

-- a list of the outages after the events of a field that is judged
abbrev pub AreOutages : Parts → Fielded → Judgement → List Outage → Type 0
AreOutages g f j listed = (h : List Event) → IsFieldAfter g h f → opened_by j ≡ diagnosis_after g h → listed ≡ outages_after g h (diagnosis_after g h)

-- the judgement has a flag for each device
pub opened_each : (h : List Event) (e : Engined) → IsEngineAfter h e → length e.judged.opened ≡ length e.grid.devices
opened_each h e after = after.judged.sized.opened

-- what is added, by another name
pub added_is : (old new x y : List ℕ) → x ≡ y → new ≡ old ++ x → new ≡ old ++ y
added_is old new x y same adds = adds ∙ ap (λ t. old ++ t) same

-- what contradicts the judgement of a meter after events
row_told : (g : Parts) (h : List Event) (m : ℕ) (is_dark : Bool) (pull : Pull) → is_dark ≡ is_judged_dark g m h → pull ≡ pull_after g h m → contradicted g m is_dark pull ≡ unexplained_row g h m
unfolding unexplained_row
row_told g h m is_dark pull dark_is pull_is = ap (λ b. contradicted g m b pull) dark_is ∙ ap (contradicted g m (is_judged_dark g m h)) pull_is

module _ (h : List Event) (e : Engined) (after : IsEngineAfter h e) where
  -- no event is later than the last second
  pub events_by : HistoryIsTimely → AreBy last_second h
  events_by timely = are_by last_second h (timely e.grid h after.field.history) after.range.last

  -- the ledger has a meter's flag
  pub judged_dark : LedgerIsKept → (m : ℕ) → m < length e.grid.meters → (interrupted_at e.ledger m).dark ≡ is_judged_dark e.grid m h
  judged_dark kept m l = ap (λ k. k.dark) (after.ledger m l) ∙ (kept m (is_judged_dark e.grid m) h).is_dark

  -- and its lines
  pub lines_told : LedgerIsKept → lines_kept e.ledger ≡ ledger_after e.grid h
  unfolding ledger_after
  lines_told kept =
      ap (λ n. flat_map (λ m. kept_lines m (interrupted_at e.ledger m)) (range_with_len 0 n)) after.ledger_each
      ∙ flat_map_same (λ m. kept_lines m (interrupted_at e.ledger m)) (lines_of e.grid h) 0 (length e.grid.meters)
      (λ m l k. ap (kept_lines m) (after.ledger m (omega arith)) ∙ (kept m (is_judged_dark e.grid m) h).lines)

  pub lines_of_grid : (g : Parts) (lines : List Line) → HistoryIsTimely → LedgerIsKept → g ≡ e.grid → lines ≡ lines_kept e.ledger → All (IsLineOf g) lines
  lines_of_grid g lines timely kept same is =
      subst (λ x. All (IsLineOf x) lines) (sym same) (subst (All (IsLineOf e.grid)) (sym (is ∙ lines_told kept)) (lines_are e.grid h (events_by timely)))

  pub outages_told : (g : Parts) (f : Fielded) (j : Judgement) (listed : List Outage) → g ≡ e.grid → f ≡ e.field → j ≡ e.judged → AreOutages g f j listed
      → listed ≡ outages_after e.grid h (diagnosis_after e.grid h)
  outages_told g f j listed g_is f_is j_is told =
      subst (λ x. AreOutages e.grid e.field x listed) j_is (subst (λ x. AreOutages e.grid x j listed) f_is (subst (λ x. AreOutages x f j listed) g_is told))
      h after.field after.opened

  pub outages_of_grid : (g : Parts) (listed : List Outage) → HistoryIsTimely → g ≡ e.grid → listed ≡ outages_after e.grid h (diagnosis_after e.grid h) → All (IsOutageOf g) listed
  outages_of_grid g listed timely same is =
      subst (λ x. All (IsOutageOf x) listed) (sym same) (subst (All (IsOutageOf e.grid)) (sym is) (outages_are e.grid h (events_by timely) (diagnosis_after e.grid h)))

  pub row_added : (old new : List ℕ) (g : Parts) (f : Fielded) (l : Ledgered) (m : ℕ) (is_dark : Bool) (pull : Pull) → LedgerIsKept → m < length e.grid.meters
      → g ≡ e.grid → f ≡ e.field → l ≡ e.ledger → is_dark ≡ (interrupted_at l m).dark → ((g : Parts) (h : List Event) → IsFieldAfter g h f → pull ≡ pull_after g h m)
      → new ≡ old ++ contradicted g m is_dark pull → new ≡ old ++ unexplained_row e.grid h m
  row_added old new g f l m is_dark pull kept known g_is f_is l_is dark_is pull_is adds =
      adds
      ∙ ap (λ x. old ++ contradicted x m is_dark pull) g_is
      ∙ ap (λ x. old ++ x)
      (row_told e.grid h m is_dark pull (dark_is ∙ ap (λ x. (interrupted_at x m).dark) l_is ∙ judged_dark kept m known)
      (pull_is e.grid h (subst (IsFieldAfter e.grid h) (sym f_is) after.field)))

-- the rows of one meter more
pub meters_more : (g : Parts) (h : List Event) (m : ℕ) (old mid new : List ℕ) → mid ≡ old ++ flat_map (unexplained_row g h) (range_with_len 0 m) → new ≡ mid ++ unexplained_row g h m
    → new ≡ old ++ flat_map (unexplained_row g h) (range_with_len 0 (m + 1))
meters_more g h m old mid new before adds =
    adds
    ∙ ap (λ t. t ++ unexplained_row g h m) before
    ∙ append_assoc old (flat_map (unexplained_row g h) (range_with_len 0 m)) (unexplained_row g h m)
    ∙ ap (λ t. old ++ t) (sym (flat_map_more (unexplained_row g h) m))

-- the word of the last event
word_told : (h : List Event) (applied : ℕ) (t : Stamp) → applied ≡ length h → t.0 ≡ now h → last_word applied t ≡ now_word h
word_told h applied t count time = ap (λ n. last_word n t) count ∙ by h time
  where
    by : (h : List Event) → t.0 ≡ now h → last_word (length h) t ≡ now_word h
    by [] time = refl
    by (e ∷ h) time = cond-false (length (e ∷ h) == 0) (codes "none") (second_word t) (ne_eqb (length (e ∷ h)) 0 (λ is. absurd (omega arith))) ∙ ap (λ n. second_word (record { 0 = n })) time

module _ (h : List Event) (e : Engined) (after : IsEngineAfter h e) where
  -- the time of the last event has a text
  pub now_by : (f : Fielded) (t : Stamp) → f ≡ e.field → t.0 ≡ f.now → t.0 ≤ last_second
  now_by f t f_is time = let is : t.0 ≡ now h = time ∙ ap (λ x. x.now) f_is ∙ after.field.time in let range = after.range.last in omega arith

  -- the first rows
  pub head_told : (f : Fielded) (applied : ℕ) (t : Stamp) (refused total : ℕ) → f ≡ e.field → applied ≡ f.applied → t.0 ≡ f.now → total ≡ e.field.costs.total
      → first_rows applied t refused total ≡ first_rows_after e.grid refused h
  unfolding first_rows_after
  head_told f applied t refused total f_is count time cost =
      let count_is : applied ≡ length h = count ∙ ap (λ x. x.applied) f_is ∙ after.field.count in
      let time_is : t.0 ≡ now h = time ∙ ap (λ x. x.now) f_is ∙ after.field.time in
      ap (λ w. row (codes "report" ∷ w ∷ []) ++ row (codes "counts" ∷ decimal applied ∷ decimal refused ∷ []) ++ row (codes "total" ∷ decimal total ∷ [])) (word_told h applied t count_is time_is)
      ∙ ap (λ n. row (codes "report" ∷ now_word h ∷ []) ++ row (codes "counts" ∷ decimal n ∷ decimal refused ∷ []) ++ row (codes "total" ∷ decimal total ∷ [])) count_is
      ∙ ap (λ n. row (codes "report" ∷ now_word h ∷ []) ++ row (codes "counts" ∷ decimal (length h) ∷ decimal refused ∷ []) ++ row (codes "total" ∷ decimal n ∷ [])) (cost ∙ after.cost)

  ledger_is : LedgerIsTimely → IsLedgerOf e.grid h
  ledger_is timely = timely e.grid h after.field.sound after.field.history

  -- the lines are of the network and by now
  pub lines_by : (g : Parts) (f : Fielded) (t : Stamp) (lines : List Line) → LedgerIsTimely → LedgerIsKept → g ≡ e.grid → f ≡ e.field → t.0 ≡ f.now → lines ≡ lines_kept e.ledger
      → All (IsLineBy g t.0) lines
  lines_by g f t lines timely kept g_is f_is time is =
      let time_is : t.0 ≡ now h = time ∙ ap (λ x. x.now) f_is ∙ after.field.time in
      subst (λ x. All (IsLineBy x t.0) lines) (sym g_is)
      (subst (λ n. All (IsLineBy e.grid n) lines) (sym time_is)
      (subst (All (IsLineBy e.grid (now h))) (sym (is ∙ lines_told h e after kept)) (ledger_is timely).lines))

  -- and few enough to be counted
  pub lines_few : (lines : List Line) → LedgerIsTimely → LedgerIsKept → e.field.applied ≤ most_applied → lines ≡ lines_kept e.ledger → length lines ≤ 1000000000000
  lines_few lines timely kept few is =
      let count = after.field.count in
      let most : length e.grid.meters * length h ≤ 500000 * 2000000 = mul-le (length e.grid.meters) (length h) 500000 2000000 after.field.sound.few_meters (omega arith) in
      let here = (ledger_is timely).count in
      let same : length lines ≡ length (ledger_after e.grid h) = ap length (is ∙ lines_told h e after kept) in
      omega (arith, most, here, same)

  -- the rows of the indices
  pub indices_told : (g : Parts) (f : Fielded) (t : Stamp) (period : Period) (lines : List Line) → LedgerIsKept → g ≡ e.grid → f ≡ e.field → t.0 ≡ f.now → lines ≡ lines_kept e.ledger
      → index_rows g period t.0 lines ≡ index_rows e.grid period (now h) (ledger_after e.grid h)
  indices_told g f t period lines kept g_is f_is time is =
      ap (λ x. index_rows x period t.0 lines) g_is
      ∙ ap (λ n. index_rows e.grid period n lines) (time ∙ ap (λ x. x.now) f_is ∙ after.field.time)
      ∙ ap (index_rows e.grid period (now h)) (is ∙ lines_told h e after kept)

  -- the outages can be ordered
  pub outages_ordered : (listed : List Outage) → OutagesCanBeOrdered → listed ≡ outages_after e.grid h (diagnosis_after e.grid h) → CanBeOrdered listed
  outages_ordered listed can is = subst CanBeOrdered (sym is) (can e.grid h after.field.sound after.field.history)

  -- the rows of the outages, of their crews and of the lines
  pub outage_rows_told : (g : Parts) (listed : List Outage) → g ≡ e.grid → listed ≡ outages_after e.grid h (diagnosis_after e.grid h)
      → flat_map (outage_row g) listed ≡ flat_map (outage_row e.grid) (outages_after e.grid h (diagnosis_after e.grid h))
  outage_rows_told g listed g_is is = ap (λ x. flat_map (outage_row x) listed) g_is ∙ ap (flat_map (outage_row e.grid)) is

  pub crew_rows_told : (g : Parts) (listed : List Outage) → g ≡ e.grid → listed ≡ outages_after e.grid h (diagnosis_after e.grid h)
      → crew_rows g 1 (crew_order listed) ≡ crew_rows e.grid 1 (crew_order (outages_after e.grid h (diagnosis_after e.grid h)))
  crew_rows_told g listed g_is is = ap (λ x. crew_rows x 1 (crew_order listed)) g_is ∙ ap (λ x. crew_rows e.grid 1 (crew_order x)) is

  pub line_rows_told : (g : Parts) (lines : List Line) → LedgerIsKept → g ≡ e.grid → lines ≡ lines_kept e.ledger
      → flat_map (line_row g) lines ≡ flat_map (line_row e.grid) (ledger_after e.grid h)
  line_rows_told g lines kept g_is is = ap (λ x. flat_map (line_row x) lines) g_is ∙ ap (flat_map (line_row e.grid)) (is ∙ lines_told h e after kept)

  -- the parts of a report
  pub report_told : (period : Period) (refused : ℕ) (t0 t1 t2 t3 t4 t5 t6 t7 : List ℕ)
      → t0 ≡ [] → t1 ≡ t0 ++ first_rows_after e.grid refused h
      → t2 ≡ t1 ++ flat_map (outage_row e.grid) (outages_after e.grid h (diagnosis_after e.grid h))
      → t3 ≡ t2 ++ crew_rows e.grid 1 (crew_order (outages_after e.grid h (diagnosis_after e.grid h)))
      → t4 ≡ t3 ++ flat_map (unexplained_row e.grid h) (range_with_len 0 (length e.grid.meters))
      → t5 ≡ t4 ++ flat_map (line_row e.grid) (ledger_after e.grid h)
      → t6 ≡ t5 ++ index_rows e.grid period (now h) (ledger_after e.grid h)
      → t7 ≡ t6 ++ row (codes "end" ∷ []) → t7 ≡ report_text e.grid period refused h
  unfolding report_text
  report_told period refused t0 t1 t2 t3 t4 t5 t6 t7 e0 e1 e2 e3 e4 e5 e6 e7 =
      let outages = flat_map (outage_row e.grid) (outages_after e.grid h (diagnosis_after e.grid h)) in
      let crews = crew_rows e.grid 1 (crew_order (outages_after e.grid h (diagnosis_after e.grid h))) in
      let meters = flat_map (unexplained_row e.grid h) (range_with_len 0 (length e.grid.meters)) in
      let ledger = flat_map (line_row e.grid) (ledger_after e.grid h) in
      let indices = index_rows e.grid period (now h) (ledger_after e.grid h) in
      let last = row (codes "end" ∷ []) in
      e7
      ∙ ap (λ x. x ++ last) e6
      ∙ ap (λ x. (x ++ indices) ++ last) e5
      ∙ ap (λ x. ((x ++ ledger) ++ indices) ++ last) e4
      ∙ ap (λ x. (((x ++ meters) ++ ledger) ++ indices) ++ last) e3
      ∙ ap (λ x. ((((x ++ crews) ++ meters) ++ ledger) ++ indices) ++ last) e2
      ∙ ap (λ x. (((((x ++ outages) ++ crews) ++ meters) ++ ledger) ++ indices) ++ last) (e1 ∙ ap (λ x. x ++ first_rows_after e.grid refused h) e0)

  -- and of its summary
  pub summary_told : (refused : ℕ) (t0 t1 t2 t3 : List ℕ) → t0 ≡ [] → t1 ≡ t0 ++ first_rows_after e.grid refused h
      → t2 ≡ t1 ++ index_rows e.grid whole_period (now h) (ledger_after e.grid h)
      → t3 ≡ t2 ++ row (codes "end" ∷ []) → t3 ≡ summary_text e.grid refused h
  unfolding summary_text
  summary_told refused t0 t1 t2 t3 e0 e1 e2 e3 =
      let indices = index_rows e.grid whole_period (now h) (ledger_after e.grid h) in
      let last = row (codes "end" ∷ []) in
      e3
      ∙ ap (λ x. x ++ last) e2
      ∙ ap (λ x. (x ++ indices) ++ last) (e1 ∙ ap (λ x. x ++ first_rows_after e.grid refused h) e0)
