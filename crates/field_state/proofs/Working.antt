-- What is spent on an event is at most the work of its repairs.
use Rattle.std.proofs.Common.{◌≡◌, ℕ, zero, suc, ◌+◌, ◌*◌, ◌-◌, ◌<◌, ◌≤◌, Bool, true, false, nat_lt, refl, sym, ap, ◌∙◌, arith, List, ◌∷◌, length, get_or, Option, Some, None}
use Rattle.std.specs.Prelude.{◌==◌, ◌&&◌, not, if◌then◌else◌}
use Rattle.std.proofs.lemmas.Bool.{lt-ltb, le-ltb, leb-true, false≢true}
use Rattle.outage_rules.specs.Sum.{total}
use Rattle.grid_model.specs.Parts.{Parts}
use Rattle.grid_model.specs.declared.history.Event.{Event}
use Rattle.grid_model.specs.declared.history.Mark.TheVariants as mark
use Rattle.grid_model.specs.declared.history.Stamp.{Stamp}
use Rattle.grid_model.specs.declared.history.What.{What}
use Rattle.grid_model.specs.declared.history.What.TheVariants.{Call, Gasp, PingDown, PingUp, Powerup, Confirm, Restore, Order, Clock}
use Rattle.history_rules.specs.State.{now, mark_of, is_closed}
use Rattle.history_rules.specs.Evidence.{dark_weight, live_weight, brings_back}
use Rattle.history_rules.specs.Slots.{Slots, slots_of, slots_after, slots_restored, due_in, dark_in, live_in, IsTimely}
use Rattle.history_rules.specs.Laws.{EvidenceIsKept, WeightsStayUntilDue, HistoryIsTimely}
use Rattle.evidence.specs.Kept.{kept_of, pull_by}
use Rattle.field_state.specs.Fielded.{Fielded, IsFieldAfter}
use Rattle.field_state.specs.FieldKept.{IsFieldAt}
use Rattle.field_state.specs.Weighed.{has_come}
use Rattle.field_state.specs.Acted.{is_brought}
use Rattle.field_state.specs.Repairs.{AreCosts, dues_cost, repair_if, pulls_differ, weighs_otherwise, is_marked_otherwise, weights_length, marks_length, meter_length, device_length, clock_of, restored_cost, restores_cost, same_mark}
use Rattle.field_state.proofs.Acting.{same_brought}
use Rattle.field_state.proofs.Costing.{total_most, total_times}
use Rattle.field_state.proofs.Totals.{total_same}
use Rattle.field_state.proofs.Expired.{expired}
use Rattle.field_state.proofs.Resting.{not_due, none_or_later}
use Rattle.field_state.proofs.Telling.{untold_stay}

-- a sum in two parts
total_parts : (a b : ℕ) (f : ℕ → ℕ) → total (a + b) f ≡ total a f + total b (λ k. f (a + k))
total_parts a zero f = ap (λ n. total n f) (let e : a + 0 ≡ a = omega arith in e) ∙ (let e : total a f ≡ total a f + 0 = omega arith in e)
total_parts a (suc b) f =
    let rest = total_parts a b f in
    ap (λ n. total n f) (let e : a + suc b ≡ suc (a + b) = omega arith in e) ∙ omega (arith, rest)

repair_is : (b : Bool) (l : ℕ) → repair_if b l ≡ 6 * (if b then l else 0)
repair_is true l = refl
repair_is false l = refl

-- repairs of some numbers
repairs_are : (n : ℕ) (test : ℕ → Bool) (len : ℕ → ℕ) → total n (λ k. repair_if (test k) (len k)) ≡ 6 * total n (λ k. if test k then len k else 0)
repairs_are n test len =
    total_same n (λ k. repair_if (test k) (len k)) (λ k. 6 * (if test k then len k else 0)) (λ k l. repair_is (test k) (len k))
    ∙ total_times n 6 (λ k. if test k then len k else 0)

-- what a key costs, as time alone passes up to that of an event
abbrev pub key_cost : Parts → List Event → Event → (ℕ → ℕ) → ℕ → ℕ
key_cost g h e reach key =
    if nat_lt key (length g.meters) then repair_if (weighs_otherwise g h (clock_of e ∷ h) key) (meter_length g reach key)
    else repair_if (is_marked_otherwise g h (clock_of e ∷ h) (key - length g.meters)) (device_length g reach (key - length g.meters))

module _ (g : Parts) (h : List Event) (e : Event) (reach : ℕ → ℕ) where
  meter_key : (m : ℕ) → m < length g.meters → key_cost g h e reach m ≡ repair_if (weighs_otherwise g h (clock_of e ∷ h) m) (meter_length g reach m)
  meter_key m l =
      ap (λ b. if b then repair_if (weighs_otherwise g h (clock_of e ∷ h) m) (meter_length g reach m)
      else repair_if (is_marked_otherwise g h (clock_of e ∷ h) (m - length g.meters)) (device_length g reach (m - length g.meters))) (lt-ltb m (length g.meters) l)

  device_key : (d : ℕ) → key_cost g h e reach (length g.meters + d) ≡ repair_if (is_marked_otherwise g h (clock_of e ∷ h) d) (device_length g reach d)
  device_key d =
      ap (λ b. if b then repair_if (weighs_otherwise g h (clock_of e ∷ h) (length g.meters + d)) (meter_length g reach (length g.meters + d))
      else repair_if (is_marked_otherwise g h (clock_of e ∷ h) ((length g.meters + d) - length g.meters)) (device_length g reach ((length g.meters + d) - length g.meters)))
      (le-ltb (length g.meters + d) (length g.meters) (omega arith))
      ∙ ap (λ k. repair_if (is_marked_otherwise g h (clock_of e ∷ h) k) (device_length g reach k)) (let q : (length g.meters + d) - length g.meters ≡ d = omega arith in q)

  some_most : (b : Bool) (c : ℕ) → (if b then c else 0) ≤ c
  some_most true c = omega arith
  some_most false c = omega arith

  -- all keys together
  pub dues_most : (due : List (Option ℕ)) → length due ≡ length g.meters + length g.devices
      → dues_cost e.time.0 (key_cost g h e reach) due ≤ 6 * (weights_length g h (clock_of e ∷ h) reach + marks_length g h (clock_of e ∷ h) reach)
  dues_most due each =
      let most = total_most (length due) (λ key. if has_come e.time.0 (get_or due key None) then key_cost g h e reach key else 0) (key_cost g h e reach)
      (λ k l. some_most (has_come e.time.0 (get_or due k None)) (key_cost g h e reach k)) in
      let all = ap (λ n. total n (key_cost g h e reach)) each ∙ total_parts (length g.meters) (length g.devices) (key_cost g h e reach) in
      let meters = total_same (length g.meters) (key_cost g h e reach) (λ m. repair_if (weighs_otherwise g h (clock_of e ∷ h) m) (meter_length g reach m)) meter_key
      ∙ repairs_are (length g.meters) (weighs_otherwise g h (clock_of e ∷ h)) (meter_length g reach) in
      let devices = total_same (length g.devices) (λ d. key_cost g h e reach (length g.meters + d)) (λ d. repair_if (is_marked_otherwise g h (clock_of e ∷ h) d) (device_length g reach d)) (λ d l. device_key d)
      ∙ repairs_are (length g.devices) (is_marked_otherwise g h (clock_of e ∷ h)) (device_length g reach) in
      omega arith

-- the clock alone
clock_slots : (g : Parts) (h : List Event) (e : Event) (m : ℕ) → slots_of g m (clock_of e ∷ h) ≡ slots_of g m h
clock_slots g h e m = untold_stay m (clock_of e) false (slots_of g m h) refl

module _ (evidence : EvidenceIsKept) (g : Parts) (h : List Event) (e : Event) (timely : IsTimely h) (later : now h ≤ e.time.0) (m : ℕ) where
  dark_then : dark_weight g (clock_of e ∷ h) m ≡ dark_in g m e.time.0 (slots_of g m h)
  dark_then = (evidence g m (clock_of e ∷ h) (later, timely)).dark ∙ ap (dark_in g m e.time.0) (clock_slots g h e m)

  live_then : live_weight g (clock_of e ∷ h) m ≡ live_in g m e.time.0 (slots_of g m h)
  live_then = (evidence g m (clock_of e ∷ h) (later, timely)).live ∙ ap (live_in g m e.time.0) (clock_slots g h e m)

  dark_after : dark_weight g (e ∷ h) m ≡ dark_in g m e.time.0 (slots_of g m (e ∷ h))
  dark_after = (evidence g m (e ∷ h) (later, timely)).dark

  live_after : live_weight g (e ∷ h) m ≡ live_in g m e.time.0 (slots_of g m (e ∷ h))
  live_after = (evidence g m (e ∷ h) (later, timely)).live

-- two pairs of weights differ as two others do
same_differ : (a b c d a' b' c' d' : ℕ) → a ≡ a' → b ≡ b' → c ≡ c' → d ≡ d' → not ((a == b) && (c == d)) ≡ not ((a' == b') && (c' == d'))
same_differ a b c d a' b' c' d' p q r s =
    ap (λ x. not ((x == b) && (c == d))) p ∙ ap (λ x. not ((a' == x) && (c == d))) q ∙ ap (λ x. not ((a' == b') && (x == d))) r ∙ ap (λ x. not ((a' == b') && (c' == x))) s

-- at an event's time, a field costs no more by its keys than what time alone changes
module _ (evidence : EvidenceIsKept) (timely : HistoryIsTimely) (g : Parts) (h : List Event) (e : Event) (reach : ℕ → ℕ) (f : Fielded) (field : IsFieldAfter g h f) (later : now h ≤ e.time.0) where
  meter_cost : (m : ℕ) → m < length g.meters → repair_if (pulls_differ (pull_by g m (kept_of f.evidence m)) (pull_by g m (record { slots = (kept_of f.evidence m).slots; at = e.time.0 }))) (meter_length g reach m) ≡ key_cost g h e reach m
  meter_cost m l =
      let k = kept_of f.evidence m in
      let told = timely g h field.history in
      ap (λ b. repair_if b (meter_length g reach m))
      (same_differ (pull_by g m k).dark (dark_in g m e.time.0 k.slots) (pull_by g m k).live (live_in g m e.time.0 k.slots)
      (dark_weight g h m) (dark_weight g (clock_of e ∷ h) m) (live_weight g h m) (live_weight g (clock_of e ∷ h) m)
      (ap (λ p. p.dark) (field.pulls m l)) (ap (dark_in g m e.time.0) (field.slots m l) ∙ sym (dark_then evidence g h e told later m))
      (ap (λ p. p.live) (field.pulls m l)) (ap (live_in g m e.time.0) (field.slots m l) ∙ sym (live_then evidence g h e told later m)))
      ∙ sym (meter_key g h e reach m l)

  device_cost : (d : ℕ) → d < length g.devices → has_come e.time.0 (get_or f.due (length g.meters + d) None) ≡ true
      → repair_if (not (same_mark (get_or f.marks d mark.Nothing) mark.Nothing)) (device_length g reach d) ≡ key_cost g h e reach (length g.meters + d)
  device_cost d l come =
      let ended = come_end (get_or f.due (length g.meters + d) None) refl come in
      let over = expired g h d (now h) e.time.0 ended.0 ended.2 (sym (field.due_devices d l) ∙ ended.1) in
      ap (λ x. repair_if (not (same_mark x mark.Nothing)) (device_length g reach d)) (field.marks d)
      ∙ ap (λ x. repair_if (not (same_mark (mark_of g h d) x)) (device_length g reach d)) (sym over.0)
      ∙ sym (device_key g h e reach d)
    where
      come_end : (o : Option ℕ) → get_or f.due (length g.meters + d) None ≡ o → has_come e.time.0 o ≡ true → (end : ℕ) × (get_or f.due (length g.meters + d) None ≡ Some end) × (end ≤ e.time.0)
      come_end None q c = absurd (false≢true c)
      come_end (Some end) q c = (end, q, leb-true end e.time.0 c)

  pub keys_cost : AreCosts g e.time.0 reach (key_cost g h e reach) f
  keys_cost = record {
    meters = λ m l come. let c = meter_cost m l in omega arith;
    devices = λ d l come. let c = device_cost d l come in omega arith;
  }

-- the slots of a meter that an event brings back
restored_slots : (g : Parts) (h : List Event) (closed : List Bool) (m : ℕ) (w : What) (t : Stamp) (s : Slots) → ((d : ℕ) → get_or closed d false ≡ is_closed g h d)
    → is_brought g closed m w ≡ true → slots_after m (record { time = t; what = w }) (brings_back g m w h) s ≡ slots_restored t.0 s
restored_slots g h closed m (Restore x) t s same brought =
    ap (λ b. slots_after m (record { time = t; what = Restore x }) b s) (sym (same_brought g h closed m (Restore x) same) ∙ brought)
restored_slots g h closed m (Call x) t s same brought = absurd (false≢true brought)
restored_slots g h closed m (Gasp x) t s same brought = absurd (false≢true brought)
restored_slots g h closed m (PingDown x) t s same brought = absurd (false≢true brought)
restored_slots g h closed m (PingUp x) t s same brought = absurd (false≢true brought)
restored_slots g h closed m (Powerup x) t s same brought = absurd (false≢true brought)
restored_slots g h closed m (Confirm x c) t s same brought = absurd (false≢true brought)
restored_slots g h closed m (Order x w) t s same brought = absurd (false≢true brought)
restored_slots g h closed m Clock t s same brought = absurd (false≢true brought)

-- and what it brings back costs no more than what the event changes
module _ (evidence : EvidenceIsKept) (stay : WeightsStayUntilDue) (timely : HistoryIsTimely) (g : Parts) (h : List Event) (e : Event) (reach : ℕ → ℕ) (f : Fielded)
    (at : IsFieldAt g h e.time.0 f) (later : now h ≤ e.time.0) where
  brought_cost : (m : ℕ) → m < length g.meters → is_brought g f.forest.closed m e.what ≡ true
      → restored_cost g e.time.0 reach f.evidence m ≡ repair_if (weighs_otherwise g (clock_of e ∷ h) (e ∷ h) m) (meter_length g reach m)
  brought_cost m l brought =
      let k = kept_of f.evidence m in
      let t = e.time.0 in
      let told = timely g h at.kept.history in
      let slots = at.kept.slots m l in
      let after = restored_slots g h f.forest.closed m e.what e.time (slots_of g m h) at.kept.closed brought in
      let rest = not_due f.due t m (due_in g m k.at k.slots) at.at_rest (at.kept.due_meters m l) in
      let same = stay g m k.slots k.at t (at.kept.earlier m l) (none_or_later t (due_in g m k.at k.slots) rest) in
      ap (λ b. repair_if b (meter_length g reach m))
      (same_differ (dark_in g m k.at k.slots) (dark_in g m t (slots_restored t k.slots)) (live_in g m k.at k.slots) (live_in g m t (slots_restored t k.slots))
      (dark_weight g (clock_of e ∷ h) m) (dark_weight g (e ∷ h) m) (live_weight g (clock_of e ∷ h) m) (live_weight g (e ∷ h) m)
      (same.dark ∙ ap (dark_in g m t) slots ∙ sym (dark_then evidence g h e told later m))
      (ap (λ s. dark_in g m t (slots_restored t s)) slots ∙ ap (dark_in g m t) (sym after) ∙ sym (dark_after evidence g h e told later m))
      (same.live ∙ ap (live_in g m t) slots ∙ sym (live_then evidence g h e told later m))
      (ap (λ s. live_in g m t (slots_restored t s)) slots ∙ ap (live_in g m t) (sym after) ∙ sym (live_after evidence g h e told later m)))

  brought_most : (m : ℕ) → m < length g.meters → (b : Bool) → is_brought g f.forest.closed m e.what ≡ b
      → (if b then restored_cost g e.time.0 reach f.evidence m else 0) ≤ repair_if (weighs_otherwise g (clock_of e ∷ h) (e ∷ h) m) (meter_length g reach m)
  brought_most m l true brought = let c = brought_cost m l brought in omega arith
  brought_most m l false brought = omega arith

  pub restores_most : restores_cost g e.time.0 reach f.evidence (λ k. is_brought g f.forest.closed k e.what) ≤ 6 * weights_length g (clock_of e ∷ h) (e ∷ h) reach
  restores_most =
      let most = total_most (length g.meters) (λ k. if is_brought g f.forest.closed k e.what then restored_cost g e.time.0 reach f.evidence k else 0)
      (λ k. repair_if (weighs_otherwise g (clock_of e ∷ h) (e ∷ h) k) (meter_length g reach k)) (λ k l. brought_most k l (is_brought g f.forest.closed k e.what) refl) in
      let all = repairs_are (length g.meters) (weighs_otherwise g (clock_of e ∷ h) (e ∷ h)) (meter_length g reach) in
      omega arith
