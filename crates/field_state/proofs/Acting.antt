-- The field after an event is that of the events with it.
use Rattle.std.proofs.Common.{◌≡◌, ℕ, ◌+◌, ◌-◌, ◌<◌, ◌≤◌, Bool, true, false, refl, ap, ◌∙◌, sym, subst, ⊎_elim, arith, List, ◌∷◌, length}
use Rattle.std.specs.Prelude.{nat_lt, slice_index_or, Option, Some, None}
use Rattle.std.proofs.Math.Path.{fun_ext}
use Rattle.std.proofs.lemmas.List.{get_or_past}
use Rattle.std.proofs.lemmas.Bool.{cases_lt}
use Rattle.grid_model.specs.Parts.{Parts}
use Rattle.grid_model.specs.Places.{setting_of, node_of}
use Rattle.grid_model.specs.Network.{network_in}
use Rattle.grid_model.specs.Problem as problem
use Rattle.grid_model.specs.declared.parts.Setting.TheVariants.{OkHold}
use Rattle.grid_model.specs.declared.history.Event.{Event}
use Rattle.grid_model.specs.declared.history.What.{What}
use Rattle.grid_model.specs.declared.history.What.TheVariants.{Call, Gasp, PingDown, PingUp, Powerup, Confirm, Restore, Order, Clock}
use Rattle.due_queue.specs.Due.{IsNothingDue}
use Rattle.history_rules.specs.State.{is_closed, closed_by, mark_at, is_below}
use Rattle.history_rules.specs.Evidence.{brings_back}
use Rattle.history_rules.specs.Posed.{IsOfGrid, refusal_of}
use Rattle.history_rules.specs.Slots.{slots_after, slots_of, end_after, due_in}
use Rattle.evidence.specs.Kept.{kept_of}
use Rattle.field_state.specs.Fielded.{Fielded, mark_due}
use Rattle.field_state.specs.FieldKept.{IsMarkKept, IsFieldKept, IsFieldAt}
use Rattle.field_state.specs.Acted.{is_brought, IsReady, IsDone}
use Rattle.field_state.proofs.Naming.{is_named, mark_stays, mark_is_set, end_stays, end_is_set}
use Rattle.field_state.proofs.Telling.{kept_slots, kept_or_now}
use Rattle.field_state.proofs.Tallied.{tallied_of}
use Rattle.field_state.proofs.Later.{IsLater, none_is_later, end_is_later, end_by_is_later, due_is_later}

-- what holds of the field where nothing is due
pub ready_at : (g : Parts) (h : List Event) (t : ℕ) (f : Fielded) → IsFieldAt g h t f → IsReady g t f
ready_at g h t f at =
    let k = at.kept in
    record { sound = k.sound; costed = k.costed; tallied = tallied_of g h t f k; forest = k.forest; marks_each = k.marks_each }

-- a mark that the event sets is of its time, and another one is as it was
module _ (g : Parts) (h : List Event) (e : Event) (old new : Fielded) (done : IsDone g e old new) (d : ℕ) (ld : d < length g.devices)
    (before : IsMarkKept g h e.time.0 old d) where
  holds_at : ℕ → Bool
  holds_at t = nat_lt t (e.time.0 + setting_of g OkHold)

  ends_at : ℕ → Option ℕ
  ends_at t = end_after t (e.time.0 + setting_of g OkHold)

  set_mark : is_named e.what d ≡ true → IsMarkKept g (e ∷ h) e.time.0 new d
  unfolding holds_at ends_at
  set_mark n = record {
    at = e.time.0;
    earlier = omega arith;
    mark = done.marks d ld ∙ mark_is_set e.what (holds_at e.time.0) d (problem.mark_at old.marks d) (mark_at g e.time.0 h d) n;
    due = done.due_devices d ld ∙ end_is_set e.what (ends_at e.time.0) d (slice_index_or old.due (length g.meters + d) None) (mark_due g e.time.0 h d) n;
  }

  kept_mark : is_named e.what d ≡ false → IsMarkKept g (e ∷ h) e.time.0 new d
  unfolding holds_at ends_at
  kept_mark n = record {
    at = before.at;
    earlier = before.earlier;
    mark =
        done.marks d ld ∙ mark_stays e.what (holds_at e.time.0) d (problem.mark_at old.marks d) n ∙ before.mark
        ∙ sym (mark_stays e.what (holds_at before.at) d (mark_at g before.at h d) n);
    due =
        done.due_devices d ld ∙ end_stays e.what (ends_at e.time.0) d (slice_index_or old.due (length g.meters + d) None) n ∙ before.due
        ∙ sym (end_stays e.what (ends_at before.at) d (mark_due g before.at h d) n);
  }

  mark_again : (b : Bool) → is_named e.what d ≡ b → IsMarkKept g (e ∷ h) e.time.0 new d
  mark_again true n = set_mark n
  mark_again false n = kept_mark n

  pub marks_again : IsMarkKept g (e ∷ h) e.time.0 new d
  marks_again = mark_again (is_named e.what d) refl

  -- the mark is due after the event
  later_if : (b : Bool) → is_named e.what d ≡ b → IsLater e.time.0 (slice_index_or old.due (length g.meters + d) None) →
      IsLater e.time.0 (slice_index_or new.due (length g.meters + d) None)
  unfolding holds_at ends_at
  later_if false n rest = subst (IsLater e.time.0) (sym (done.due_devices d ld ∙ end_stays e.what (ends_at e.time.0) d (slice_index_or old.due (length g.meters + d) None) n)) rest
  later_if true n rest =
      subst (IsLater e.time.0) (sym (done.due_devices d ld ∙ end_is_set e.what (ends_at e.time.0) d (slice_index_or old.due (length g.meters + d) None) None n))
      (end_by_is_later e.what e.time.0 (ends_at e.time.0) d (end_is_later e.time.0 (e.time.0 + setting_of g OkHold)))

  pub device_is_later : IsLater e.time.0 (slice_index_or old.due (length g.meters + d) None) → IsLater e.time.0 (slice_index_or new.due (length g.meters + d) None)
  device_is_later = later_if (is_named e.what d) refl

-- whether an event brings a meter back, by the states of the devices
pub same_brought : (g : Parts) (h : List Event) (closed : List Bool) (m : ℕ) (w : What) → ((d : ℕ) → slice_index_or closed d false ≡ is_closed g h d) →
    is_brought g closed m w ≡ brings_back g m w h
same_brought g h closed m (Restore x) same = ap (λ states. is_below (network_in g states) x.0 (node_of g m)) (fun_ext same)
same_brought g h closed m (Call x) same = refl
same_brought g h closed m (Gasp x) same = refl
same_brought g h closed m (PingDown x) same = refl
same_brought g h closed m (PingUp x) same = refl
same_brought g h closed m (Powerup x) same = refl
same_brought g h closed m (Confirm x c) same = refl
same_brought g h closed m (Order x w) same = refl
same_brought g h closed m Clock same = refl

module _ (g : Parts) (h : List Event) (e : Event) (old new : Fielded) (at : IsFieldAt g h e.time.0 old) (done : IsDone g e old new) where
  brought : ℕ → Bool
  brought m = is_brought g old.forest.closed m e.what

  -- nothing was due
  resting : (key : ℕ) → IsLater e.time.0 (slice_index_or old.due key None)
  resting key end q = due_or (at.at_rest key) where
    due_or : ((u : ℕ) × (slice_index_or old.due key None ≡ Some u) × (u ≤ e.time.0) → ⊥) → e.time.0 < end
    due_or none = ⊎_elim (λ lt. lt) (λ le. absurd (none (end, q, le))) (cases_lt e.time.0 end)

  meter_is_later : (m : ℕ) → m < length g.meters → IsLater e.time.0 (slice_index_or new.due m None)
  unfolding brought
  meter_is_later m lm =
      ⊎_elim
      (λ same. subst (IsLater e.time.0)
      (at.kept.due_meters m lm ∙ ap (λ k. due_in g m k.at k.slots) (sym (done.kept m lm ∙ same)) ∙ sym (done.tallied.due_meters m lm))
      (resting m))
      (λ now_at. subst (IsLater e.time.0)
      (ap (λ t. due_in g m t (kept_of new.evidence m).slots) (sym (ap (λ k. k.at) (done.kept m lm) ∙ now_at)) ∙ sym (done.tallied.due_meters m lm))
      (due_is_later g m e.time.0 (kept_of new.evidence m).slots))
      (kept_or_now m e (brought m) (kept_of old.evidence m))

  key_is_later : (key : ℕ) → IsLater e.time.0 (slice_index_or new.due key None)
  key_is_later key = ⊎_elim (meter_is_later key) behind (cases_lt key (length g.meters)) where
    device_by : (d : ℕ) → key ≡ length g.meters + d → IsLater e.time.0 (slice_index_or new.due key None)
    device_by d q =
        ⊎_elim
        (λ ld. subst (λ k. IsLater e.time.0 (slice_index_or new.due k None)) (sym q)
        (device_is_later g h e old new done d ld (at.kept.marks d ld) (resting (length g.meters + d))))
        (λ past. subst (IsLater e.time.0) (sym (get_or_past new.due key None (omega (arith, done.tallied.due_each)))) (none_is_later e.time.0))
        (cases_lt d (length g.devices))

    behind : length g.meters ≤ key → IsLater e.time.0 (slice_index_or new.due key None)
    behind le = device_by (key - length g.meters) (omega arith)

  rests : IsNothingDue new.due e.time.0
  rests key (u, q, le) = let lt : e.time.0 < u = key_is_later key u q in omega arith

  slots_again : (m : ℕ) → m < length g.meters → (kept_of new.evidence m).slots ≡ slots_of g m (e ∷ h)
  unfolding brought
  slots_again m lm =
      ap (λ k. k.slots) (done.kept m lm)
      ∙ kept_slots m e (brought m) (kept_of old.evidence m)
      ∙ ap (λ b. slots_after m e b (kept_of old.evidence m).slots) (same_brought g h old.forest.closed m e.what at.kept.closed)
      ∙ ap (slots_after m e (brings_back g m e.what h)) (at.kept.slots m lm)

  earlier_again : (m : ℕ) → m < length g.meters → (kept_of new.evidence m).at ≤ e.time.0
  unfolding brought
  earlier_again m lm =
      subst (λ k. k.at ≤ e.time.0) (sym (done.kept m lm))
      (⊎_elim
      (λ same. subst (λ k. k.at ≤ e.time.0) (sym same) (at.kept.earlier m lm))
      (λ now_at. subst (λ t. t ≤ e.time.0) (sym now_at) (omega arith))
      (kept_or_now m e (brought m) (kept_of old.evidence m)))

  kept_again : IsOfGrid g e.what → refusal_of g h e ≡ None → IsFieldKept g (e ∷ h) e.time.0 new
  kept_again of_grid none = record {
    sound = at.kept.sound;
    history = (of_grid, none, at.kept.history);
    later = omega arith;
    costed = done.costed;
    forest = done.forest;
    closed = λ d. done.closed d ∙ ap (closed_by e.what d) (at.kept.closed d);
    marks_each = done.marks_each ∙ at.kept.marks_each;
    marks = λ d ld. marks_again g h e old new done d ld (at.kept.marks d ld);
    evidence = done.tallied.evidence;
    slots = slots_again;
    earlier = earlier_again;
    dark_each = done.tallied.weighed.dark_each;
    dark = done.tallied.weighed.dark_sums;
    live_each = done.tallied.weighed.live_each;
    live = done.tallied.weighed.live_sums;
    due_each = done.tallied.due_each;
    due_meters = done.tallied.due_meters;
  }

  pub at_after : IsOfGrid g e.what → refusal_of g h e ≡ None → IsFieldAt g (e ∷ h) e.time.0 new
  at_after of_grid none = record { kept = kept_again of_grid none; at_rest = rests }
