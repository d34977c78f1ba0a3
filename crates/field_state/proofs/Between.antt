-- Where nothing is due, a field that is kept up to date is that after the events, and the other way round.
use Rattle.std.proofs.Common.{◌≡◌, ℕ, ◌+◌, ◌<◌, List, length, refl, sym, ap, ◌∙◌, ⊎_elim, arith}
use Rattle.std.specs.Prelude.{◌==◌, Option, Some, None, option_map, if◌then◌else◌, slice_index_or}
use Rattle.std.proofs.lemmas.Bool.{cases_lt}
use Rattle.std.proofs.lemmas.List.{get_or_past}
use Rattle.grid_model.specs.Parts.{Parts}
use Rattle.grid_model.specs.Places.{node_of}
use Rattle.grid_model.specs.Problem as problem
use Rattle.grid_model.specs.declared.history.Event.{Event}
use Rattle.grid_model.specs.declared.history.Mark.TheVariants as mark
use Rattle.history_rules.specs.State.{now, mark_of}
use Rattle.history_rules.specs.Evidence.{dark_weight, live_weight}
use Rattle.history_rules.specs.Posed.{at_node}
use Rattle.history_rules.specs.Slots.{slots_of, due_in, dark_in, live_in, since_in, came_back_in}
use Rattle.history_rules.specs.Laws.{EvidenceIsKept, WeightsStayUntilDue, HistoryIsTimely}
use Rattle.evidence.specs.Kept.{kept_of, pull_by, stamp_at}
use Rattle.evidence.specs.declared.Pull.{Pull}
use Rattle.field_state.specs.Fielded.{Fielded, IsFieldAfter, mark_due, pull_after}
use Rattle.field_state.specs.FieldKept.{IsFieldKept, IsFieldAt, dark_kept, live_kept}
use Rattle.field_state.proofs.Totals.{total_same}
use Rattle.field_state.proofs.Resting.{not_due, none_or_later, due_stays, mark_stays, mark_beyond}
use Rattle.field_state.proofs.Reported.{since_stays, came_back_stays}

pub at_node_same : (g : Parts) (v w : ℕ → ℕ) (n : ℕ) → ((m : ℕ) → m < length g.meters → v m ≡ w m) → at_node g v n ≡ at_node g w n
at_node_same g v w n h =
    total_same (length g.meters) (λ m. if node_of g m == n then v m else 0) (λ m. if node_of g m == n then w m else 0)
    (λ m l. ap (λ x. if node_of g m == n then x else 0) (h m l))

abbrev pull_with : ℕ → ℕ → Option ℕ → Pull
pull_with dark live due = record { dark = dark; live = live; due = option_map stamp_at due }

same_pull : (a b c d : ℕ) (x y : Option ℕ) → a ≡ b → c ≡ d → x ≡ y → pull_with a c x ≡ pull_with b d y
same_pull a b c d x y e f p = ap (λ v. pull_with v c x) e ∙ (ap (λ v. pull_with b v x) f ∙ ap (λ v. pull_with b d v) p)

unstamped : (o : Option ℕ) → option_map (λ s. s.0) (option_map stamp_at o) ≡ o
unstamped None = refl
unstamped (Some t) = refl

same_due : (x y : Option ℕ) → option_map stamp_at x ≡ option_map stamp_at y → x ≡ y
same_due x y e = sym (unstamped x) ∙ (ap (λ o. option_map (λ s. s.0) o) e ∙ unstamped y)

module _ (g : Parts) (h : List Event) (f : Fielded) where
  mark_now : IsFieldAt g h (now h) f → (d : ℕ) → d < length g.devices →
      (problem.mark_at f.marks d ≡ mark_of g h d) × (slice_index_or f.due (length g.meters + d) None ≡ mark_due g (now h) h d)
  mark_now at d l =
      let kept = at.kept.marks d l in
      let stays = mark_stays g kept.at (now h) d kept.earlier h (not_due f.due (now h) (length g.meters + d) (mark_due g kept.at h d) at.at_rest kept.due) in
      (kept.mark ∙ stays.0, kept.due ∙ stays.1)

  mark_each : IsFieldAt g h (now h) f → (d : ℕ) → problem.mark_at f.marks d ≡ mark_of g h d
  mark_each at d =
      ⊎_elim
      (λ l. (mark_now at d l).0)
      (λ l. get_or_past f.marks d mark.Nothing (let e = at.kept.marks_each in omega arith) ∙ sym (mark_beyond g (now h) d l h at.kept.history))
      (cases_lt d (length g.devices))

  module _ (evidence : EvidenceIsKept) (stay : WeightsStayUntilDue) (timely : HistoryIsTimely) where
    -- what was kept of a meter's reports is due when it is now
    same_times : IsFieldAt g h (now h) f → (m : ℕ) → m < length g.meters → due_in g m (kept_of f.evidence m).at (kept_of f.evidence m).slots ≡ due_in g m (now h) (kept_of f.evidence m).slots
    same_times at m l =
        let k = kept_of f.evidence m in
        due_stays g m k.at (now h) k.slots (at.kept.earlier m l) (not_due f.due (now h) m (due_in g m k.at k.slots) at.at_rest (at.kept.due_meters m l))

    pull_now : IsFieldAt g h (now h) f → (m : ℕ) → m < length g.meters → pull_by g m (kept_of f.evidence m) ≡ pull_after g h m
    pull_now at m l =
        let k = kept_of f.evidence m in
        let after = not_due f.due (now h) m (due_in g m k.at k.slots) at.at_rest (at.kept.due_meters m l) in
        let same = stay g m k.slots k.at (now h) (at.kept.earlier m l) (none_or_later (now h) (due_in g m k.at k.slots) after) in
        let tell = evidence g m h (timely g h at.kept.history) in
        let slots = at.kept.slots m l in
        same_pull (dark_in g m k.at k.slots) (dark_weight g h m) (live_in g m k.at k.slots) (live_weight g h m) (due_in g m k.at k.slots) (due_in g m (now h) (slots_of g m h))
        (same.dark ∙ (ap (λ s. dark_in g m (now h) s) slots ∙ sym tell.dark))
        (same.live ∙ (ap (λ s. live_in g m (now h) s) slots ∙ sym tell.live))
        (due_stays g m k.at (now h) k.slots (at.kept.earlier m l) after ∙ ap (λ s. due_in g m (now h) s) slots)

    field_now : f.now ≡ now h → f.applied ≡ length h → IsFieldAt g h (now h) f → IsFieldAfter g h f
    field_now time count at = record {
      sound = at.kept.sound;
      history = at.kept.history;
      time = time;
      count = count;
      costed = at.kept.costed;
      forest = at.kept.forest;
      closed = at.kept.closed;
      marks_each = at.kept.marks_each;
      marks = mark_each at;
      evidence = at.kept.evidence;
      slots = at.kept.slots;
      earlier = at.kept.earlier;
      pulls = pull_now at;
      since = λ m l.
          since_stays g m (kept_of f.evidence m).at (now h) (kept_of f.evidence m).slots (same_times at m l)
          ∙ ap (since_in g m (now h)) (at.kept.slots m l)
          ∙ sym (evidence g m h (timely g h at.kept.history)).since;
      came_back = λ m l.
          came_back_stays g m (kept_of f.evidence m).at (now h) (kept_of f.evidence m).slots (same_times at m l)
          ∙ ap (came_back_in g m (now h)) (at.kept.slots m l)
          ∙ sym (evidence g m h (timely g h at.kept.history)).came_back;
      dark_each = at.kept.dark_each;
      dark = λ n. at.kept.dark n ∙ at_node_same g (dark_kept g f.evidence) (dark_weight g h) n (λ m l. ap (λ p. p.dark) (pull_now at m l));
      live_each = at.kept.live_each;
      live = λ n. at.kept.live n ∙ at_node_same g (live_kept g f.evidence) (live_weight g h) n (λ m l. ap (λ p. p.live) (pull_now at m l));
      due_each = at.kept.due_each;
      due_meters = λ m l. at.kept.due_meters m l ∙ same_due (due_in g m (kept_of f.evidence m).at (kept_of f.evidence m).slots) (due_in g m (now h) (slots_of g m h)) (ap (λ p. p.due) (pull_now at m l));
      due_devices = λ d l. (mark_now at d l).1;
    }

pub field_after : EvidenceIsKept → WeightsStayUntilDue → HistoryIsTimely →
    (g : Parts) (h : List Event) (f : Fielded) → f.now ≡ now h → f.applied ≡ length h → IsFieldAt g h (now h) f → IsFieldAfter g h f
field_after evidence stay timely g h f time count at = field_now g h f evidence stay timely time count at

pub field_kept : (g : Parts) (h : List Event) (f : Fielded) → IsFieldAfter g h f → IsFieldKept g h (now h) f
field_kept g h f after = record {
  sound = after.sound;
  history = after.history;
  later = omega arith;
  costed = after.costed;
  forest = after.forest;
  closed = after.closed;
  marks_each = after.marks_each;
  marks = λ d l. record { at = now h; earlier = omega arith; mark = after.marks d; due = after.due_devices d l };
  evidence = after.evidence;
  slots = after.slots;
  earlier = after.earlier;
  dark_each = after.dark_each;
  dark = λ n. after.dark n ∙ sym (at_node_same g (dark_kept g f.evidence) (dark_weight g h) n (λ m l. ap (λ p. p.dark) (after.pulls m l)));
  live_each = after.live_each;
  live = λ n. after.live n ∙ sym (at_node_same g (live_kept g f.evidence) (live_weight g h) n (λ m l. ap (λ p. p.live) (after.pulls m l)));
  due_each = after.due_each;
  due_meters = λ m l. after.due_meters m l ∙ sym (same_due (due_in g m (kept_of f.evidence m).at (kept_of f.evidence m).slots) (due_in g m (now h) (slots_of g m h)) (ap (λ p. p.due) (after.pulls m l)));
}
