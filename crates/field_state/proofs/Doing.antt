-- What is done step by step is done as the event says.
use Rattle.std.proofs.Common.{◌≡◌, ◌≢◌, ℕ, ◌+◌, ◌<◌, Bool, true, false, refl, ap, ◌∙◌, sym, subst, arith, length, ⊎_elim, get_or-set_other}
use Rattle.std.specs.Prelude.{◌||◌, nat_lt, slice_index_or, slice_set, None, if◌then◌else◌}
use Rattle.std.proofs.lemmas.Bool.{cases_eq}
use Rattle.grid_model.specs.Parts.{Parts}
use Rattle.grid_model.specs.Places.{setting_of}
use Rattle.grid_model.specs.Problem as problem
use Rattle.grid_model.specs.declared.parts.Setting.TheVariants.{OkHold}
use Rattle.grid_model.specs.declared.history.Event.{Event}
use Rattle.grid_model.specs.declared.history.Stamp.{Stamp}
use Rattle.grid_model.specs.declared.history.What.{What}
use Rattle.grid_model.specs.declared.history.What.TheVariants.{Call, Gasp, PingDown, PingUp, Powerup, Confirm, Restore, Order, Clock}
use Rattle.radial_forest.specs.Forested.{IsForestOf}
use Rattle.subtree_costs.specs.Costed.{IsCosted}
use Rattle.history_rules.specs.State.{is_wanted_closed, closed_by}
use Rattle.history_rules.specs.Slots.{Slots, end_after, due_in}
use Rattle.evidence.specs.Kept.{Kept, kept_of, keeping}
use Rattle.field_state.specs.Fielded.{Fielded}
use Rattle.field_state.specs.Placed.{NotesChanges}
use Rattle.field_state.specs.Weighed.{IsWeighed, IsTallied}
use Rattle.field_state.proofs.Tallied.{kept_here, kept_there, tallied_after, tallied_but}
use Rattle.field_state.specs.Acted.{kept_after, is_brought, IsReady, IsKeptBy, IsDone, restored_if}
use Rattle.field_state.proofs.Naming.{is_named, mark_stays, end_stays}
use Rattle.field_state.proofs.Noting.{notes_none, notes_then}

-- what a report of a meter leaves, once it is taken
module _ (g : Parts) (m t : ℕ) (slots : Slots) (old new : Fielded) (kept : ℕ → Kept) (ready : IsReady g t old) (lm : m < length g.meters)
    (evidence : new.evidence ≡ keeping old.evidence m slots t)
    (weighed : IsWeighed g new.evidence new.dark new.live)
    (due : new.due ≡ slice_set old.due m (due_in g m t slots))
    (one : record { slots = slots; at = t } ≡ kept m)
    (others : (k : ℕ) → k ≢ m → kept_of old.evidence k ≡ kept k)
    (costed : IsCosted g new.costs) where
  each_again : (k : ℕ) → k < length g.meters → kept_of new.evidence k ≡ kept k
  each_again k lk =
      ⊎_elim
      (λ q. subst (λ k. kept_of new.evidence k ≡ kept k) (sym q) (ap (λ e. kept_of e m) evidence ∙ kept_here old.evidence m slots t counted ∙ one))
      (λ ne. ap (λ e. kept_of e k) evidence ∙ kept_there old.evidence m k slots t ne ∙ others k ne)
      (cases_eq k m)
    where
      counted : m < length old.evidence.meters
      counted = omega (arith, ready.tallied.evidence.each)

  pub kept_by : new.now ≡ old.now → new.applied ≡ old.applied → new.forest ≡ old.forest → new.marks ≡ old.marks
      → NotesChanges g old.costs new.costs old.places new.places → IsKeptBy g t kept old new
  kept_by now applied forest marks notes = record {
    now = now;
    applied = applied;
    costed = costed;
    forest = forest;
    marks = marks;
    tallied = tallied_after g m t slots old new (tallied_but g m t old ready.tallied) lm evidence weighed due;
    each = each_again;
    due_devices = λ d.
        ap (λ xs. slice_index_or xs (length g.meters + d) None) due
        ∙ get_or-set_other old.due m (length g.meters + d) (due_in g m t slots) None (λ q. absurd (let e : length g.meters + d ≡ m = q in omega arith));
    notes = notes;
  }

-- one step after another
pub kept_then : (g : Parts) (t : ℕ) (first second both : ℕ → Kept) (a b c : Fielded) → IsKeptBy g t first a b → IsKeptBy g t second b c →
    ((m : ℕ) → m < length g.meters → second m ≡ both m) → IsKeptBy g t both a c
kept_then g t first second both a b c x y same = record {
  now = y.now ∙ x.now;
  applied = y.applied ∙ x.applied;
  costed = y.costed;
  forest = y.forest ∙ x.forest;
  marks = y.marks ∙ x.marks;
  tallied = y.tallied;
  each = λ m lm. y.each m lm ∙ same m lm;
  due_devices = λ d. y.due_devices d ∙ x.due_devices d;
  notes = notes_then g a.costs b.costs c.costs a.places b.places c.places x.notes y.notes;
}

pub kept_still : (g : Parts) (t : ℕ) (f : Fielded) → IsCosted g f.costs → IsTallied g t f → IsKeptBy g t (kept_of f.evidence) f f
kept_still g t f costed tallied = record {
  now = refl;
  applied = refl;
  costed = costed;
  forest = refl;
  marks = refl;
  tallied = tallied;
  each = λ m lm. refl;
  due_devices = λ d. refl;
  notes = notes_none g f.costs f.places;
}

-- the field stays ready for what comes at the same time
pub ready_again : (g : Parts) (t : ℕ) (kept : ℕ → Kept) (old new : Fielded) → IsReady g t old → IsKeptBy g t kept old new → IsReady g t new
ready_again g t kept old new ready by = record {
  sound = ready.sound;
  costed = by.costed;
  tallied = by.tallied;
  forest = subst (λ f. IsForestOf g f.closed f) (sym by.forest) ready.forest;
  marks_each = ap length by.marks ∙ ready.marks_each;
}

-- two restorations at one time
pub restored_twice : (b c : Bool) (t : ℕ) (k : Kept) → restored_if c t (restored_if b t k) ≡ restored_if (b || c) t k
restored_twice true true t k = refl
restored_twice true false t k = refl
restored_twice false true t k = refl
restored_twice false false t k = refl

-- an order alone moves a device
pub closed_stays : (w : What) (d : ℕ) (before : Bool) → is_named w d ≡ false → closed_by w d before ≡ before
closed_stays (Order x w) d before n = ap (λ b. if b then is_wanted_closed w else before) n
closed_stays (Call m) d before n = refl
closed_stays (Gasp m) d before n = refl
closed_stays (PingDown m) d before n = refl
closed_stays (PingUp m) d before n = refl
closed_stays (Powerup m) d before n = refl
closed_stays (Confirm x c) d before n = refl
closed_stays (Restore x) d before n = refl
closed_stays Clock d before n = refl

-- a report does what it says of the meters, and nothing else
pub done_by_report : (g : Parts) (e : Event) (old new : Fielded) → IsReady g e.time.0 old → ((d : ℕ) → is_named e.what d ≡ false) →
    ((m : ℕ) → is_brought g old.forest.closed m e.what ≡ false) → IsKeptBy g e.time.0 (λ m. kept_after m e false (kept_of old.evidence m)) old new →
    IsDone g e old new
done_by_report g e old new ready unnamed unbrought by = record {
  now = by.now;
  applied = by.applied;
  costed = by.costed;
  tallied = by.tallied;
  forest = subst (λ f. IsForestOf g f.closed f) (sym by.forest) ready.forest;
  closed = λ d. ap (λ f. slice_index_or f.closed d false) by.forest ∙ sym (closed_stays e.what d (slice_index_or old.forest.closed d false) (unnamed d));
  marks_each = ap length by.marks;
  marks = λ d ld. ap (λ ms. problem.mark_at ms d) by.marks ∙ sym (mark_stays e.what (nat_lt e.time.0 (e.time.0 + setting_of g OkHold)) d (problem.mark_at old.marks d) (unnamed d));
  due_devices = λ d ld. by.due_devices d ∙ sym (end_stays e.what (end_after e.time.0 (e.time.0 + setting_of g OkHold)) d (slice_index_or old.due (length g.meters + d) None) (unnamed d));
  kept = λ m lm. by.each m lm ∙ sym (ap (λ b. kept_after m e b (kept_of old.evidence m)) (unbrought m));
  notes = λ n. by.notes;
}

-- time alone does nothing where nothing is due
pub clock_done : (g : Parts) (t : Stamp) (f : Fielded) → IsReady g t.0 f → IsDone g (record { time = t; what = Clock }) f f
clock_done g t f ready = done_by_report g (record { time = t; what = Clock }) f f ready (λ d. refl) (λ m. refl) (kept_still g t.0 f ready.costed ready.tallied)
