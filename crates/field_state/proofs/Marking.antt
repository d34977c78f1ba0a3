-- What is done to a device is done as the event says.
use Rattle.std.proofs.Common.{◌≡◌, ◌≢◌, ℕ, ◌+◌, ◌<◌, ◌≤◌, Bool, true, false, refl, ap, ◌∙◌, sym, subst, arith, length, ⊎_elim, get_or-set_same, get_or-set_other, length-set}
use Rattle.std.specs.Prelude.{◌==◌, nat_lt, slice_index_or, Option, None, if◌then◌else◌}
use Rattle.std.proofs.lemmas.Bool.{cases_eq, eq-eqb, ne_eqb, false≢true}
use Rattle.grid_model.specs.Parts.{Parts}
use Rattle.grid_model.specs.Places.{setting_of}
use Rattle.grid_model.specs.Problem as problem
use Rattle.grid_model.specs.declared.parts.Setting.TheVariants.{OkHold}
use Rattle.grid_model.specs.declared.parts.DeviceId.{DeviceId}
use Rattle.grid_model.specs.declared.history.Event.{Event}
use Rattle.grid_model.specs.declared.history.Mark.{Mark}
use Rattle.grid_model.specs.declared.history.Mark.TheVariants.{Nothing}
use Rattle.grid_model.specs.declared.history.Stamp.{Stamp}
use Rattle.grid_model.specs.declared.history.What.TheVariants.{Confirm, Restore, Order}
use Rattle.grid_model.specs.declared.history.Confirmed.{Confirmed}
use Rattle.grid_model.specs.declared.history.Want.{Want}
use Rattle.radial_forest.specs.Forested.{IsForestOf}
use Rattle.history_rules.specs.State.{closed_by, mark_by, mark_said, fine_while}
use Rattle.history_rules.specs.Slots.{end_after, due_in}
use Rattle.evidence.specs.Kept.{Kept, IsEvidenceOf, kept_of}
use Rattle.field_state.specs.Fielded.{Fielded, fine_end_by}
use Rattle.field_state.specs.Weighed.{IsWeighed, IsTallied}
use Rattle.field_state.specs.Acted.{kept_after, is_brought, IsReady, IsKeptBy, IsMarkedBy, IsTurned, IsDone, restored_if}
use Rattle.subtree_costs.specs.Costed.{IsCosted}
use Rattle.field_state.proofs.Naming.{is_named, mark_stays, end_stays}
use Rattle.field_state.proofs.Noting.{notes_none, notes_then}
use Rattle.field_state.proofs.Restoring.{kept_same}
use Rattle.field_state.proofs.Tallied.{tallied_marked}

module _ (g : Parts) (e : Event) (x : ℕ) (mark : Mark) (end : Option ℕ) (old mid new : Fielded) (lx : x < length g.devices)
    (tallied : IsTallied g e.time.0 mid) (marks_each : length mid.marks ≡ length g.devices)
    (same_marks : mid.marks ≡ old.marks)
    (same_due : (d : ℕ) → slice_index_or mid.due (length g.meters + d) None ≡ slice_index_or old.due (length g.meters + d) None)
    (by : IsMarkedBy g x mark end mid new)
    (unnamed : (d : ℕ) → d ≢ x → is_named e.what d ≡ false)
    (mark_is : (b : Mark) → mark_by e.what (nat_lt e.time.0 (e.time.0 + setting_of g OkHold)) x b ≡ mark)
    (end_is : (b : Option ℕ) → fine_end_by e.what (end_after e.time.0 (e.time.0 + setting_of g OkHold)) x b ≡ end) where
  pub marks_done : (d : ℕ) → d < length g.devices →
      problem.mark_at new.marks d ≡ mark_by e.what (nat_lt e.time.0 (e.time.0 + setting_of g OkHold)) d (problem.mark_at old.marks d)
  marks_done d ld =
      ⊎_elim
      (λ q. subst
      (λ d. problem.mark_at new.marks d ≡ mark_by e.what (nat_lt e.time.0 (e.time.0 + setting_of g OkHold)) d (problem.mark_at old.marks d)) (sym q)
      (ap (λ ms. problem.mark_at ms x) by.marks ∙ get_or-set_same mid.marks x mark Nothing counted ∙ sym (mark_is (problem.mark_at old.marks x))))
      (λ ne. ap (λ ms. problem.mark_at ms d) by.marks
      ∙ get_or-set_other mid.marks x d mark Nothing ne
      ∙ ap (λ ms. problem.mark_at ms d) same_marks
      ∙ sym (mark_stays e.what (nat_lt e.time.0 (e.time.0 + setting_of g OkHold)) d (problem.mark_at old.marks d) (unnamed d ne)))
      (cases_eq d x)
    where
      counted : x < length mid.marks
      counted = omega arith

  pub due_done : (d : ℕ) → d < length g.devices →
      slice_index_or new.due (length g.meters + d) None
      ≡ fine_end_by e.what (end_after e.time.0 (e.time.0 + setting_of g OkHold)) d (slice_index_or old.due (length g.meters + d) None)
  due_done d ld =
      ⊎_elim
      (λ q. subst
      (λ d. slice_index_or new.due (length g.meters + d) None
      ≡ fine_end_by e.what (end_after e.time.0 (e.time.0 + setting_of g OkHold)) d (slice_index_or old.due (length g.meters + d) None)) (sym q)
      (ap (λ xs. slice_index_or xs (length g.meters + x) None) by.due
      ∙ get_or-set_same mid.due (length g.meters + x) end None counted
      ∙ sym (end_is (slice_index_or old.due (length g.meters + x) None))))
      (λ ne. ap (λ xs. slice_index_or xs (length g.meters + d) None) by.due
      ∙ get_or-set_other mid.due (length g.meters + x) (length g.meters + d) end None (apart ne)
      ∙ same_due d
      ∙ sym (end_stays e.what (end_after e.time.0 (e.time.0 + setting_of g OkHold)) d (slice_index_or old.due (length g.meters + d) None) (unnamed d ne)))
      (cases_eq d x)
    where
      counted : length g.meters + x < length mid.due
      counted = let each = tallied.due_each in omega arith

      apart : d ≢ x → length g.meters + d ≢ length g.meters + x
      apart ne q = let sum : length g.meters + d ≡ length g.meters + x = q in let ne' : d ≢ x = ne in absurd (omega arith)

  -- where the event is no order
  pub done_by_mark : IsReady g e.time.0 old → ((d : ℕ) (b : Bool) → closed_by e.what d b ≡ b) →
      IsKeptBy g e.time.0 (λ m. kept_after m e (is_brought g old.forest.closed m e.what) (kept_of old.evidence m)) old mid → IsDone g e old new
  done_by_mark ready unturned kept = record {
    now = by.now ∙ kept.now;
    applied = by.applied ∙ kept.applied;
    costed = by.costed;
    tallied = tallied_marked g e.time.0 x mark end mid new tallied by;
    forest = subst (λ f. IsForestOf g f.closed f) (sym (by.forest ∙ kept.forest)) ready.forest;
    closed = λ d. ap (λ f. slice_index_or f.closed d false) (by.forest ∙ kept.forest) ∙ sym (unturned d (slice_index_or old.forest.closed d false));
    marks_each = ap length by.marks ∙ length-set mid.marks x mark ∙ ap length same_marks;
    marks = marks_done;
    due_devices = due_done;
    kept = λ m lm. ap (λ e. kept_of e m) by.evidence ∙ kept.each m lm;
    notes = λ n. notes_then g old.costs mid.costs new.costs old.places mid.places new.places kept.notes by.notes;
  }

-- no report is told by what names a device, and brings nothing back
pub untold_by_device : (g : Parts) (t : ℕ) (old : Fielded) (e : Event) → IsCosted g old.costs → IsTallied g t old →
    ((m : ℕ) (k : Kept) → k ≡ kept_after m e (is_brought g old.forest.closed m e.what) k) →
    IsKeptBy g t (λ m. kept_after m e (is_brought g old.forest.closed m e.what) (kept_of old.evidence m)) old old
untold_by_device g t old e costed tallied untold = record {
  now = refl;
  applied = refl;
  costed = costed;
  forest = refl;
  marks = refl;
  tallied = tallied;
  each = λ m lm. untold m (kept_of old.evidence m);
  due_devices = λ d. refl;
  notes = notes_none g old.costs old.places;
}

named_alone : (x d : ℕ) → d ≢ x → (x == d) ≡ false
named_alone x d ne = ne_eqb x d (λ q. ne (sym q))

same_self : (x : ℕ) → (x == x) ≡ true
same_self x = eq-eqb x x refl

pub confirmed_done : (g : Parts) (t : Stamp) (x : DeviceId) (said : Confirmed) (mark : Mark) (end : Option ℕ) (old new : Fielded) → IsReady g t.0 old → x.0 < length g.devices →
    mark_said said (nat_lt t.0 (t.0 + setting_of g OkHold)) ≡ mark →
    ((b : Option ℕ) → fine_end_by (Confirm x said) (end_after t.0 (t.0 + setting_of g OkHold)) x.0 b ≡ end) →
    IsMarkedBy g x.0 mark end old new → IsDone g (record { time = t; what = Confirm x said }) old new
confirmed_done g t x said mark end old new ready lx mark_is end_is by =
    done_by_mark g (record { time = t; what = Confirm x said }) x.0 mark end old old new lx ready.tallied ready.marks_each refl (λ d. refl) by
    (λ d ne. named_alone x.0 d ne)
    (λ b. ap (λ y. if y then mark_said said (nat_lt t.0 (t.0 + setting_of g OkHold)) else b) (same_self x.0) ∙ mark_is)
    end_is
    ready (λ d b. refl)
    (untold_by_device g t.0 old (record { time = t; what = Confirm x said }) ready.costed ready.tallied (λ m k. refl))

-- the end of a mark that is set
pub end_is_this : (x : ℕ) (end b : Option ℕ) → (if x == x then end else b) ≡ end
end_is_this x end b = ap (λ y. if y then end else b) (same_self x)

-- a restoration's reports are those of the meters that it brings back
restored_kept : (m : ℕ) (t : Stamp) (x : DeviceId) (b : Bool) (k : Kept) → restored_if b t.0 k ≡ kept_after m (record { time = t; what = Restore x }) b k
restored_kept m t x true k = refl
restored_kept m t x false k = refl

pub restored_done : (g : Parts) (t : Stamp) (x : DeviceId) (old mid new : Fielded) → IsReady g t.0 old → x.0 < length g.devices →
    IsKeptBy g t.0 (λ m. restored_if (is_brought g old.forest.closed m (Restore x)) t.0 (kept_of old.evidence m)) old mid →
    IsMarkedBy g x.0 (fine_while (nat_lt t.0 (t.0 + setting_of g OkHold))) (end_after t.0 (t.0 + setting_of g OkHold)) mid new →
    IsDone g (record { time = t; what = Restore x }) old new
restored_done g t x old mid new ready lx kept by =
    done_by_mark g (record { time = t; what = Restore x }) x.0 (fine_while (nat_lt t.0 (t.0 + setting_of g OkHold)))
    (end_after t.0 (t.0 + setting_of g OkHold)) old mid new lx kept.tallied (ap length kept.marks ∙ ready.marks_each) kept.marks kept.due_devices by
    (λ d ne. named_alone x.0 d ne)
    (λ b. ap (λ y. if y then fine_while (nat_lt t.0 (t.0 + setting_of g OkHold)) else b) (same_self x.0))
    (λ b. ap (λ y. if y then end_after t.0 (t.0 + setting_of g OkHold) else b) (same_self x.0))
    ready (λ d b. refl)
    (kept_same g t.0 (λ m. restored_if (is_brought g old.forest.closed m (Restore x)) t.0 (kept_of old.evidence m))
    (λ m. kept_after m (record { time = t; what = Restore x }) (is_brought g old.forest.closed m (Restore x)) (kept_of old.evidence m)) old mid kept
    (λ m lm. restored_kept m t x (is_brought g old.forest.closed m (Restore x)) (kept_of old.evidence m)))

pub ordered_done : (g : Parts) (t : Stamp) (x : DeviceId) (w : Want) (old mid new : Fielded) → IsReady g t.0 old → x.0 < length g.devices →
    IsMarkedBy g x.0 Nothing None old mid → IsTurned g x w mid new → IsDone g (record { time = t; what = Order x w }) old new
ordered_done g t x w old mid new ready lx by turned = record {
  now = turned.now ∙ by.now;
  applied = turned.applied ∙ by.applied;
  costed = turned.costed;
  tallied = tallied_turned;
  forest = turned.costed.posed.forest;
  closed = λ d. turned.closed d ∙ ap (λ f. closed_by (Order x w) d (slice_index_or f.closed d false)) by.forest;
  marks_each = ap length (turned.marks ∙ by.marks) ∙ length-set old.marks x.0 Nothing;
  marks = λ d ld. ap (λ ms. problem.mark_at ms d) turned.marks
      ∙ marks_done g (record { time = t; what = Order x w }) x.0 Nothing None old old mid lx ready.tallied ready.marks_each refl (λ k. refl) by
      (λ k ne. named_alone x.0 k ne) nothing_is none_is d ld;
  due_devices = λ d ld. ap (λ xs. slice_index_or xs (length g.meters + d) None) turned.due
      ∙ due_done g (record { time = t; what = Order x w }) x.0 Nothing None old old mid lx ready.tallied ready.marks_each refl (λ k. refl) by
      (λ k ne. named_alone x.0 k ne) nothing_is none_is d ld;
  kept = λ m lm. ap (λ e. kept_of e m) (turned.evidence ∙ by.evidence);
  notes = λ n. absurd (false≢true (sym n));
}
  where
    tallied : IsTallied g t.0 mid
    tallied = tallied_marked g t.0 x.0 Nothing None old mid ready.tallied by

    tallied_turned : IsTallied g t.0 new
    tallied_turned = record {
      evidence = subst (IsEvidenceOf g) (sym turned.evidence) tallied.evidence;
      earlier = λ m lm. subst (λ e. (kept_of e m).at ≤ t.0) (sym turned.evidence) (tallied.earlier m lm);
      weighed =
          let a = subst (λ e. IsWeighed g e mid.dark mid.live) (sym turned.evidence) tallied.weighed in
          let b = subst (λ xs. IsWeighed g new.evidence xs mid.live) (sym turned.dark) a in
          subst (IsWeighed g new.evidence new.dark) (sym turned.live) b;
      due_each = ap length turned.due ∙ tallied.due_each;
      due_meters = λ m lm.
          ap (λ xs. slice_index_or xs m None) turned.due
          ∙ tallied.due_meters m lm
          ∙ sym (ap (λ e. due_in g m (kept_of e m).at (kept_of e m).slots) turned.evidence);
    }

    nothing_is : (b : Mark) → (if x.0 == x.0 then Nothing else b) ≡ Nothing
    nothing_is b = ap (λ y. if y then Nothing else b) (same_self x.0)

    none_is : (b : Option ℕ) → (if x.0 == x.0 then None else b) ≡ None
    none_is b = ap (λ y. if y then None else b) (same_self x.0)
