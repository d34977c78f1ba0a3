-- A field stays kept as one of its times is taken.
use Rattle.std.proofs.Common.{◌≡◌, ◌≢◌, ℕ, ◌+◌, ◌<◌, ◌≤◌, false, List, length, set, get_or, Option, None, sym, ap, ◌∙◌, subst, ⊎_elim, arith, length-set, get_or-set_same, get_or-set_other}
use Rattle.std.proofs.lemmas.Bool.{cases_eq}
use Rattle.grid_model.specs.Parts.{Parts}
use Rattle.grid_model.specs.Problem as problem
use Rattle.grid_model.specs.declared.history.Event.{Event}
use Rattle.grid_model.specs.declared.history.Mark.TheVariants as mark
use Rattle.radial_forest.specs.Forested.{IsForestOf}
use Rattle.subtree_costs.specs.Costed.{IsCosted}
use Rattle.due_queue.specs.Due.{IsDue}
use Rattle.evidence.specs.Kept.{Evident, kept_of, keeping}
use Rattle.field_state.specs.Fielded.{Fielded}
use Rattle.field_state.specs.FieldKept.{IsFieldKept, IsMarkKept}
use Rattle.field_state.specs.Weighed.{IsTallied, IsTalliedBut}
use Rattle.field_state.specs.Acted.{IsMarkedBy}
use Rattle.field_state.proofs.Tallied.{kept_here, kept_there, tallied_of, tallied_marked}
use Rattle.field_state.proofs.Expired.{expired}

-- to a later time
pub kept_until : (g : Parts) (h : List Event) (t u : ℕ) (f : Fielded) → t ≤ u → IsFieldKept g h t f → IsFieldKept g h u f
kept_until g h t u f l k = record {
  sound = k.sound;
  history = k.history;
  later = omega (arith, k.later);
  costed = k.costed;
  forest = k.forest;
  closed = k.closed;
  marks_each = k.marks_each;
  marks = λ d n. let m = k.marks d n in record { at = m.at; earlier = omega (arith, m.earlier); mark = m.mark; due = m.due };
  evidence = k.evidence;
  slots = k.slots;
  earlier = λ m n. omega (arith, k.earlier m n);
  dark_each = k.dark_each;
  dark = k.dark;
  live_each = k.live_each;
  live = k.live;
  due_each = k.due_each;
  due_meters = k.due_meters;
}

-- the slots stay where a meter's time passes
slots_stay : (e : Evident) (m k t : ℕ) → m < length e.meters → (kept_of (keeping e m (kept_of e m).slots t) k).slots ≡ (kept_of e k).slots
slots_stay e m k t l =
    ⊎_elim
    (λ q. subst (λ j. (kept_of (keeping e m (kept_of e m).slots t) j).slots ≡ (kept_of e j).slots) (sym q) (ap (λ x. x.slots) (kept_here e m (kept_of e m).slots t l)))
    (λ ne. ap (λ x. x.slots) (kept_there e m k (kept_of e m).slots t ne))
    (cases_eq k m)

-- without the time of one meter
pub popped_but : (g : Parts) (m t : ℕ) (f : Fielded) → IsTallied g t f → IsTalliedBut g t m (record f { due = set f.due m None })
popped_but g m t f k = record {
  evidence = k.evidence;
  earlier = k.earlier;
  weighed = k.weighed;
  due_each = length-set f.due m None ∙ k.due_each;
  due_others = λ j n ne. get_or-set_other f.due m j None None ne ∙ k.due_meters j n;
}

-- where a meter's time has come
pub kept_lapsed : (g : Parts) (h : List Event) (t m : ℕ) (x : Option ℕ) (f new : Fielded) → IsFieldKept g h t f → m < length g.meters → IsCosted g new.costs → IsTallied g t new
    → new.evidence ≡ keeping f.evidence m (kept_of f.evidence m).slots t → new.due ≡ set f.due m x → new.forest ≡ f.forest → new.marks ≡ f.marks
    → IsFieldKept g h t new
kept_lapsed g h t m x f new k l costed tallied e due forest marks = record {
  sound = k.sound;
  history = k.history;
  later = k.later;
  costed = costed;
  forest = subst (λ y. IsForestOf g y.closed y) (sym forest) k.forest;
  closed = λ d. ap (λ y. get_or y.closed d false) forest ∙ k.closed d;
  marks_each = ap length marks ∙ k.marks_each;
  marks = λ d n. let w = k.marks d n in record {
    at = w.at;
    earlier = w.earlier;
    mark = ap (λ y. problem.mark_at y d) marks ∙ w.mark;
    due = ap (λ y. get_or y (length g.meters + d) None) due ∙ get_or-set_other f.due m (length g.meters + d) x None (λ q. absurd (let q' : length g.meters + d ≡ m = q in omega arith)) ∙ w.due;
  };
  evidence = tallied.evidence;
  slots = λ j n. ap (λ y. (kept_of y j).slots) e ∙ slots_stay f.evidence m j t (omega (arith, k.evidence.each)) ∙ k.slots j n;
  earlier = tallied.earlier;
  dark_each = tallied.weighed.dark_each;
  dark = tallied.weighed.dark_sums;
  live_each = tallied.weighed.live_each;
  live = tallied.weighed.live_sums;
  due_each = tallied.due_each;
  due_meters = tallied.due_meters;
}

-- the key of a device
abbrev pub key_of : Parts → ℕ → ℕ
key_of g d = length g.meters + d

-- where a mark's time has come
pub kept_expired : (g : Parts) (h : List Event) (t d : ℕ) (f new : Fielded) → IsFieldKept g h t f → d < length g.devices → IsDue f.due t (length g.meters + d)
    → IsMarkedBy g d mark.Nothing None f new → IsFieldKept g h t new
kept_expired g h t d f new k l due by = record {
  sound = k.sound;
  history = k.history;
  later = k.later;
  costed = by.costed;
  forest = subst (λ y. IsForestOf g y.closed y) (sym by.forest) k.forest;
  closed = λ j. ap (λ y. get_or y.closed j false) by.forest ∙ k.closed j;
  marks_each = ap length by.marks ∙ length-set f.marks d mark.Nothing ∙ k.marks_each;
  marks = λ j n. ⊎_elim (λ q. subst (IsMarkKept g h t new) (sym q) here) (λ ne. there j n ne) (cases_eq j d);
  evidence = tallied.evidence;
  slots = λ m n. ap (λ y. (kept_of y m).slots) by.evidence ∙ k.slots m n;
  earlier = tallied.earlier;
  dark_each = tallied.weighed.dark_each;
  dark = tallied.weighed.dark_sums;
  live_each = tallied.weighed.live_each;
  live = tallied.weighed.live_sums;
  due_each = tallied.due_each;
  due_meters = tallied.due_meters;
}
  where
    tallied : IsTallied g t new
    tallied = tallied_marked g t d mark.Nothing None f new (tallied_of g h t f k) by

    here : IsMarkKept g h t new d
    here =
        let w = k.marks d l in
        let over = expired g h d w.at t due.0 due.2 (sym w.due ∙ due.1) in
        record {
          at = t;
          earlier = (let z : t ≤ t = omega arith in z);
          mark = ap (λ y. problem.mark_at y d) by.marks ∙ get_or-set_same f.marks d mark.Nothing mark.Nothing (omega (arith, k.marks_each)) ∙ sym over.0;
          due = ap (λ y. get_or y (key_of g d) None) by.due ∙ get_or-set_same f.due (key_of g d) None None (omega (arith, k.due_each)) ∙ sym over.1;
        }

    there : (j : ℕ) → j < length g.devices → j ≢ d → IsMarkKept g h t new j
    there j n ne =
        let w = k.marks j n in
        record {
          at = w.at;
          earlier = w.earlier;
          mark = ap (λ y. problem.mark_at y j) by.marks ∙ get_or-set_other f.marks d j mark.Nothing mark.Nothing ne ∙ w.mark;
          due = ap (λ y. get_or y (length g.meters + j) None) by.due
              ∙ get_or-set_other f.due (key_of g d) (length g.meters + j) None None (λ q. ne (let q' : length g.meters + j ≡ length g.meters + d = q in omega arith)) ∙ w.due;
        }
