-- Changes of weights and marks are noted step by step.
use Rattle.std.proofs.Common.{◌≡◌, ℕ, ◌+◌, ◌<◌, refl, sym, ap, ◌∙◌, subst, inl, inr, ⊎_elim, arith, List, [], ◌∷◌, ◌++◌, length, set, get_or, Some, None, length-append, get_or-set_other}
use Rattle.std.specs.Prelude.{◌⊎◌}
use Rattle.std.proofs.Math.Seq.{get_or-append_seam}
use Rattle.std.proofs.lemmas.Bool.{cases_eq}
use Rattle.std.proofs.lemmas.List.{get_or_append_left, set-get_or}
use Rattle.grid_model.specs.declared.parts.NodeId.{NodeId}
use Rattle.grid_model.specs.declared.parts.DeviceId.{DeviceId}
use Rattle.grid_model.specs.declared.history.Mark.{Mark}
use Rattle.grid_model.specs.declared.history.Mark.TheVariants.{Nothing}
use Rattle.grid_model.specs.Parts.{Parts}
use Rattle.grid_model.specs.Problem.{mark_at}
use Rattle.radial_forest.specs.Traversed.{parent_in}
use Rattle.radial_forest.specs.Spreading.{switched}
use Rattle.radial_forest.proofs.LowerSide.{one_hangs}
use Rattle.subtree_costs.specs.Costed.{Costed, IsCosted}
use Rattle.subtree_costs.specs.Walks.{IsPlace, ChangeAtPlaces}
use Rattle.field_state.specs.Fielded.{Fielded}
use Rattle.field_state.specs.Placed.{NotesChanges}
use Rattle.field_state.specs.Acted.{IsMarkedBy}

-- a node behind a list is one of it
pub place_here : (places : List NodeId) (n : NodeId) → IsPlace (places ++ n ∷ []) n.0
place_here places n =
    let long : length (places ++ n ∷ []) ≡ length places + 1 = length-append places (n ∷ []) in
    (length places, omega arith, ap (λ (x : NodeId). x.0) (get_or-append_seam places n [] (record { 0 = 0 })))

-- and those before it stay
pub place_stays : (places : List NodeId) (n : NodeId) (k : ℕ) → IsPlace places k → IsPlace (places ++ n ∷ []) k
place_stays places n k (i, l, e) =
    let long : length (places ++ n ∷ []) ≡ length places + 1 = length-append places (n ∷ []) in
    (i, omega arith, ap (λ (x : NodeId). x.0) (get_or_append_left places (n ∷ []) (record { 0 = 0 }) i l) ∙ e)

-- places stay where a node is added
pub places_stay : (places places' : List NodeId) (n : NodeId) → (places' ≡ places) ⊎ (places' ≡ places ++ n ∷ []) → (k : ℕ) → IsPlace places k → IsPlace places' k
places_stay places places' n added k here =
    ⊎_elim
    (λ e. subst (λ xs. IsPlace xs k) (sym e) here)
    (λ e. subst (λ xs. IsPlace xs k) (sym e) (place_stays places n k here))
    added

-- nothing changes
pub notes_none : (g : Parts) (c : Costed) (places : List NodeId) → NotesChanges g c c places places
notes_none g c places = record {
  forest = refl;
  dark = λ n. inl refl;
  live = λ n. inl refl;
  marks = λ d low l hung. inl refl;
  stay = λ n here. here;
}

then_stays : {X : Type 0} (x y z : X) (P Q : Type 0) → (y ≡ x) ⊎ P → (z ≡ y) ⊎ Q → (P → Q) → (z ≡ x) ⊎ Q
then_stays x y z P Q first second stay =
    ⊎_elim
    (λ e. ⊎_elim (λ f. inl (f ∙ e)) (λ q. inr q) second)
    (λ p. inr (stay p))
    first

-- one change after another
pub notes_then : (g : Parts) (a b c : Costed) (before mid after : List NodeId) → NotesChanges g a b before mid → NotesChanges g b c mid after → NotesChanges g a c before after
notes_then g a b c before mid after x y = record {
  forest = y.forest ∙ x.forest;
  dark = λ n. then_stays (get_or a.dark n 0) (get_or b.dark n 0) (get_or c.dark n 0) (IsPlace mid n) (IsPlace after n) (x.dark n) (y.dark n) (y.stay n);
  live = λ n. then_stays (get_or a.live n 0) (get_or b.live n 0) (get_or c.live n 0) (IsPlace mid n) (IsPlace after n) (x.live n) (y.live n) (y.stay n);
  marks = λ d low l hung.
      then_stays (mark_at a.marks d.0) (mark_at b.marks d.0) (mark_at c.marks d.0) (IsPlace mid low) (IsPlace after low) (x.marks d low l hung)
      (y.marks d low l (subst (λ f. parent_in f.parents low ≡ Some d) (sym x.forest) hung)) (y.stay low);
  stay = λ n here. y.stay n (x.stay n here);
}

-- what is noted changes at places alone
pub noted_at_places : (g : Parts) (c c' : Costed) (before places : List NodeId) → NotesChanges g c c' before places → ChangeAtPlaces g c c' places
noted_at_places g c c' before places notes = record {
  forest = notes.forest;
  dark = λ n l ne. ⊎_elim (λ e. absurd (ne e)) (λ here. here) (notes.dark n);
  live = λ n l ne. ⊎_elim (λ e. absurd (ne e)) (λ here. here) (notes.live n);
  marks = λ d low l hung ne. ⊎_elim (λ e. absurd (ne e)) (λ here. here) (notes.marks d low l hung);
}

-- the weights of a node change, which is a place
pub notes_weights : (g : Parts) (c c' : Costed) (before after : List NodeId) (n : NodeId) (dark live : ℕ) → c'.forest ≡ c.forest → c'.marks ≡ c.marks
    → c'.dark ≡ set c.dark n.0 dark → c'.live ≡ set c.live n.0 live → (after ≡ before) ⊎ (after ≡ before ++ n ∷ []) → IsPlace after n.0 → NotesChanges g c c' before after
notes_weights g c c' before after n dark live forest marks darks lives added here = record {
  forest = forest;
  dark = weight c.dark c'.dark dark darks;
  live = weight c.live c'.live live lives;
  marks = λ d low l hung. inl (ap (λ ms. mark_at ms d.0) marks);
  stay = places_stay before after n added;
}
  where
    weight : (old new : List ℕ) (x : ℕ) → new ≡ set old n.0 x → (k : ℕ) → (get_or new k 0 ≡ get_or old k 0) ⊎ IsPlace after k
    weight old new x is k =
        ⊎_elim
        (λ e. inr (subst (IsPlace after) (sym e) here))
        (λ ne. inl (ap (λ xs. get_or xs k 0) is ∙ get_or-set_other old n.0 k x 0 ne))
        (cases_eq k n.0)

-- the mark of a device changes, whose lower end is a place
pub notes_mark : (g : Parts) (c c' : Costed) (before after : List NodeId) (d : DeviceId) (low : NodeId) (mark : Mark) → IsCosted g c → low.0 < length g.nodes
    → parent_in c.forest.parents low.0 ≡ Some d → c'.forest ≡ c.forest → c'.dark ≡ c.dark → c'.live ≡ c.live → c'.marks ≡ set c.marks d.0 mark
    → (after ≡ before) ⊎ (after ≡ before ++ low ∷ []) → IsPlace after low.0 → NotesChanges g c c' before after
notes_mark g c c' before after d low mark costed ll hung_low forest darks lives marks added here = record {
  forest = forest;
  dark = λ n. inl (ap (λ xs. get_or xs n 0) darks);
  live = λ n. inl (ap (λ xs. get_or xs n 0) lives);
  marks = λ e n l hung.
      ⊎_elim
      (λ q. inr (subst (IsPlace after) (one_hangs (switched g c.forest.closed) c.forest costed.posed.forest.sound costed.posed.forest.rooted low.0 n d.0 ll l hung_low
      (hung ∙ ap (λ k. Some (record { 0 = k })) q)) here))
      (λ ne. inl (ap (λ ms. mark_at ms e.0) marks ∙ get_or-set_other c.marks d.0 e.0 mark Nothing ne))
      (cases_eq e.0 d.0);
  stay = places_stay before after low added;
}

-- a mark that stays
pub marked_again : (g : Parts) (d : ℕ) (mark : Mark) (f : Fielded) → IsCosted g f.costs → mark_at f.marks d ≡ mark → IsMarkedBy g d mark (get_or f.due (length g.meters + d) None) f f
marked_again g d mark f costed same = record {
  now = refl;
  applied = refl;
  costed = costed;
  forest = refl;
  marks = sym (set-get_or f.marks d Nothing) ∙ ap (set f.marks d) same;
  evidence = refl;
  dark = refl;
  live = refl;
  due = sym (set-get_or f.due (length g.meters + d) None);
  notes = notes_none g f.costs f.places;
}
