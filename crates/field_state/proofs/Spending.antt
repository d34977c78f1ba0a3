-- What a repair takes, and a walk up from its place.
use Rattle.std.proofs.Common.{◌≡◌, ℕ, zero, suc, ◌+◌, ◌*◌, ◌<◌, ◌≤◌, Bool, true, false, cond, refl, sym, ap, ◌∙◌, subst, ⊎_elim, arith, List, [], ◌∷◌, ◌++◌, length, set, get_or, Option, Some, None, length-append, length-set, get_or-set_same, get_or-set_other}
use Rattle.std.specs.Prelude.{◌≢◌, ◌⊎◌, ◌==◌, ◌&&◌, not}
use Rattle.std.proofs.Math.Seq.{get_or-append_seam}
use Rattle.std.proofs.lemmas.Bool.{cases_eq, ne_eqb, le-leb, false≢true}
use Rattle.std.proofs.lemmas.List.{get_or_append_left}
use Rattle.outage_rules.specs.Sum.{total}
use Rattle.outage_rules.specs.Network.{Network}
use Rattle.grid_model.specs.declared.parts.NodeId.{NodeId}
use Rattle.grid_model.specs.declared.parts.DeviceId.{DeviceId}
use Rattle.grid_model.specs.declared.history.Mark.{Mark}
use Rattle.grid_model.specs.declared.history.Mark.TheVariants as mark
use Rattle.grid_model.specs.Problem.{mark_at}
use Rattle.grid_model.specs.Parts.{Parts}
use Rattle.radial_forest.specs.Traversed.{node_at, parent_in}
use Rattle.radial_forest.specs.Forested.{Forested}
use Rattle.radial_forest.specs.Spreading.{switched}
use Rattle.subtree_costs.specs.Trees.{depth_in}
use Rattle.subtree_costs.specs.Walks.{walks_work}
use Rattle.subtree_costs.specs.Costed.{Costed, IsCosted}
use Rattle.due_queue.specs.Due.{IsDue}
use Rattle.history_rules.specs.Slots.{Slots}
use Rattle.evidence.specs.Kept.{kept_of, keeping, pull_by}
use Rattle.evidence.specs.declared.Pull.{Pull}
use Rattle.field_state.specs.Fielded.{Fielded}
use Rattle.field_state.specs.Weighed.{has_come}
use Rattle.field_state.specs.Repairs.{AreCosts, spent, dues_cost, repair_if, pulls_differ, same_mark, meter_length, device_length, passing_cost, marking_cost}
use Rattle.field_state.proofs.Tallied.{kept_there}
use Rattle.field_state.proofs.Totals.{total_same}

-- the walks from one place more
walks_more : (net : Network) (f : Forested) (places : List NodeId) (n : NodeId) → walks_work net f (places ++ n ∷ []) ≡ walks_work net f places + (depth_in net f n.0 + 1)
walks_more net f places n =
    let long : length (places ++ n ∷ []) ≡ suc (length places) = length-append places (n ∷ []) ∙ (let e : length places + 1 ≡ suc (length places) = omega arith in e) in
    let rest = total_same (length places) (λ i. depth_in net f (node_at (places ++ n ∷ []) i) + 1) (λ i. depth_in net f (node_at places i) + 1)
    (λ k l. ap (λ (x : NodeId). depth_in net f x.0 + 1) (get_or_append_left places (n ∷ []) (record { 0 = 0 }) k l)) in
    let here = ap (λ (x : NodeId). depth_in net f x.0 + 1) (get_or-append_seam places n [] (record { 0 = 0 })) in
    ap (λ k. total k (λ i. depth_in net f (node_at (places ++ n ∷ []) i) + 1)) long ∙ omega (arith, rest, here)

-- a repair from a node, which becomes a place
pub spent_more : (g : Parts) (f new : Fielded) (before after r : ℕ) (n : NodeId) → new.forest ≡ f.forest → (new.places ≡ f.places) ⊎ (new.places ≡ f.places ++ n ∷ [])
    → depth_in (switched g f.forest.closed) f.forest n.0 ≤ r → after ≤ before + 4 * (r + 1) → spent g new after ≤ spent g f before + 6 * (r + 1)
spent_more g f new before after r n forest added deep steps =
    let net = switched g f.forest.closed in
    let same : walks_work (switched g new.forest.closed) new.forest new.places ≡ walks_work net f.forest new.places = ap (λ x. walks_work (switched g x.closed) x new.places) forest in
    ⊎_elim
    (λ e. let w = same ∙ ap (walks_work net f.forest) e in omega arith)
    (λ e. let w = same ∙ ap (walks_work net f.forest) e ∙ walks_more net f.forest f.places n in omega arith)
    added

-- one term of a sum changes
total_but : (n : ℕ) (f f' : ℕ → ℕ) (k c : ℕ) → k < n → ((j : ℕ) → (j ≡ k → ⊥) → f' j ≡ f j) → f' k + c ≡ f k → total n f' + c ≡ total n f
total_but zero f f' k c l others here = absurd (omega arith)
total_but (suc n) f f' k c l others here =
    ⊎_elim
    (λ e. let rest = total_same n f' f (λ j lj. others j (λ q. absurd (omega arith))) in
    let last = ap f' e in let last' = ap f e in omega arith)
    (λ ne. let rest = total_but n f f' k c (let x : k ≢ n = ne in omega arith) others here in
    let last = others n (λ q. ne (sym q)) in omega arith)
    (cases_eq k n)

-- what was due is due no longer
pub dues_less : (t : ℕ) (cost : ℕ → ℕ) (due : List (Option ℕ)) (k : ℕ) (x : Option ℕ) → k < length due → has_come t (get_or due k None) ≡ true → has_come t x ≡ false
    → dues_cost t cost (set due k x) + cost k ≡ dues_cost t cost due
dues_less t cost due k x l come not_yet =
    let f = λ (key : ℕ). cond (has_come t (get_or due key None)) (cost key) 0 in
    let f' = λ (key : ℕ). cond (has_come t (get_or (set due k x) key None)) (cost key) 0 in
    ap (λ n. total n f' + cost k) (length-set due k x)
    ∙ total_but (length due) f f' k (cost k) l
    (λ j ne. ap (λ o. cond (has_come t o) (cost j) 0) (get_or-set_other due k j x None ne))
    (ap (λ o. cond (has_come t o) (cost k) 0 + cost k) (get_or-set_same due k x None l) ∙ ap (λ b. cond b (cost k) 0 + cost k) not_yet
    ∙ (let e : 0 + cost k ≡ cost k = omega arith in e) ∙ sym (ap (λ b. cond b (cost k) 0) come))

-- pulls that weigh something else
not_both : (a : Bool) → not (a && false) ≡ true
not_both true = refl
not_both false = refl

pub dark_differs : (p q : Pull) → (p.dark ≡ q.dark → ⊥) → pulls_differ p q ≡ true
dark_differs p q ne = ap (λ b. not (b && (p.live == q.live))) (ne_eqb p.dark q.dark ne)

pub live_differs : (p q : Pull) → (p.live ≡ q.live → ⊥) → pulls_differ p q ≡ true
live_differs p q ne = ap (λ b. not ((p.dark == q.dark) && b)) (ne_eqb p.live q.live ne) ∙ not_both (p.dark == q.dark)

-- marks that differ
pub marks_differ : (a b : Mark) → (a ≡ b → ⊥) → not (same_mark a b) ≡ true
marks_differ mark.Nothing mark.Nothing ne = absurd (ne refl)
marks_differ mark.Nothing mark.Opened ne = refl
marks_differ mark.Nothing mark.Fine ne = refl
marks_differ mark.Opened mark.Nothing ne = refl
marks_differ mark.Opened mark.Opened ne = absurd (ne refl)
marks_differ mark.Opened mark.Fine ne = refl
marks_differ mark.Fine mark.Nothing ne = refl
marks_differ mark.Fine mark.Opened ne = refl
marks_differ mark.Fine mark.Fine ne = absurd (ne refl)

-- a repair is at most one
pub repair_most : (b : Bool) (l : ℕ) → repair_if b l ≤ 6 * l
repair_most true l = omega arith
repair_most false l = omega arith

-- the lower end of a device is no further than its further end
pub low_within : (g : Parts) (c : Costed) (reach : ℕ → ℕ) (d : DeviceId) (low : ℕ) → IsCosted g c → low < length g.nodes → parent_in c.forest.parents low ≡ Some d
    → reach low + 1 ≤ device_length g reach d.0
low_within g c reach d low costed l hung =
    ⊎_elim
    (λ e. let x = ap reach e in omega arith)
    (λ e. let x = ap reach e in omega arith)
    (costed.posed.forest.rooted.parent low d l hung).ends

-- what is due costs as much after a meter's time has passed, but for that meter
pub costs_lapsed : (g : Parts) (t : ℕ) (reach cost : ℕ → ℕ) (m : ℕ) (s : Slots) (x : Option ℕ) (f new : Fielded) → AreCosts g t reach cost f → m < length g.meters → m < length f.due
    → new.evidence ≡ keeping f.evidence m s t → new.due ≡ set f.due m x → has_come t x ≡ false → new.marks ≡ f.marks → AreCosts g t reach cost new
costs_lapsed g t reach cost m s x f new k l timed evidence due not_yet marks = record { meters = meters; devices = devices }
  where
    meters : (j : ℕ) → j < length g.meters → has_come t (get_or new.due j None) ≡ true → passing_cost g t reach new.evidence j ≤ cost j
    meters j lj come =
        ⊎_elim
        (λ e. absurd (false≢true (sym not_yet ∙ ap (has_come t) (sym (ap (λ xs. get_or xs j None) due ∙ ap (λ i. get_or (set f.due m x) i None) e ∙ get_or-set_same f.due m x None timed)) ∙ come)))
        (λ ne. subst (λ w. repair_if (pulls_differ (pull_by g j w) (pull_by g j (record { slots = w.slots; at = t }))) (meter_length g reach j) ≤ cost j)
        (sym (ap (λ y. kept_of y j) evidence ∙ kept_there f.evidence m j s t ne))
        (k.meters j lj (ap (has_come t) (sym (ap (λ xs. get_or xs j None) due ∙ get_or-set_other f.due m j x None ne)) ∙ come)))
        (cases_eq j m)

    devices : (d : ℕ) → d < length g.devices → has_come t (get_or new.due (length g.meters + d) None) ≡ true → marking_cost g reach new.marks d mark.Nothing ≤ cost (length g.meters + d)
    devices d ld come =
        subst (λ ms. marking_cost g reach ms d mark.Nothing ≤ cost (length g.meters + d)) (sym marks)
        (k.devices d ld (ap (has_come t) (sym (ap (λ xs. get_or xs (length g.meters + d) None) due
        ∙ get_or-set_other f.due m (length g.meters + d) x None (λ q. absurd (let q' : length g.meters + d ≡ m = q in omega arith)))) ∙ come))

-- and after a mark has ended
pub costs_ended : (g : Parts) (t : ℕ) (reach cost : ℕ → ℕ) (d : ℕ) (f new : Fielded) → AreCosts g t reach cost f → length g.meters + d < length f.due
    → new.evidence ≡ f.evidence → new.marks ≡ set f.marks d mark.Nothing → new.due ≡ set f.due (length g.meters + d) None → AreCosts g t reach cost new
costs_ended g t reach cost d f new k timed evidence marks due = record { meters = meters; devices = devices }
  where
    meters : (m : ℕ) → m < length g.meters → has_come t (get_or new.due m None) ≡ true → passing_cost g t reach new.evidence m ≤ cost m
    meters m lm come =
        subst (λ e. passing_cost g t reach e m ≤ cost m) (sym evidence)
        (k.meters m lm (ap (has_come t) (sym (ap (λ xs. get_or xs m None) due
        ∙ get_or-set_other f.due (length g.meters + d) m None None (λ q. absurd (let q' : m ≡ length g.meters + d = q in omega arith)))) ∙ come))

    devices : (j : ℕ) → j < length g.devices → has_come t (get_or new.due (length g.meters + j) None) ≡ true → marking_cost g reach new.marks j mark.Nothing ≤ cost (length g.meters + j)
    devices j lj come =
        ⊎_elim
        (λ e. absurd (false≢true (ap (has_come t) (sym (ap (λ xs. get_or xs (length g.meters + j) None) due ∙ ap (λ i. get_or (set f.due (length g.meters + d) None) (length g.meters + i) None) e
        ∙ get_or-set_same f.due (length g.meters + d) None None timed)) ∙ come)))
        (λ ne. subst (λ w. repair_if (not (same_mark w mark.Nothing)) (device_length g reach j) ≤ cost (length g.meters + j))
        (sym (ap (λ ms. mark_at ms j) marks ∙ get_or-set_other f.marks d j mark.Nothing mark.Nothing ne))
        (k.devices j lj (ap (has_come t) (sym (ap (λ xs. get_or xs (length g.meters + j) None) due
        ∙ get_or-set_other f.due (length g.meters + d) (length g.meters + j) None None (λ q. ne (let q' : length g.meters + j ≡ length g.meters + d = q in omega arith)))) ∙ come)))
        (cases_eq j d)

-- where nothing of it changes
pub costs_same : (g : Parts) (t : ℕ) (reach cost : ℕ → ℕ) (f new : Fielded) → AreCosts g t reach cost f → new.due ≡ f.due → new.evidence ≡ f.evidence → new.marks ≡ f.marks → AreCosts g t reach cost new
costs_same g t reach cost f new k due evidence marks = record {
  meters = λ m lm come. subst (λ e. passing_cost g t reach e m ≤ cost m) (sym evidence) (k.meters m lm (ap (λ xs. has_come t (get_or xs m None)) (sym due) ∙ come));
  devices = λ d ld come. subst (λ ms. marking_cost g reach ms d mark.Nothing ≤ cost (length g.meters + d)) (sym marks)
      (k.devices d ld (ap (λ xs. has_come t (get_or xs (length g.meters + d) None)) (sym due) ∙ come));
}

-- the time of a key that is due has come
pub has_come_due : (t : ℕ) (due : List (Option ℕ)) (key : ℕ) → IsDue due t key → has_come t (get_or due key None) ≡ true
has_come_due t due key d = ap (has_come t) d.1 ∙ le-leb d.0 t d.2
