use Rattle.std.proofs.Common.{◌≡◌, ◌+◌, ◌≤◌, ◌<◌, refl, sym, ap, ◌∙◌, subst, arith, All, List, length, ◌∷◌}
use Rattle.grid_model.specs.declared.parts.NodeId.{NodeId}
use Rattle.grid_model.specs.declared.history.Event.{Event}
use Rattle.grid_model.specs.Parts.{Parts}
use Rattle.radial_forest.specs.Spreading.{switched}
use Rattle.subtree_costs.specs.Walks.{ChangeAtPlaces, ChangeOnWalks, walks_work}
use Rattle.field_state.specs.Repairs.{AreReaches, spent, dues_cost, repairs_work}
use Rattle.field_state.specs.Fielded.{Fielded, IsFieldAfter}
use Rattle.field_state.specs.FieldKept.{IsFieldKept, IsFieldAt}
use Rattle.field_state.specs.StateInside.{fielded_of}
use Rattle.field_state.proofs.Between.{field_after, field_kept}
use Rattle.field_state.proofs.Counting.{at_counted, kept_placed}
use Rattle.field_state.proofs.Noting.{notes_then, noted_at_places}
use Rattle.field_state.proofs.Ruling.{not_late_after}
use Rattle.field_state.proofs.Spending.{costs_same}
use Rattle.field_state.proofs.Working.{key_cost, keys_cost, dues_most, restores_most}
use Rattle.field_state.proofs.state.State.take.Goals as goal

-- the field after these events, with other places
kept_now : (g : Parts) (h : List Event) (old f : Fielded) (places : List NodeId) → IsFieldAfter g h old → f ≡ old → IsFieldKept g h f.now (record f { places = places })
kept_now g h old f places field same =
    kept_placed g h f.now f places
    (subst (λ x. IsFieldKept g h x.now x) (sym same) (subst (λ t. IsFieldKept g h t old) (sym field.time) (field_kept g h old field)))

pub advance-requires-clause-kept : goal.advance-requires-clause-kept
advance-requires-clause-kept g c =
    let h = c.requires.field.0 in
    (h, kept_now c.args.grid.now h c.args.self.now (fielded_of c.self.inside) c.clear.new.self.nodes c.requires.field.1 c.self.view_is)

pub advance-requires-clause-later : goal.advance-requires-clause-later
advance-requires-clause-later g c =
    subst (λ x. x.now ≤ c.args.event.time.0) (sym c.self.view_is)
    (subst (λ t. t ≤ c.args.event.time.0) (sym c.requires.field.1.time) (not_late_after c.args.grid.now c.requires.field.0 c.args.event c.requires.field.2))

pub act-requires-clause-at : goal.act-requires-clause-at
act-requires-clause-at g c =
    let h = c.requires.field.0 in
    let kept = kept_now c.args.grid.now h c.args.self.now (fielded_of c.self.inside) c.clear.new.self.nodes c.requires.field.1 c.self.view_is in
    (h, c.advance.ensures.at h kept, c.requires.field.2)

pub returns-clause-after : goal.returns-clause-after
returns-clause-after g c h field applied =
    let grid = c.args.grid.now in
    let e = c.args.event in
    let new = fielded_of c.self-2.inside in
    let kept = kept_now grid h c.args.self.now (fielded_of c.self.inside) c.clear.new.self.nodes field c.self.view_is in
    let at = c.act.ensures.at h (c.advance.ensures.at h kept) applied in
    let count : c.self-2.inside.applied ≡ length h =
    ap (λ f. f.applied) c.self-2.view_is ∙ c.act.ensures.same.1 ∙ c.advance.ensures.same.1 ∙ ap (λ f. f.applied) c.self.view_is ∙ field.count in
    field_after c.evidence_is_kept.ensures c.weights_stay_until_due.ensures c.history_is_timely.ensures grid (e ∷ h) _ refl (omega arith)
    (at_counted grid (e ∷ h) e.time.0 new e.time.0 (c.self-2.inside.applied + 1) (subst (IsFieldAt grid (e ∷ h) e.time.0) (sym c.self-2.view_is) at))

pub returns-clause-dark : goal.returns-clause-dark
returns-clause-dark g c =
    let h = c.requires.field.0 in
    let kept = kept_now c.args.grid.now h c.args.self.now (fielded_of c.self.inside) c.clear.new.self.nodes c.requires.field.1 c.self.view_is in
    let at = c.act.ensures.at h (c.advance.ensures.at h kept) c.requires.field.2 in
    ap (λ f. length f.dark) c.self-2.view_is ∙ at.kept.dark_each

pub returns-clause-places_within : goal.returns-clause-places_within
returns-clause-places_within g c =
    let h = c.requires.field.0 in
    let kept = kept_now c.args.grid.now h c.args.self.now (fielded_of c.self.inside) c.clear.new.self.nodes c.requires.field.1 c.self.view_is in
    let at = c.act.ensures.at h (c.advance.ensures.at h kept) c.requires.field.2 in
    subst (λ k. All (λ (n : NodeId). n.0 < k) c.self-2.inside.places.nodes)
    (c.self-2.invariant.room ∙ ap (λ f. length f.dark) c.self-2.view_is ∙ at.kept.dark_each) c.all-places.ensures.within

pub returns-clause-noted : goal.returns-clause-noted
returns-clause-noted g c still =
    let grid = c.args.grid.now in
    let mid = c.advance.new.self in
    let new = c.act.new.self in
    let none = c.clear.new.self.nodes in
    subst (λ f. ChangeAtPlaces grid c.args.self.now.costs f.costs f.places) (sym c.self-2.view_is)
    (subst (λ f. ChangeAtPlaces grid f.costs new.costs new.places) c.self.view_is
    (noted_at_places grid c.self.inside.costs new.costs none new.places
    (notes_then grid c.self.inside.costs mid.costs new.costs none mid.places new.places c.advance.ensures.notes (c.act.ensures.notes still))))

pub returns-clause-places : goal.returns-clause-places
returns-clause-places g c still =
    let grid = c.args.grid.now in
    let h = c.requires.field.0 in
    let mid = c.advance.new.self in
    let new = c.act.new.self in
    let none = c.clear.new.self.nodes in
    let kept = kept_now grid h c.args.self.now (fielded_of c.self.inside) none c.requires.field.1 c.self.view_is in
    let at = c.act.ensures.at h (c.advance.ensures.at h kept) c.requires.field.2 in
    let noted = noted_at_places grid c.self.inside.costs new.costs none new.places
    (notes_then grid c.self.inside.costs mid.costs new.costs none mid.places new.places c.advance.ensures.notes (c.act.ensures.notes still)) in
    subst (λ f. ChangeOnWalks grid c.args.self.now.costs f.costs f.places) (sym c.self-2.view_is)
    (c.changes_stay_on_walks.ensures grid c.args.self.now.costs new.costs new.places c.requires.field.1.costed at.kept.costed
    (subst (λ f. ChangeAtPlaces grid f.costs new.costs new.places) c.self.view_is noted))

pub returns-clause-steps : goal.returns-clause-steps
returns-clause-steps g c h field applied still reach at =
    let grid = c.args.grid.now in
    let e = c.args.event in
    let old = c.args.self.now in
    let f = record (fielded_of c.self.inside) { places = c.clear.new.self.nodes } in
    let mid = c.advance.new.self in
    let new = c.act.new.self in
    let end = c.act.new.steps in
    let none = c.clear.new.self.nodes in
    let late = not_late_after grid h e applied in
    let evidence = c.evidence_is_kept.ensures in
    let timely = c.history_is_timely.ensures in
    let rest = c.advance.ensures.at h (kept_now grid h old (fielded_of c.self.inside) none field c.self.view_is) in
    let costs = costs_same grid e.time.0 reach (key_cost grid h e reach) old f (keys_cost evidence timely grid h e reach old field late)
    (ap (λ x. x.due) c.self.view_is) (ap (λ x. x.evidence) c.self.view_is) (ap (λ x. x.marks) c.self.view_is) in
    let reaches = subst (λ x. AreReaches grid x.forest.closed reach) (sym c.self.view_is) at in
    let first : spent grid mid c.advance.new.steps ≤ spent grid f c.args.steps.now + dues_cost e.time.0 (key_cost grid h e reach) f.due = c.advance.ensures.steps reach (key_cost grid h e reach) reaches costs in
    let second = c.act.ensures.steps still reach (subst (λ x. AreReaches grid x.closed reach) (sym c.advance.ensures.same.2) reaches) in
    let nothing : spent grid f c.args.steps.now ≡ 0 + c.args.steps.now = ap (λ p. walks_work (switched grid f.forest.closed) f.forest p + c.args.steps.now) c.clear.ensures.nodes in
    let dues = dues_most grid h e reach f.due (ap (λ x. length x.due) c.self.view_is ∙ field.due_each) in
    let brings = restores_most evidence c.weights_stay_until_due.ensures timely grid h e reach mid rest late in
    let noted = noted_at_places grid c.self.inside.costs new.costs none new.places
    (notes_then grid c.self.inside.costs mid.costs new.costs none mid.places new.places c.advance.ensures.notes (c.act.ensures.notes still)) in
    let trees = noted.forest ∙ ap (λ x. x.forest) c.self.view_is in
    let whole : spent grid new end ≤ c.args.steps.now + repairs_work grid h e reach = omega arith in
    subst (λ x. walks_work (switched grid old.forest.closed) old.forest x.places + end ≤ c.args.steps.now + repairs_work grid h e reach) (sym c.self-2.view_is)
    (subst (λ x. walks_work (switched grid x.closed) x new.places + end ≤ c.args.steps.now + repairs_work grid h e reach) trees whole)
