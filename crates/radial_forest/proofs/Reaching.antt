-- One more node is reached.
use Rattle.std.proofs.Common.{◌≡◌, ◌≢◌, ℕ, suc, ◌+◌, ◌<◌, ◌≤◌, Bool, true, false, cond, refl, sym, ap, ◌∙◌, subst, inl, inr, ⊎_elim, arith, [], ◌∷◌, ◌++◌, length, Option, Some, None, is_some, unwrap_or}
use Rattle.std.specs.Prelude.{◌==◌, ◌⊎◌}
use Rattle.std.proofs.lemmas.Bool.{cases_eq, cases_lt, eq-eqb, ne_eqb, false≢true}
use Rattle.std.proofs.lemmas.List.{get_or-set_same, get_or-set_other, length-set, length_push, get_or_push, get_or_append_left}
use Rattle.outage_rules.specs.Sum.{total}
use Rattle.outage_rules.specs.Network.{Network}
use Rattle.outage_rules.specs.Certificate.{HasParent, other_end, upper}
use Rattle.outage_rules.proofs.Sums.{total_same, total_one, total_add, total_le_times}
use Rattle.grid_model.specs.declared.parts.NodeId.{NodeId}
use Rattle.grid_model.specs.declared.parts.DeviceId.{DeviceId}
use Rattle.radial_forest.specs.Traversed.{Traversed, parent_in, depth_in, node_at, number_of_device, table_of}
use Rattle.radial_forest.specs.Spreading.{reaching, is_reached, hangs, IsPartial}

abbrev one_if : Bool → ℕ
one_if b = cond b 1 0

abbrev pub no_node : NodeId
no_node = record { 0 = 0 }

-- as many nodes stand in the order as are reached
pub order_short : (g : Network) (t : Traversed) → IsPartial g t → length t.order ≤ g.nodes
order_short g t partial =
    let most = total_le_times g.nodes (λ n. one_if (is_reached t n)) 1 (λ n l. at (is_reached t n)) in
    let counted = partial.counted in omega arith
  where
    at : (b : Bool) → one_if b ≤ 1
    at true = omega arith
    at false = omega arith

module _ (g : Network) (t : Traversed) (m : NodeId) (p : Option DeviceId) (k : ℕ) (partial : IsPartial g t) (lm : m.0 < g.nodes) where
  depth_other : (v : ℕ) → v ≢ m.0 → depth_in (reaching t m p k).depths v ≡ depth_in t.depths v
  depth_other v ne = get_or-set_other t.depths m.0 v (Some k) None ne

  depth_here : depth_in (reaching t m p k).depths m.0 ≡ Some k
  depth_here = get_or-set_same t.depths m.0 (Some k) None (subst (λ x. m.0 < x) (sym partial.depths_each) lm)

  pub parent_other : (v : ℕ) → v ≢ m.0 → parent_in (reaching t m p k).parents v ≡ parent_in t.parents v
  parent_other v ne = get_or-set_other t.parents m.0 v p None ne

  pub parent_here : parent_in (reaching t m p k).parents m.0 ≡ p
  parent_here = get_or-set_same t.parents m.0 p None (subst (λ x. m.0 < x) (sym partial.parents_each) lm)

  pub reached_other : (v : ℕ) → v ≢ m.0 → is_reached (reaching t m p k) v ≡ is_reached t v
  reached_other v ne = ap is_some (depth_other v ne)

  pub reached_here : is_reached (reaching t m p k) m.0 ≡ true
  reached_here = ap is_some depth_here

  number_other : (v : ℕ) → v ≢ m.0 → (table_of (reaching t m p k)).parent v ≡ (table_of t).parent v
  number_other v ne = ap number_of_device (parent_other v ne)

  pub level_other : (v : ℕ) → v ≢ m.0 → (table_of (reaching t m p k)).depth v ≡ (table_of t).depth v
  level_other v ne = ap (λ o. unwrap_or o 0) (depth_other v ne)

  pub level_here : (table_of (reaching t m p k)).depth m.0 ≡ k
  level_here = ap (λ o. unwrap_or o 0) depth_here

  pub place_before : (j : ℕ) → j < length t.order → node_at (reaching t m p k).order j ≡ node_at t.order j
  place_before j l = ap (λ x. x.0) (get_or_append_left t.order (m ∷ []) no_node j l)

  pub place_last : (j : ℕ) → length t.order ≡ j → node_at (reaching t m p k).order j ≡ m.0
  place_last j e = ap (λ x. x.0) (get_or_push t.order m no_node j e)

  pub longer : length t.order ≤ length (t.order ++ m ∷ [])
  longer = let n = length_push t.order m in omega arith

  module _ (fresh : is_reached t m.0 ≡ false) where
    -- a reached node is another
    pub apart : (v : ℕ) → is_reached t v ≡ true → v ≢ m.0
    apart v e x = false≢true (sym fresh ∙ ap (is_reached t) (sym x) ∙ e)

    pub kept : (v : ℕ) → is_reached t v ≡ true → is_reached (reaching t m p k) v ≡ true
    kept v e = reached_other v (apart v e) ∙ e

    counted : length t.order + 1 ≡ total g.nodes (λ v. one_if (is_reached (reaching t m p k) v))
    counted =
        let each = total_same g.nodes (λ v. one_if (is_reached (reaching t m p k) v)) (λ v. one_if (is_reached t v) + one_if (v == m.0)) (λ v l. at v (cases_eq v m.0)) in
        let sums = total_add g.nodes (λ v. one_if (is_reached t v)) (λ v. one_if (v == m.0)) in
        let one = total_one g.nodes (λ v. one_if (v == m.0)) m.0 lm (λ v l ne. ap one_if (ne_eqb v m.0 ne)) in
        let here = ap one_if (eq-eqb m.0 m.0 refl) in
        let before = partial.counted in
        omega arith
      where
        at : (v : ℕ) → (v ≡ m.0) ⊎ (v ≢ m.0) → one_if (is_reached (reaching t m p k) v) ≡ one_if (is_reached t v) + one_if (v == m.0)
        at v (inl e) =
            let a = ap one_if (ap (is_reached (reaching t m p k)) e ∙ reached_here) in
            let b = ap one_if (ap (is_reached t) e ∙ fresh) in
            let c = ap one_if (eq-eqb v m.0 e) in omega arith
        at v (inr ne) =
            let a = ap one_if (reached_other v ne) in
            let c = ap one_if (ne_eqb v m.0 ne) in omega arith

    -- there is room for one more node
    pub room : length t.order < g.nodes
    room =
        let most = total_le_times g.nodes (λ v. one_if (is_reached (reaching t m p k) v)) 1 (λ v l. at (is_reached (reaching t m p k) v)) in
        let n = counted in omega arith
      where
        at : (b : Bool) → one_if b ≤ 1
        at true = omega arith
        at false = omega arith

    -- a node that hung before hangs from the same one
    hung_before : (v : ℕ) → v ≢ m.0 → HasParent g (table_of t) v → HasParent g (table_of (reaching t m p k)) v
    hung_before v ne h =
        let e = number_other v ne in
        let up = ap (λ x. other_end g x v) e in
        record {
          within = subst (λ x. x < g.devices) (sym e) h.within;
          closed = ap g.is_closed e ∙ h.closed;
          ends = subst (λ x. (g.from x ≡ v) ⊎ (g.to x ≡ v)) (sym e) h.ends;
          listed = ap (is_reached (reaching t m p k)) up ∙ kept _ h.listed;
          deeper = level_other v ne ∙ h.deeper ∙ ap suc (sym (ap (table_of (reaching t m p k)).depth up ∙ level_other _ (apart _ h.listed)));
        }

    module _ (hung : is_some p ≡ true → HasParent g (table_of (reaching t m p k)) m.0) (top : is_some p ≡ false → k ≡ 0) (shallow : k ≤ length t.order)
        (above : is_some p ≡ true → (upper g (table_of (reaching t m p k)) m.0 < g.nodes) × (is_reached t (upper g (table_of (reaching t m p k)) m.0) ≡ true)) where
      hung' : (v : ℕ) → v < g.nodes → hangs (reaching t m p k) v ≡ true → (is_reached (reaching t m p k) v ≡ true) × HasParent g (table_of (reaching t m p k)) v
      hung' v l h =
          ⊎_elim
          (λ e. (
            ap (is_reached (reaching t m p k)) e ∙ reached_here,
            subst (HasParent g (table_of (reaching t m p k))) (sym e) (hung (sym (ap is_some (ap (parent_in (reaching t m p k).parents) e ∙ parent_here)) ∙ h)),
          ))
          (λ ne. let old = partial.hung v l (sym (ap is_some (parent_other v ne)) ∙ h) in (reached_other v ne ∙ old.0, hung_before v ne old.1))
          (cases_eq v m.0)

      top' : (v : ℕ) → v < g.nodes → hangs (reaching t m p k) v ≡ false → (table_of (reaching t m p k)).depth v ≡ 0
      top' v l h =
          ⊎_elim
          (λ e. ap (table_of (reaching t m p k)).depth e ∙ level_here ∙ top (sym (ap is_some (ap (parent_in (reaching t m p k).parents) e ∙ parent_here)) ∙ h))
          (λ ne. level_other v ne ∙ partial.top v l (sym (ap is_some (parent_other v ne)) ∙ h))
          (cases_eq v m.0)

      placed' : (j : ℕ) → j < length (t.order ++ m ∷ []) → (node_at (reaching t m p k).order j < g.nodes) × (is_reached (reaching t m p k) (node_at (reaching t m p k).order j) ≡ true)
      placed' j l =
          ⊎_elim
          (λ a. let o = partial.placed j a in let e = place_before j a in
          (subst (λ x. x < g.nodes) (sym e) o.0, ap (is_reached (reaching t m p k)) e ∙ kept _ o.1))
          (λ a. let e = place_last j (let n = length_push t.order m in omega arith) in
          (subst (λ x. x < g.nodes) (sym e) lm, ap (is_reached (reaching t m p k)) e ∙ reached_here))
          (cases_lt j (length t.order))

      all' : (v : ℕ) → v < g.nodes → is_reached (reaching t m p k) v ≡ true → (j : ℕ) × (j < length (t.order ++ m ∷ [])) × (node_at (reaching t m p k).order j ≡ v)
      all' v l e =
          ⊎_elim
          (λ x. (length t.order, (let n = length_push t.order m in let y : length t.order < length (t.order ++ m ∷ []) = omega arith in y), place_last (length t.order) refl ∙ sym x))
          (λ ne. let q = partial.all v l (sym (reached_other v ne) ∙ e) in
          (q.0, (let n = length_push t.order m in let a = q.1 in let y : q.0 < length (t.order ++ m ∷ []) = omega arith in y), place_before q.0 q.1 ∙ q.2))
          (cases_eq v m.0)

      once' : (i j : ℕ) → i < j → j < length (t.order ++ m ∷ []) → node_at (reaching t m p k).order i ≢ node_at (reaching t m p k).order j
      once' i j l lj same =
          ⊎_elim
          (λ a. partial.once i j l a (sym (place_before i (omega arith)) ∙ same ∙ place_before j a))
          (λ a. let n = length_push t.order m in let li : i < length t.order = omega arith in
          apart (node_at t.order i) (partial.placed i li).1 (sym (place_before i li) ∙ same ∙ place_last j (omega arith)))
          (cases_lt j (length t.order))

      after_upper' : (j : ℕ) → j < length (t.order ++ m ∷ []) → hangs (reaching t m p k) (node_at (reaching t m p k).order j) ≡ true
          → (i : ℕ) × (i < j) × (node_at (reaching t m p k).order i ≡ upper g (table_of (reaching t m p k)) (node_at (reaching t m p k).order j))
      after_upper' j l h =
          ⊎_elim
          (λ a. let e = place_before j a in
          let ne = apart (node_at t.order j) (partial.placed j a).1 in
          let q = partial.after_upper j a (sym (ap (hangs (reaching t m p k)) e ∙ ap is_some (parent_other (node_at t.order j) ne)) ∙ h) in
          (q.0, q.1, place_before q.0 (let x = q.1 in omega arith) ∙ q.2 ∙ sym (ap (upper g (table_of (reaching t m p k))) e ∙ ap (λ x. other_end g x (node_at t.order j)) (number_other (node_at t.order j) ne))))
          (λ a. let e = place_last j (let n = length_push t.order m in omega arith) in
          let up = above (sym (ap (hangs (reaching t m p k)) e ∙ ap is_some parent_here) ∙ h) in
          let q = partial.all (upper g (table_of (reaching t m p k)) m.0) up.0 up.1 in
          (q.0, (let x = q.1 in let y : q.0 < j = omega arith in y), place_before q.0 q.1 ∙ q.2 ∙ sym (ap (upper g (table_of (reaching t m p k))) e)))
          (cases_lt j (length t.order))

      shallow' : (v : ℕ) → v < g.nodes → is_reached (reaching t m p k) v ≡ true → (table_of (reaching t m p k)).depth v < length (t.order ++ m ∷ [])
      shallow' v l e =
          ⊎_elim
          (λ x. let n = length_push t.order m in let a = ap (table_of (reaching t m p k)).depth x ∙ level_here in omega arith)
          (λ ne. let n = length_push t.order m in let a = partial.shallow v l (sym (reached_other v ne) ∙ e) in let b = level_other v ne in omega arith)
          (cases_eq v m.0)

      pub partial_more : IsPartial g (reaching t m p k)
      partial_more = record {
        parents_each = length-set t.parents m.0 p ∙ partial.parents_each;
        depths_each = length-set t.depths m.0 (Some k) ∙ partial.depths_each;
        counted = length_push t.order m ∙ counted;
        hung = hung';
        top = top';
        placed = placed';
        all = all';
        once = once';
        after_upper = after_upper';
        shallow = shallow';
      }
