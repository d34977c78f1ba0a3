-- Each node is given its root in the order of the traversal, after the node above it.
use Rattle.std.proofs.Common.{◌≡◌, ◌≢◌, ℕ, ◌+◌, ◌<◌, Bool, true, sym, ap, ◌∙◌, subst, arith, List, length, set, Some, None, is_some, below_more}
use Rattle.std.proofs.lemmas.Bool.{false≢true}
use Rattle.std.proofs.lemmas.List.{get_or-set_same, get_or-set_other}
use Rattle.outage_rules.specs.Certificate.{other_end, upper}
use Rattle.grid_model.specs.declared.parts.NodeId.{NodeId}
use Rattle.grid_model.specs.declared.parts.DeviceId.{DeviceId}
use Rattle.grid_model.specs.Parts.{Parts}
use Rattle.grid_model.specs.Network.{network_in, network_of}
use Rattle.radial_forest.specs.Traversed.{Traversed, parent_in, node_at, number_of_device, table_of}
use Rattle.radial_forest.specs.Forested.{root_in}
use Rattle.radial_forest.specs.Spreading.{hangs, IsPartial}
use Rattle.radial_forest.specs.Rooting.{HasRootOfUpper}

-- the first i nodes of the order have their roots
abbrev pub AreRooted : Parts → Traversed → List NodeId → ℕ → Type 0
AreRooted g t roots i = (j : ℕ) → j < i → HasRootOfUpper (network_of g) t roots (node_at t.order j)

module _ (g : Parts) (closed : ℕ → Bool) (t : Traversed) (roots : List NodeId) (i : ℕ) (partial : IsPartial (network_in g closed) t) (each : length roots ≡ length g.nodes)
    (li : i < length t.order) (before : AreRooted g t roots i) (n r : NodeId) (here : node_at t.order i ≡ n.0) where
  other : (v : ℕ) → v ≢ n.0 → root_in (set roots n.0 r) v ≡ root_in roots v
  other v ne = ap (λ x. x.0) (get_or-set_other roots n.0 v r (record { 0 = 0 }) ne)

  at_node : root_in (set roots n.0 r) n.0 ≡ r.0
  at_node = ap (λ x. x.0) (get_or-set_same roots n.0 r (record { 0 = 0 }) (subst (λ v. v < length roots) here (let l = (partial.placed i li).0 in omega arith)))

  earlier : (j : ℕ) → j < i → node_at t.order j ≢ n.0
  earlier j l e = partial.once j i l li (e ∙ sym here)

  -- the roots of earlier nodes stay
  kept : AreRooted g t (set roots n.0 r) i
  kept j l = record {
    top = λ h. other (node_at t.order j) (earlier j l) ∙ (before j l).top h;
    below = λ h. let u = partial.after_upper j (omega arith) h in
        other (node_at t.order j) (earlier j l) ∙ (before j l).below h
        ∙ sym (other (upper (network_of g) (table_of t) (node_at t.order j)) (λ e. earlier u.0 (let lu = u.1 in omega arith) (u.2 ∙ e)));
  }

  more : HasRootOfUpper (network_of g) t (set roots n.0 r) n.0 → AreRooted g t (set roots n.0 r) (i + 1)
  more h = below_more (λ j. HasRootOfUpper (network_of g) t (set roots n.0 r) (node_at t.order j)) i kept (subst (HasRootOfUpper (network_of g) t (set roots n.0 r)) (sym here) h)

  -- a node that hangs from none is its own root
  pub own_root : parent_in t.parents n.0 ≡ None → r.0 ≡ n.0 → AreRooted g t (set roots n.0 r) (i + 1)
  own_root none e = more (record { top = λ h. at_node ∙ e; below = λ h. absurd (false≢true (sym (ap is_some none) ∙ h)) })

  -- and another has the root of the node above it
  pub root_of_upper : (d : DeviceId) (u : NodeId) → parent_in t.parents n.0 ≡ Some d → u.0 ≡ other_end (network_of g) d.0 n.0 → r.0 ≡ root_in roots u.0 → AreRooted g t (set roots n.0 r) (i + 1)
  root_of_upper d u some end e =
      let hung : hangs t n.0 ≡ true = ap is_some some in
      let is_u : u.0 ≡ upper (network_of g) (table_of t) n.0 = end ∙ sym (ap (λ x. other_end (network_of g) (number_of_device x) n.0) some) in
      let q = partial.after_upper i li (ap (hangs t) here ∙ hung) in
      let place : node_at t.order q.0 ≡ u.0 = q.2 ∙ ap (upper (network_of g) (table_of t)) here ∙ sym is_u in
      more (record {
        top = λ h. absurd (false≢true (sym h ∙ hung));
        below = λ h. at_node ∙ e ∙ sym (other u.0 (λ x. earlier q.0 q.1 (place ∙ x))) ∙ ap (root_in (set roots n.0 r)) is_u;
      })
