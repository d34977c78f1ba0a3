use Rattle.std.proofs.Common.{◌+◌, ◌<◌, ℕ, sym, ap, ◌∙◌, subst, arith, length, get_or, set}
use Rattle.grid_model.specs.Network.{network_of}
use Rattle.radial_forest.specs.Traversed.{node_at}
use Rattle.radial_forest.specs.Rooting.{HasRootOfUpper}
use Rattle.radial_forest.proofs.Rooted.{own_root, root_of_upper}
use Rattle.radial_forest.proofs.forest.fill_roots.Goals as goal
use Rattle.radial_forest.proofs.forest.fill_roots.Goals.{in-None, in-Some}

pub loop-n-preserved : goal.loop-n-preserved
loop-n-preserved c =
    let g = c.args.grid.now in
    let t = c.args.traversal.now in
    let i = c.loop-n.n-index in
    let order = c.order-n-items.ensures in
    let n = get_or c.order-n-items.result.now i (record { 0 = 0 }) in
    let r = c.match-parent.roots in
    let here = ap (λ xs. node_at xs i) (sym order) in
    let before = subst (λ xs. (j : ℕ) → j < i → HasRootOfUpper (network_of g) t c.loop-n.roots (node_at xs j)) order c.loop-n.invariant in
    let same = c.loop-n.auto.roots in
    let each = c.requires.each in
    let long = ap length order in
    subst (λ xs. (j : ℕ) → j < i + 1 → HasRootOfUpper (network_of g) t (set c.loop-n.roots n.0 r) (node_at xs j)) (sym order)
    (elim c.match-parent.branch [
      | in-None w ↦ own_root g c.requires.partial.0 t c.loop-n.roots i c.requires.partial.1 (omega arith) (omega arith) before n r here (sym c.parent.ensures ∙ w.in-None.is) (ap (λ x. x.0) w.roots-is)
      | in-Some w ↦
          root_of_upper g c.requires.partial.0 t c.loop-n.roots i c.requires.partial.1 (omega arith) (omega arith) before n r here w.in-Some.d w.other_end.result
          (sym c.parent.ensures ∙ w.in-Some.is) w.other_end.ensures (ap (λ x. x.0) w.roots-is)
    ])
