use Rattle.std.proofs.Common.{◌≡◌, ◌<◌, ◌+◌, sym, ap, ◌∙◌, subst, arith, length, set, get_or}
use Rattle.std.proofs.lemmas.List.{get_or-set_same, length-set}
use Rattle.radial_forest.specs.Traversed.{parent_in, node_at}
use Rattle.radial_forest.specs.Spreading.{switched}
use Rattle.subtree_costs.specs.Walks.{node_up}
use Rattle.diagnosis.proofs.Climbing.{hung_within, climbs_end, more_room, more_here, more_within, more_deep, more_nodes}
use Rattle.diagnosis.proofs.settling.list_walk.Goals as goal

pub loop-d-init : goal.loop-d-init
loop-d-init c =
    let first = ap (λ x. x.0) (get_or-set_same c.args.walk.now 0 c.args.n (record { 0 = 0 }) (let a = c.requires.room in let b = c.requires.node in omega arith)) in
    let long = length-set c.args.walk.now 0 c.args.n in
    let all = c.requires.room in
    let node = c.requires.node in
    record {
      long = long ∙ c.requires.room;
      room = omega arith;
      here = subst (λ v. v < length c.args.grid.now.nodes) (sym first) c.requires.node;
      up = omega arith;
      nodes = λ k l. let e : k ≡ 0 = omega arith in
          ap (node_at (set c.args.walk.now 0 c.args.n)) e ∙ first ∙ ap (λ j. node_up (switched c.args.grid.now c.args.costs.now.forest.closed) c.args.costs.now.forest.parents j c.args.n.0) (sym e);
    }

pub parent-requires : goal.parent-requires
parent-requires c =
    let here = c.loop-d.invariant.here in
    subst (λ f. (get_or c.loop-d.walk c.loop-d.up (record { 0 = 0 })).0 < length f.roots) (sym c.forest.ensures)
    (subst (λ k. (get_or c.loop-d.walk c.loop-d.up (record { 0 = 0 })).0 < k) (sym c.requires.costed.posed.forest.roots_each) here)

pub other_end-above-requires : goal.other_end-above-requires
other_end-above-requires c =
    hung_within c.args.grid.now c.args.costs.now c.requires.costed (node_at c.loop-d.walk c.loop-d.up) c.loop-d.invariant.here c.in-Some.d
    (sym (sym c.in-Some.is ∙ c.parent.ensures ∙ ap (λ f. parent_in f.parents (node_at c.loop-d.walk c.loop-d.up)) c.forest.ensures))

pub bounds-walk-up : goal.bounds-walk-up
bounds-walk-up c =
    let inv = c.loop-d.invariant in
    let e = sym c.in-Some.is ∙ c.parent.ensures ∙ ap (λ f. parent_in f.parents (node_at c.loop-d.walk c.loop-d.up)) c.forest.ensures in
    more_room c.args.grid.now c.args.costs.now c.requires.costed c.args.n.0 c.requires.node c.loop-d.walk c.loop-d.up c.other_end-above.result c.in-Some.d inv.long inv.up inv.nodes (sym e) c.other_end-above.ensures

pub loop-d-smaller : goal.loop-d-smaller
loop-d-smaller c = let e = length-set c.loop-d.walk (c.loop-d.up + 1) c.other_end-above.result in let r = c.loop-d.invariant.room in omega arith

pub loop-d-preserved : goal.loop-d-preserved
loop-d-preserved c =
    let g = c.args.grid.now in
    let k = c.args.costs.now in
    let inv = c.loop-d.invariant in
    let up = c.loop-d.up in
    let walk = c.loop-d.walk in
    let m = c.other_end-above.result in
    let d = c.in-Some.d in
    let e = sym (sym c.in-Some.is ∙ c.parent.ensures ∙ ap (λ f. parent_in f.parents (node_at walk up)) c.forest.ensures) in
    let is = c.other_end-above.ensures in
    let long = length-set walk (up + 1) m in
    let room = more_room g k c.requires.costed c.args.n.0 c.requires.node walk up m d inv.long inv.up inv.nodes e is in
    record {
      long = long ∙ inv.long;
      room = omega arith;
      here = subst (λ v. v < length g.nodes) (sym (more_here g k c.requires.costed c.args.n.0 c.requires.node walk up m d inv.long inv.up inv.nodes e is)) (more_within g k c.requires.costed c.args.n.0 c.requires.node walk up m d inv.long inv.up inv.nodes e is);
      up = more_deep g k c.requires.costed c.args.n.0 c.requires.node walk up m d inv.long inv.up inv.nodes e is;
      nodes = more_nodes g k c.requires.costed c.args.n.0 c.requires.node walk up m d inv.long inv.up inv.nodes e is;
    }

pub returns-clause-count : goal.returns-clause-count
returns-clause-count c =
    let k = c.args.costs.now in
    let inv = c.loop-d.invariant in
    let e = sym (sym c.in_default.is ∙ c.parent.ensures ∙ ap (λ f. parent_in f.parents (node_at c.loop-d.walk c.loop-d.up)) c.forest.ensures) in
    ap (λ x. x + 1) (climbs_end c.args.grid.now k c.requires.costed c.args.n.0 c.requires.node c.loop-d.up inv.up (ap (parent_in k.forest.parents) (sym (inv.nodes c.loop-d.up (omega arith))) ∙ e))
