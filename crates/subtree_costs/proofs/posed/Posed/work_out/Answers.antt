use Rattle.std.proofs.Common.{◌<◌, ◌+◌, ◌-◌, refl, sym, subst, ap, ◌∙◌, arith, length, set}
use Rattle.std.proofs.lemmas.List.{length-set}
use Rattle.grid_model.specs.Problem.{mark_at}
use Rattle.radial_forest.specs.Traversed.{node_at}
use Rattle.subtree_costs.specs.Shares.{row_at, share_of}
use Rattle.subtree_costs.specs.Costed.{root_part}
use Rattle.subtree_costs.proofs.Hung.{node_within, weight_small}
use Rattle.subtree_costs.proofs.Repairing.{share_small, part_small}
use Rattle.subtree_costs.proofs.Worked.{AreWorked, worked_none, worked_root, worked_more, worked_exact, worked_total, worked_small, sum_small}
use Rattle.subtree_costs.proofs.posed.Posed.work_out.Goals as goal

pub loop-k-init : goal.loop-k-init
loop-k-init g c = record {
  each = c.write_weights.ensures.each;
  worked = worked_none c.args.self.now c.requires.ready c.args.order.now c.requires.order _ c.write_weights.ensures.rows;
  steps = let a = c.write_weights.ensures.steps in let b = c.requires.order_each in omega arith;
}

pub share-share-requires-clause-fits : goal.share-share-requires-clause-fits
share-share-requires-clause-fits g c =
    let q = c.args.self.now in
    let list = c.args.order.now in
    let k = c.loop-k.k - 1 in
    let n = node_at list k in
    let a = c.in-Some.above in
    let lk : k < length list = omega arith in
    let within = c.requires.order.within k lk in
    let light = weight_small q c.requires.ready n within a (sym c.in-Some.is ∙ c.above.ensures) in
    let small = (worked_small q c.requires.ready list c.requires.order c.loop-k.rows c.loop-k.k c.loop-k.total (omega arith) c.loop-k.invariant.worked n within).dark in
    let row = ap (λ r. r.dark) c.read-row.ensures.row in
    omega arith

pub read-upper-requires : goal.read-upper-requires
read-upper-requires g c =
    let list = c.args.order.now in
    let k = c.loop-k.k - 1 in
    let lk : k < length list = omega arith in
    let here = node_within c.args.self.now c.requires.ready (node_at list k) (c.requires.order.within k lk) c.in-Some.above (sym c.in-Some.is ∙ c.above.ensures) in
    let each = c.loop-k.invariant.each in
    omega arith

pub overflow_add-whole : goal.overflow_add-whole
overflow_add-whole g c =
    let q = c.args.self.now in
    let list = c.args.order.now in
    let k = c.loop-k.k - 1 in
    let n = node_at list k in
    let a = c.in-Some.above in
    let e = sym c.in-Some.is ∙ c.above.ensures in
    let lk : k < length list = omega arith in
    let within = c.requires.order.within k lk in
    let small = worked_small q c.requires.ready list c.requires.order c.loop-k.rows c.loop-k.k c.loop-k.total (omega arith) c.loop-k.invariant.worked in
    let share = (share_small (mark_at q.marks.now a.device.0) a.weight (row_at c.loop-k.rows n) (weight_small q c.requires.ready n within a e) (small n within)).0 in
    let above = (small a.node.0 (node_within q c.requires.ready n within a e)).live in
    let is = ap (λ r. r.live) (c.share-share.ensures ∙ ap (share_of (mark_at q.marks.now a.device.0) a.weight) c.read-row.ensures.row) in
    let upper = ap (λ r. r.live) c.read-upper.ensures.row in
    omega arith

pub overflow_add-whole-in-Some : goal.overflow_add-whole-in-Some
overflow_add-whole-in-Some g c =
    let q = c.args.self.now in
    let list = c.args.order.now in
    let k = c.loop-k.k - 1 in
    let n = node_at list k in
    let a = c.in-Some.above in
    let e = sym c.in-Some.is ∙ c.above.ensures in
    let lk : k < length list = omega arith in
    let within = c.requires.order.within k lk in
    let small = worked_small q c.requires.ready list c.requires.order c.loop-k.rows c.loop-k.k c.loop-k.total (omega arith) c.loop-k.invariant.worked in
    let share = (share_small (mark_at q.marks.now a.device.0) a.weight (row_at c.loop-k.rows n) (weight_small q c.requires.ready n within a e) (small n within)).1 in
    let above = (small a.node.0 (node_within q c.requires.ready n within a e)).dark in
    let is = ap (λ r. r.dark) (c.share-share.ensures ∙ ap (share_of (mark_at q.marks.now a.device.0) a.weight) c.read-row.ensures.row) in
    let upper = ap (λ r. r.dark) c.read-upper.ensures.row in
    omega arith

pub write-requires : goal.write-requires
write-requires g c =
    let list = c.args.order.now in
    let k = c.loop-k.k - 1 in
    let lk : k < length list = omega arith in
    let here = node_within c.args.self.now c.requires.ready (node_at list k) (c.requires.order.within k lk) c.in-Some.above (sym c.in-Some.is ∙ c.above.ensures) in
    let each = c.loop-k.invariant.each in
    omega arith

pub loop-k-preserved-in-Some : goal.loop-k-preserved-in-Some
loop-k-preserved-in-Some g c =
    let q = c.args.self.now in
    let list = c.args.order.now in
    let k = c.loop-k.k - 1 in
    let n = node_at list k in
    let a = c.in-Some.above in
    let rows = c.loop-k.rows in
    let share = c.share-share.result in
    let lk : k < length list = omega arith in
    record {
      each = ap length c.write.ensures.rows ∙ (length-set rows a.node.0 _ ∙ c.loop-k.invariant.each);
      worked =
          subst (λ xs. AreWorked q list k xs c.loop-k.total)
          (sym (c.write.ensures.rows ∙ ap (λ r. set rows a.node.0 (record { live = r.live + share.live; dark = r.dark + share.dark })) c.read-upper.ensures.row))
          (worked_more q c.requires.ready list c.requires.order rows k c.loop-k.k n c.loop-k.total lk (omega arith) refl c.loop-k.invariant.worked a (sym c.in-Some.is ∙ c.above.ensures) share c.loop-k.invariant.each
          (c.share-share.ensures ∙ ap (share_of (mark_at q.marks.now a.device.0) a.weight) c.read-row.ensures.row));
      steps =
          let s = c.loop-k.invariant.steps in
          let x = c.read-row.ensures.steps in
          let y = c.read-upper.ensures.steps in
          let z = c.write.ensures.steps in
          omega arith;
    }

pub overflow_add-total : goal.overflow_add-total
overflow_add-total g c =
    let q = c.args.self.now in
    let list = c.args.order.now in
    let k = c.loop-k.k - 1 in
    let n = node_at list k in
    let lk : k < length list = omega arith in
    let within = c.requires.order.within k lk in
    let small = worked_small q c.requires.ready list c.requires.order c.loop-k.rows c.loop-k.k c.loop-k.total (omega arith) c.loop-k.invariant.worked n within in
    let part = part_small q n (row_at c.loop-k.rows n) 2400000000000 small.live small.dark in
    let is = c.root_part-total.ensures ∙ ap (root_part q.grid.now n) c.read-row.ensures.row in
    let so_far = sum_small q c.requires.ready list c.requires.order c.loop-k.rows c.loop-k.k c.loop-k.total (omega arith) c.loop-k.invariant.worked in
    omega arith

pub loop-k-preserved : goal.loop-k-preserved
loop-k-preserved g c =
    let q = c.args.self.now in
    let list = c.args.order.now in
    let k = c.loop-k.k - 1 in
    let n = node_at list k in
    let lk : k < length list = omega arith in
    record {
      each = c.loop-k.invariant.each;
      worked =
          subst (λ x. AreWorked q list k c.loop-k.rows (c.loop-k.total + x))
          (sym (c.root_part-total.ensures ∙ ap (root_part q.grid.now n) c.read-row.ensures.row))
          (worked_root q c.requires.ready list c.requires.order c.loop-k.rows k c.loop-k.k n c.loop-k.total lk (omega arith) refl c.loop-k.invariant.worked (sym c.in-None.is ∙ c.above.ensures));
      steps =
          let s = c.loop-k.invariant.steps in
          let x = c.read-row.ensures.steps in
          omega arith;
    }

pub returns-clause-exact : goal.returns-clause-exact
returns-clause-exact g c =
    worked_exact c.args.self.now c.requires.ready c.args.order.now c.requires.order c.loop-k.rows c.loop-k.k c.loop-k.total (let end = c.loop-k-test.false in omega arith) c.loop-k.invariant.worked

pub returns-clause-total : goal.returns-clause-total
returns-clause-total g c =
    worked_total c.args.self.now c.requires.ready c.args.order.now c.requires.order c.loop-k.rows c.loop-k.k c.loop-k.total (let end = c.loop-k-test.false in omega arith) c.loop-k.invariant.worked
