use Rattle.std.proofs.Common.{◌<◌, ◌+◌, sym, ap, ◌∙◌, subst, arith, length, set}
use Rattle.std.proofs.lemmas.Bool.{false≢true}
use Rattle.std.proofs.lemmas.List.{length-set}
use Rattle.radial_forest.specs.Spreading.{switched}
use Rattle.subtree_costs.specs.Listing.{AreTops}
use Rattle.subtree_costs.proofs.Listed.{tops_none, tops_passed, tops_more, listing_tops}
use Rattle.subtree_costs.proofs.order.list_tops.Goals as goal
use Rattle.subtree_costs.proofs.order.list_tops.Goals.{then-is_root, else-is_root}

pub loop-n-init : goal.loop-n-init
loop-n-init c = record { tops = tops_none (switched c.args.grid.now c.args.forest.now.closed) c.args.forest.now.parents c.args.list.now; long = c.requires.room }

pub loop-n-preserved : goal.loop-n-preserved
loop-n-preserved c =
    let f = c.args.forest.now in
    let net = switched c.args.grid.now f.closed in
    let list = c.loop-n.list in
    let count = c.loop-n.count in
    let n = c.loop-n.n in
    let inv = c.loop-n.invariant in
    elim c.if-is_root.branch [
      | then-is_root w ↦
          let few = inv.tops.few in
          let long = inv.long in
          let last = c.loop-n.auto.n-end in
          let all = c.nodes-n-end.ensures.count in
          let test = c.loop-n-test.true in
          let room : count < length list = omega arith in
          record {
            tops = subst (λ x. AreTops net f.parents x c.if-is_root.count (n + 1)) (sym w.list-is)
                (subst (λ k. AreTops net f.parents (set list count (record { 0 = n })) k (n + 1)) (sym w.count-is)
                (tops_more net f.parents list count (record { 0 = n }) room (c.is_root.ensures.0 w.if-is_root.true) inv.tops));
            long = ap length w.list-is ∙ (length-set list count (record { 0 = n }) ∙ inv.long);
          }
      | else-is_root w ↦
          record {
            tops = subst (λ x. AreTops net f.parents x c.if-is_root.count (n + 1)) (sym w.list-is)
                (subst (λ k. AreTops net f.parents list k (n + 1)) (sym w.count-is)
                (tops_passed net f.parents list count n (λ e. false≢true (sym w.if-is_root.false ∙ c.is_root.ensures.1 e)) inv.tops));
            long = ap length w.list-is ∙ inv.long;
          }
    ]

pub returns-clause-listing : goal.returns-clause-listing
returns-clause-listing c =
    listing_tops (switched c.args.grid.now c.args.forest.now.closed) c.args.forest.now.parents c.loop-n.list c.loop-n.count c.loop-n.n (let last = c.loop-n.auto.n-end in let all = c.nodes-n-end.ensures.count in let end = c.loop-n-test.false in omega arith) c.loop-n.invariant.tops
