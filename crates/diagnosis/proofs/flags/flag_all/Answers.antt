use Rattle.std.proofs.Common.{◌<◌, refl, subst, ap, ◌∙◌, arith, length}
use Rattle.radial_forest.specs.Traversed.{node_at}
use Rattle.diagnosis.specs.Judging.{IsNext}
use Rattle.diagnosis.proofs.Flagged.{AreFlagged, flagged_none, flagged_next, flagged_all}
use Rattle.diagnosis.proofs.flags.flag_all.Goals as goal

pub loop-n-init : goal.loop-n-init
loop-n-init g c = record {
  flagged = flagged_none c.args.grid.now c.args.costs.now c.requires.costed c.close_all.new.opened.flags c.args.flags.now.dark.flags c.close_all.ensures.each c.requires.dark c.close_all.ensures.none;
  opened_begun = c.close_all.ensures.begun;
  dark_begun = refl;
  steps = omega arith;
}

pub loop-n-preserved : goal.loop-n-preserved
loop-n-preserved g c =
    let grid = c.args.grid.now in
    let costs = c.args.costs.now in
    let k = c.loop-n.n-index in
    let within = subst (λ xs. k < length xs) c.order-n-items.ensures c.loop-n-test.true in
    let here = ap (λ xs. node_at xs k) c.order-n-items.ensures in
    let new = c.flag_node.new.flags in
    record {
      flagged = flagged_next grid costs c.requires.costed k within c.loop-n.flags.opened.flags c.loop-n.flags.dark.flags new.opened.flags new.dark.flags c.loop-n.invariant.flagged
          (subst (λ n. IsNext grid costs n c.loop-n.flags.opened.flags c.loop-n.flags.dark.flags new.opened.flags new.dark.flags) here c.flag_node.ensures.next);
      opened_begun = c.flag_node.ensures.opened_begun ∙ c.loop-n.invariant.opened_begun;
      dark_begun = c.flag_node.ensures.dark_begun ∙ c.loop-n.invariant.dark_begun;
      steps = (let a = c.loop-n.invariant.steps in let b = c.flag_node.ensures.steps in omega arith);
    }

pub returns-clause-agree : goal.returns-clause-agree
returns-clause-agree g c =
    let grid = c.args.grid.now in
    let costs = c.args.costs.now in
    let count = ap length c.order-n-items.ensures in
    flagged_all grid costs c.requires.costed c.loop-n.flags.opened.flags c.loop-n.flags.dark.flags
    (subst (λ k. AreFlagged grid costs k c.loop-n.flags.opened.flags c.loop-n.flags.dark.flags) (omega arith) c.loop-n.invariant.flagged)

pub returns-clause-steps : goal.returns-clause-steps
returns-clause-steps g c =
    let a = c.loop-n.invariant.steps in
    let count = ap length c.order-n-items.ensures in
    let each = c.requires.costed.order_each in
    omega arith
