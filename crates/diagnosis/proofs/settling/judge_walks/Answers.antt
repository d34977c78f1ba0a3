use Rattle.std.proofs.Common.{ℕ, ◌<◌, ◌+◌, refl, ◌∙◌, subst, arith, take, below_more}
use Rattle.radial_forest.specs.Traversed.{node_at}
use Rattle.radial_forest.specs.Spreading.{switched}
use Rattle.subtree_costs.specs.Trees.{depth_in}
use Rattle.subtree_costs.specs.Walks.{IsOnWalk}
use Rattle.diagnosis.specs.Judging.{judging, IsRight}
use Rattle.diagnosis.proofs.Climbing.{walk_up, front_long, front_at}
use Rattle.diagnosis.proofs.Working.{total_more}
use Rattle.diagnosis.proofs.Turning.{leads_none, leads_on, right_still}
use Rattle.diagnosis.proofs.settling.judge_walks.Goals as goal

pub loop-p-init : goal.loop-p-init
loop-p-init g c = record {
  walk = c.requires.walk;
  leads = λ w on. leads_none c.args.grid.now c.args.costs.now w _ on;
  right = λ w on i l n o. absurd (omega arith);
  opened_begun = refl;
  dark_begun = refl;
  steps = omega arith;
}

pub judge_walk-listed-requires-clause-walk : goal.judge_walk-listed-requires-clause-walk
judge_walk-listed-requires-clause-walk g c =
    let l = c.list_walk-long in
    let count = l.result in
    let long = front_long l.new.walk count l.ensures.within in
    walk_up c.args.grid.now c.args.costs.now c.requires.costed (node_at c.args.places.now c.loop-p.p-index) (c.requires.places c.loop-p.p-index (record { 0 = 0 }) c.loop-p-test.true)
    (take count l.new.walk) (long ∙ l.ensures.count)
    (λ k lk. let li : k < count = omega arith in front_at l.new.walk count k li ∙ l.ensures.nodes k li)

pub loop-p-preserved : goal.loop-p-preserved
loop-p-preserved g c =
    let p = c.args.grid.now in
    let k = c.args.costs.now in
    let net = switched p k.forest.closed in
    let i = c.loop-p.p-index in
    let n = node_at c.args.places.now i in
    let inv = c.loop-p.invariant in
    let l = c.list_walk-long in
    let j = c.judge_walk-listed in
    let count = l.result in
    let long = front_long l.new.walk count l.ensures.within in
    let start = judging c.args.flags.now.opened c.args.flags.now.dark c.args.turned.now 0 in
    let before = judging c.loop-p.flags.opened c.loop-p.flags.dark c.loop-p.turned c.loop-p.listed in
    let after = judging j.new.flags.opened j.new.flags.dark j.new.turned j.result in
    record {
      walk = l.auto.walk ∙ inv.walk;
      leads = λ w on. leads_on p k w start before after (inv.leads w on) (j.ensures.leads w (inv.leads w on).on);
      right = λ w on. below_more (λ x. (m : ℕ) → IsOnWalk net k.forest (node_at c.args.places.now x) m → IsRight k w after m) i
          (λ x lx m o. right_still p k w before after m (j.ensures.leads w (inv.leads w on).on) (inv.right w on x lx m o))
          (λ m o. let le = o.1 in
          let is = l.ensures.count in
          let lx : o.0 < count = omega arith in
          subst (IsRight k w after) (front_at l.new.walk count o.0 lx ∙ l.ensures.nodes o.0 lx ∙ o.2) (j.ensures.right w (inv.leads w on).on o.0 (omega arith)));
      opened_begun = j.ensures.opened_begun ∙ inv.opened_begun;
      dark_begun = j.ensures.dark_begun ∙ inv.dark_begun;
      steps = (let a = inv.steps in
          let b = j.ensures.steps in
          let e = l.ensures.count in
          let t = total_more i (λ x. depth_in net k.forest (node_at c.args.places.now x) + 1) in
          omega arith);
    }

pub returns-clause-right : goal.returns-clause-right
returns-clause-right g c = λ w on n o. c.loop-p.invariant.right w on o.0 (let l = o.1 in omega arith) n o.2
