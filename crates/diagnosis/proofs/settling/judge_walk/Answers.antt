use Rattle.std.proofs.Common.{◌≢◌, ◌<◌, ◌-◌, refl, sym, ◌∙◌, subst, ⊎_elim, arith, length}
use Rattle.std.proofs.lemmas.Bool.{cases_eq}
use Rattle.radial_forest.specs.Traversed.{node_at}
use Rattle.diagnosis.specs.Judging.{judging, IsRight}
use Rattle.diagnosis.proofs.Turning.{leads_none, leads_on, right_still}
use Rattle.diagnosis.proofs.Walking.{room_for_one, step_leads, step_right, walk_above}
use Rattle.diagnosis.proofs.settling.judge_walk.Goals as goal

pub loop-k-init : goal.loop-k-init
loop-k-init g c = record {
  leads = λ w on. leads_none c.args.grid.now c.args.costs.now w _ on;
  right = λ w on j l m. absurd (omega arith);
  opened_begun = refl;
  dark_begun = refl;
  steps = omega arith;
}

pub judge_node-listed-requires-clause-room : goal.judge_node-listed-requires-clause-room
judge_node-listed-requires-clause-room g c =
    let w = c.requires.under_way in
    room_for_one c.args.grid.now c.args.costs.now w.0 _ _ (c.loop-k.invariant.leads w.0 w.1) c.requires.room

pub loop-k-preserved : goal.loop-k-preserved
loop-k-preserved g c =
    let p = c.args.grid.now in
    let k = c.args.costs.now in
    let walk = c.args.walk.now in
    let inv = c.loop-k.invariant in
    let j = c.loop-k.k - 1 in
    let n = node_at walk j in
    let before = judging c.loop-k.flags.opened c.loop-k.flags.dark c.loop-k.turned c.loop-k.listed in
    let after = judging c.judge_node-listed.new.flags.opened c.judge_node-listed.new.flags.dark c.judge_node-listed.new.turned c.judge_node-listed.result in
    let lj : j < length walk = omega arith in
    let ln = c.requires.walk.within j lj in
    let one = c.requires.under_way in
    let room = room_for_one p k one.0 _ before (inv.leads one.0 one.1) c.requires.room in
    record {
      leads = λ w on.
          let f = inv.leads w on in
          let above = walk_above p k c.requires.costed w before after walk c.requires.walk j lj (λ i l li. inv.right w on i (omega arith) li) in
          leads_on p k w _ before after f (step_leads p k c.requires.costed w before after n f.on ln room c.judge_node-listed.ensures.judged above);
      right = λ w on i l li.
          let f = inv.leads w on in
          let above = walk_above p k c.requires.costed w before after walk c.requires.walk j lj (λ i l li. inv.right w on i (omega arith) li) in
          let g' = step_leads p k c.requires.costed w before after n f.on ln room c.judge_node-listed.ensures.judged above in
          ⊎_elim
          (λ e. subst (λ x. IsRight k w after (node_at walk x)) (sym e) (step_right p k c.requires.costed w before after n f.on ln room c.judge_node-listed.ensures.judged above))
          (λ ne. right_still p k w before after (node_at walk i) g' (inv.right w on i (let x : i ≢ j = ne in omega arith) li))
          (cases_eq i j);
      opened_begun = c.judge_node-listed.ensures.opened_begun ∙ inv.opened_begun;
      dark_begun = c.judge_node-listed.ensures.dark_begun ∙ inv.dark_begun;
      steps = (let a = inv.steps in let b = c.judge_node-listed.ensures.steps in omega arith);
    }

pub returns-clause-right : goal.returns-clause-right
returns-clause-right g c = λ w on j l. c.loop-k.invariant.right w on j (omega arith) l
