use Rattle.std.proofs.Common.{◌≡◌, ◌+◌, Some, refl, sym, ap, ◌∙◌, subst, arith, get_or}
use Rattle.std.proofs.lemmas.Bool.{false≢true}
use Rattle.outage_rules.specs.Certificate.{other_end}
use Rattle.grid_model.specs.declared.parts.DeviceId.{DeviceId}
use Rattle.grid_model.specs.Network.{network_of}
use Rattle.radial_forest.specs.Traversed.{parent_in}
use Rattle.radial_forest.specs.Spreading.{switched}
use Rattle.radial_forest.proofs.Incident.{at_within, at_ends, place_of}
use Rattle.radial_forest.proofs.ListingSteps.{child_here}
use Rattle.diagnosis.specs.Judgement.{flag_in}
use Rattle.diagnosis.specs.Judging.{Aim, judging, IsUnderWay, IsRight, Leads}
use Rattle.diagnosis.proofs.Flagged.{same_some}
use Rattle.diagnosis.proofs.Below.{AreRightBelow, right_passed, right_more, other_is_end}
use Rattle.diagnosis.proofs.Turning.{leads_none, leads_on}
use Rattle.diagnosis.proofs.Walking.{room_for_one, step_leads, step_right}
use Rattle.diagnosis.proofs.settling.judge_below.Goals as goal
use Rattle.diagnosis.proofs.settling.judge_below.Goals.{then-hangs_by, else-hangs_by}

pub loop-d-init : goal.loop-d-init
loop-d-init g c = record {
  leads = λ w on. leads_none c.args.grid.now c.args.costs.now w _ on;
  right = λ w on j l m x lm e at up. absurd (omega arith);
  opened_begun = refl;
  dark_begun = refl;
  steps = omega arith;
}

pub other_end-m-requires : goal.other_end-m-requires
other_end-m-requires g c = at_within c.args.grid.now _ c.incident-d-items.result.now c.incident-d-items.ensures c.loop-d.d-index (omega arith)

pub judge_node-listed-requires-clause-room : goal.judge_node-listed-requires-clause-room
judge_node-listed-requires-clause-room g c =
    let w = c.requires.under_way in
    room_for_one c.args.grid.now c.args.costs.now w.0 _ _ (c.loop-d.invariant.leads w.0 w.1) c.requires.room

pub loop-d-preserved : goal.loop-d-preserved
loop-d-preserved g c =
    let p = c.args.grid.now in
    let k = c.args.costs.now in
    let net = switched p k.forest.closed in
    let n = c.args.n.0 in
    let xs = c.incident-d-items.result.now in
    let i = c.loop-d.d-index in
    let inv = c.loop-d.invariant in
    let r = c.requires.costed.posed.forest in
    let m = c.other_end-m.result in
    let y = get_or xs i (record { 0 = 0 }) in
    let within = at_within p n xs c.incident-d-items.ensures i (omega arith) in
    let ends = at_ends p n xs c.incident-d-items.ensures i (omega arith) in
    let start = judging c.args.flags.now.opened c.args.flags.now.dark c.args.turned.now c.args.count in
    let before = judging c.loop-d.flags.opened c.loop-d.flags.dark c.loop-d.turned c.loop-d.listed in
    let joined = judging c.if-hangs_by.flags.opened c.if-hangs_by.flags.dark c.if-hangs_by.turned c.if-hangs_by.listed in
    elim c.if-hangs_by.branch [
      | then-hangs_by w ↦
          let new = w.judge_node-listed.new in
          let after = judging new.flags.opened new.flags.dark new.turned w.judge_node-listed.result in
          let same : after ≡ joined =
          ap (λ x. judging new.flags.opened new.flags.dark new.turned x) (sym w.listed-is)
          ∙ ap (λ x. judging new.flags.opened new.flags.dark x c.if-hangs_by.listed) (sym w.turned-is)
          ∙ ap (λ x. judging x.opened x.dark c.if-hangs_by.turned c.if-hangs_by.listed) (sym w.flags-is) in
          let hangs = c.hangs_by.ensures.0 w.if-hangs_by.true in
          let child = child_here net k.forest n y.0 m r.sound within ends c.other_end-m.ensures hangs in
          let one = c.requires.under_way in
          let room = room_for_one p k one.0 start before (inv.leads one.0 one.1) c.requires.room in
          let above = λ (v : Aim) (on : IsUnderWay p k v start) (x : DeviceId) (e : parent_in k.forest.parents m.0 ≡ Some x).
          let is : other_end (network_of p) x.0 m.0 ≡ n = ap (λ (z : DeviceId). other_end (network_of p) z.0 m.0) (sym (same_some y x (sym hangs ∙ e))) ∙ child.1.upper in
          subst (λ u. flag_in before.dark u ≡ v.goal u) (sym is) ((inv.leads v on).dark n (c.requires.right v on)) in
          record {
            leads = λ v on.
                let f = inv.leads v on in
                subst (Leads p k v start) same (leads_on p k v start before after f (step_leads p k c.requires.costed v before after m.0 f.on child.0 room w.judge_node-listed.ensures.judged (above v on)));
            right = λ v on.
                let f = inv.leads v on in
                subst (λ s. AreRightBelow p k v s xs (i + 1) n) same
                (right_more p k c.requires.costed v before after xs i n (inv.right v on)
                (step_leads p k c.requires.costed v before after m.0 f.on child.0 room w.judge_node-listed.ensures.judged (above v on))
                (subst (IsRight k v after) c.other_end-m.ensures (step_right p k c.requires.costed v before after m.0 f.on child.0 room w.judge_node-listed.ensures.judged (above v on))));
            opened_begun = ap (λ x. x.opened.begun) w.flags-is ∙ w.judge_node-listed.ensures.opened_begun ∙ inv.opened_begun;
            dark_begun = ap (λ x. x.dark.begun) w.flags-is ∙ w.judge_node-listed.ensures.dark_begun ∙ inv.dark_begun;
            steps = (let a = inv.steps in let b = w.judge_node-listed.ensures.steps in let e = w.steps-is in omega arith);
          }
      | else-hangs_by w ↦
          let same : before ≡ joined =
          ap (λ x. judging c.loop-d.flags.opened c.loop-d.flags.dark c.loop-d.turned x) (sym w.listed-is)
          ∙ ap (λ x. judging c.loop-d.flags.opened c.loop-d.flags.dark x c.if-hangs_by.listed) (sym w.turned-is)
          ∙ ap (λ x. judging x.opened x.dark c.if-hangs_by.turned c.if-hangs_by.listed) (sym w.flags-is) in
          record {
            leads = λ v on. subst (Leads p k v start) same (inv.leads v on);
            right = λ v on.
                subst (λ s. AreRightBelow p k v s xs (i + 1) n) same
                (right_passed p k c.requires.costed v before before xs i n (inv.right v on) y refl
                (λ e. false≢true (sym w.if-hangs_by.false ∙ c.hangs_by.ensures.1 (ap (parent_in k.forest.parents) c.other_end-m.ensures ∙ e))));
            opened_begun = ap (λ x. x.opened.begun) w.flags-is ∙ inv.opened_begun;
            dark_begun = ap (λ x. x.dark.begun) w.flags-is ∙ inv.dark_begun;
            steps = (let a = inv.steps in let e = w.steps-is in omega arith);
          }
    ]

pub returns-clause-right : goal.returns-clause-right
returns-clause-right g c = λ w on m x l e above.
    let p = c.args.grid.now in
    let k = c.args.costs.now in
    let q = place_of p c.args.n.0 c.incident-d-items.result.now c.incident-d-items.ensures x.0 (c.requires.costed.posed.forest.rooted.parent m x l e).within (other_is_end (network_of p) x.0 m c.args.n.0 above) in
    c.loop-d.invariant.right w on q.0 (let lq = q.1 in omega arith) m x l e (sym q.2) above
