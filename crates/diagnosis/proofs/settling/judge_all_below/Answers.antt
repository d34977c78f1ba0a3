use Rattle.std.proofs.Common.{◌≡◌, ℕ, ◌<◌, Some, refl, ap, ◌∙◌, arith, length, below_more}
use Rattle.outage_rules.specs.Sum.{total}
use Rattle.outage_rules.specs.Certificate.{other_end}
use Rattle.outage_rules.proofs.Sums.{total_same}
use Rattle.grid_model.specs.declared.parts.DeviceId.{DeviceId}
use Rattle.grid_model.specs.Places.{devices_at}
use Rattle.grid_model.specs.Network.{network_of}
use Rattle.radial_forest.specs.Traversed.{parent_in, node_at}
use Rattle.diagnosis.specs.Watched.{differ_at}
use Rattle.diagnosis.specs.Judging.{judging, IsRight}
use Rattle.diagnosis.proofs.Working.{total_more, listed_total}
use Rattle.diagnosis.proofs.Turning.{leads_none, leads_on, right_still, few_turned, turned_within, turned_right}
use Rattle.diagnosis.proofs.settling.judge_all_below.Goals as goal

pub loop-place-init : goal.loop-place-init
loop-place-init g c =
    let one = c.requires.under_way in
    record {
      leads = λ w on. leads_none c.args.grid.now c.args.costs.now w _ on;
      right = λ w on j l m x lm e up. absurd (omega arith);
      ahead = omega arith;
      few = few_turned c.args.grid.now c.args.costs.now one.0 _ one.1;
      room = c.requires.room;
      opened_begun = refl;
      dark_begun = refl;
      steps = omega arith;
    }

pub judge_below-listed-requires-clause-node : goal.judge_below-listed-requires-clause-node
judge_below-listed-requires-clause-node g c =
    let one = c.requires.under_way in
    turned_within c.args.grid.now c.args.costs.now one.0 _ (c.loop-place.invariant.leads one.0 one.1).on c.loop-place.place c.loop-place-test.true

pub judge_below-listed-requires-clause-right : goal.judge_below-listed-requires-clause-right
judge_below-listed-requires-clause-right g c = λ w on. turned_right c.args.grid.now c.args.costs.now w _ on c.loop-place.place c.loop-place-test.true

pub loop-place-smaller : goal.loop-place-smaller
loop-place-smaller g c = let e = c.judge_below-listed.auto.turned in let r = c.loop-place.invariant.room in let f = c.loop-place.invariant.few in omega arith

pub loop-place-preserved : goal.loop-place-preserved
loop-place-preserved g c =
    let p = c.args.grid.now in
    let k = c.args.costs.now in
    let i = c.loop-place.place in
    let inv = c.loop-place.invariant in
    let j = c.judge_below-listed in
    let one = c.requires.under_way in
    let start = judging c.args.flags.now.opened c.args.flags.now.dark c.args.turned.now c.args.count in
    let before = judging c.loop-place.flags.opened c.loop-place.flags.dark c.loop-place.turned c.loop-place.listed in
    let after = judging j.new.flags.opened j.new.flags.dark j.new.turned j.result in
    let h = j.ensures.leads one.0 (inv.leads one.0 one.1).on in
    let more = h.longer in
    let at = c.loop-place-test.true in
    record {
      leads = λ w on. leads_on p k w start before after (inv.leads w on) (j.ensures.leads w (inv.leads w on).on);
      right = λ w on. below_more (λ y. (m : ℕ) (x : DeviceId) → m < length p.nodes → parent_in k.forest.parents m ≡ Some x → other_end (network_of p) x.0 m ≡ node_at j.new.turned y → IsRight k w after m) i
          (λ y ly m x lm e up. right_still p k w before after m (j.ensures.leads w (inv.leads w on).on) (inv.right w on y ly m x lm e (up ∙ h.places y (omega arith))))
          (λ m x lm e up. j.ensures.right w (inv.leads w on).on m x lm e (up ∙ h.places i at));
      ahead = omega arith;
      few = few_turned p k one.0 after h.on;
      room = j.auto.turned ∙ inv.room;
      opened_begun = j.ensures.opened_begun ∙ inv.opened_begun;
      dark_begun = j.ensures.dark_begun ∙ inv.dark_begun;
      steps = (let a = inv.steps in
          let b = j.ensures.steps in
          let t = total_more i (λ y. length (devices_at p (node_at j.new.turned y))) in
          let s = total_same i (λ y. length (devices_at p (node_at j.new.turned y))) (λ y. length (devices_at p (node_at c.loop-place.turned y))) (λ y ly. ap (λ v. length (devices_at p v)) (h.places y (omega arith))) in
          let e = ap (λ v. length (devices_at p v)) (h.places i at) in
          omega arith);
    }

pub returns-clause-right : goal.returns-clause-right
returns-clause-right g c = λ w on j l. c.loop-place.invariant.right w on j (let e = c.loop-place-test.false in omega arith)

pub returns-clause-steps : goal.returns-clause-steps
returns-clause-steps g c = λ w on.
    let p = c.args.grid.now in
    let inv = c.loop-place.invariant in
    let f = (inv.leads w on).on in
    let here : c.loop-place.place ≡ c.loop-place.listed = (let a = inv.ahead in let b = c.loop-place-test.false in omega arith) in
    let all = listed_total c.loop-place.listed (length p.nodes) (node_at c.loop-place.turned) (λ n. length (devices_at p n)) (differ_at w.dark c.loop-place.flags.dark.flags)
    (λ i l. turned_within p c.args.costs.now w _ f i l) f.turned.each f.turned.once in
    let same = ap (λ x. total x (λ j. length (devices_at p (node_at c.loop-place.turned j)))) here in
    let steps = inv.steps in
    omega arith
