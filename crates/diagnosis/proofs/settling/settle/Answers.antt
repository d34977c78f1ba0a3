use Rattle.std.proofs.Common.{sym, ◌∙◌, arith, List, Bool}
use Rattle.grid_model.specs.Parts.{Parts}
use Rattle.subtree_costs.specs.Costed.{Costed, IsCosted}
use Rattle.diagnosis.specs.Judgement.{flag_in}
use Rattle.diagnosis.specs.Judging.{Aim, judging}
use Rattle.diagnosis.proofs.Turning.{right_still}
use Rattle.diagnosis.proofs.Reached.{some_agree, starts, disagree_at, settled}
use Rattle.diagnosis.proofs.settling.settle.Goals as goal

-- from these flags to some that agree everywhere
abbrev aim_from : (g : Parts) (c : Costed) → IsCosted g c → List Bool → List Bool → Aim
aim_from g c costed o d = record { opened = o; dark = d; cut = flag_in (some_agree g c costed).0; goal = flag_in (some_agree g c costed).1 }

pub judge_walks-listed-requires-clause-under_way : goal.judge_walks-listed-requires-clause-under_way
judge_walks-listed-requires-clause-under_way g c =
    let p = c.args.grid.now in
    let k = c.args.costs.now in
    let w = aim_from p k c.requires.costed c.args.flags.now.opened.flags c.args.flags.now.dark.flags in
    (w, starts p k c.requires.costed w c.args.turned.now (some_agree p k c.requires.costed).2 c.requires.opened c.requires.dark)

pub judge_all_below-requires-clause-under_way : goal.judge_all_below-requires-clause-under_way
judge_all_below-requires-clause-under_way g c =
    let p = c.args.grid.now in
    let k = c.args.costs.now in
    let w = aim_from p k c.requires.costed c.args.flags.now.opened.flags c.args.flags.now.dark.flags in
    let on = starts p k c.requires.costed w c.args.turned.now (some_agree p k c.requires.costed).2 c.requires.opened c.requires.dark in
    (w, (c.judge_walks-listed.ensures.leads w on).on)

pub returns-clause-agree : goal.returns-clause-agree
returns-clause-agree g c =
    let p = c.args.grid.now in
    let k = c.args.costs.now in
    let w = aim_from p k c.requires.costed c.args.flags.now.opened.flags c.args.flags.now.dark.flags in
    let on = starts p k c.requires.costed w c.args.turned.now (some_agree p k c.requires.costed).2 c.requires.opened c.requires.dark in
    let first = c.judge_walks-listed in
    let last = c.judge_all_below in
    let mid = judging first.new.flags.opened first.new.flags.dark first.new.turned first.result in
    let end = judging last.new.flags.opened last.new.flags.dark last.new.turned last.result in
    let half = (first.ensures.leads w on).on in
    let leads = last.ensures.leads w half in
    settled p k c.requires.costed w end leads.on
    (λ n l no. right_still p k w mid end n leads (first.ensures.right w on n (disagree_at p k c.requires.costed (flag_in w.opened) (flag_in w.dark) c.args.places.now c.requires.elsewhere n l no)))
    (λ u t m x lm e up. let a = leads.on.turned.all u t in last.ensures.right w half a.0 a.1 m x lm e (up ∙ sym a.2))
    c.requires.open_ones

pub returns-clause-opened : goal.returns-clause-opened
returns-clause-opened g c =
    let p = c.args.grid.now in
    let k = c.args.costs.now in
    let w = aim_from p k c.requires.costed c.args.flags.now.opened.flags c.args.flags.now.dark.flags in
    let on = starts p k c.requires.costed w c.args.turned.now (some_agree p k c.requires.costed).2 c.requires.opened c.requires.dark in
    (c.judge_all_below.ensures.leads w (c.judge_walks-listed.ensures.leads w on).on).on.opened_each

pub returns-clause-dark : goal.returns-clause-dark
returns-clause-dark g c =
    let p = c.args.grid.now in
    let k = c.args.costs.now in
    let w = aim_from p k c.requires.costed c.args.flags.now.opened.flags c.args.flags.now.dark.flags in
    let on = starts p k c.requires.costed w c.args.turned.now (some_agree p k c.requires.costed).2 c.requires.opened c.requires.dark in
    (c.judge_all_below.ensures.leads w (c.judge_walks-listed.ensures.leads w on).on).on.dark_each

pub returns-clause-steps : goal.returns-clause-steps
returns-clause-steps g c =
    let p = c.args.grid.now in
    let k = c.args.costs.now in
    let w = aim_from p k c.requires.costed c.args.flags.now.opened.flags c.args.flags.now.dark.flags in
    let on = starts p k c.requires.costed w c.args.turned.now (some_agree p k c.requires.costed).2 c.requires.opened c.requires.dark in
    let a = c.judge_walks-listed.ensures.steps in
    let b = c.judge_all_below.ensures.steps w (c.judge_walks-listed.ensures.leads w on).on in
    omega arith
