use Rattle.std.proofs.Common.{sym, ap, ◌∙◌, subst, length}
use Rattle.diagnosis.specs.Judgement.{Agree, flag_in}
use Rattle.diagnosis.proofs.judged.Judged.recompute.Goals as goal

pub returns-clause-diagnosis : goal.returns-clause-diagnosis
returns-clause-diagnosis g c =
    let f = c.flag_all.ensures in
    let e = c.put_in_order.ensures.flags in
    c.judged_tells_diagnosis.ensures c.args.grid.now c.args.costs.now _ c.requires.costed (record {
      sized = record { opened = ap length e ∙ f.opened; dark = f.dark };
      agree = subst (λ o. Agree c.args.grid.now c.args.costs.now (flag_in o) (flag_in c.flag_all.new.flags.dark.flags)) (sym e) f.agree;
    })
