use Rattle.std.proofs.Common.{◌≡◌, false, ap, ◌∙◌, ⊎_elim, arith, below_more, length}
use Rattle.std.proofs.lemmas.Bool.{cases_lt}
use Rattle.std.proofs.lemmas.List.{length-set, get_or-set_same, get_or-set_other, get_or_past}
use Rattle.diagnosis.specs.Judgement.{flag_in}
use Rattle.diagnosis.proofs.flags.close_all.Goals as goal

pub loop-d-preserved : goal.loop-d-preserved
loop-d-preserved c =
    let before = c.loop-d.opened.flags in
    let d = c.loop-d.d in
    let inv = c.loop-d.invariant in
    let is = c.set.ensures.flags in
    let count = c.devices-d-end.ensures in
    let each = inv.each in
    record {
      each = ap length is ∙ length-set before d false ∙ inv.each;
      none = below_more (λ k. flag_in c.set.new.self.flags k ≡ false) d
          (λ k l. ap (λ xs. flag_in xs k) is ∙ get_or-set_other before d k false false (λ e. absurd (omega arith)) ∙ inv.none k l)
          (ap (λ xs. flag_in xs d) is ∙ get_or-set_same before d false false (omega arith));
      begun = c.set.ensures.begun ∙ inv.begun;
    }

pub returns-clause-none : goal.returns-clause-none
returns-clause-none c = λ d.
    let inv = c.loop-d.invariant in
    let each = inv.each in
    let count = c.devices-d-end.ensures in
    ⊎_elim
    (λ l. inv.none d l)
    (λ l. get_or_past c.loop-d.opened.flags d false (omega arith))
    (cases_lt d c.loop-d.d)
