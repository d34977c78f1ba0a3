use Rattle.std.proofs.Common.{false, get_or, refl, sym, ap, ◌∙◌, map}
use Rattle.diagnosis.proofs.Differing.{listed_push, passed_over}
use Rattle.diagnosis.proofs.judged.Judged.opened_list.Goals as goal
use Rattle.diagnosis.proofs.judged.Judged.opened_list.Goals.{then-is_opened+in_ok-push, else-is_opened}

pub loop-d-preserved : goal.loop-d-preserved
loop-d-preserved c =
    let opened = c.args.self.now.opened in
    elim c.if-is_opened.branch [
      | then-is_opened+in_ok-push w ↦
          ap (map (λ x. x.0)) (ap (λ v. v.items) w.list-is ∙ w.in_ok-push.ensures.items)
          ∙ listed_push (λ x. x.0) (λ k. get_or opened k false) c.loop-d.list.items c.loop-d.d (record { 0 = c.loop-d.d }) refl (ap (λ xs. get_or xs c.loop-d.d false) (sym (ap (λ j. j.opened) c.self.view_is) ∙ sym c.all-is_opened-items.ensures) ∙ w.if-is_opened.true) c.loop-d.invariant
      | else-is_opened w ↦
          ap (map (λ x. x.0)) (ap (λ v. v.items) w.list-is)
          ∙ passed_over (λ k. get_or opened k false) (map (λ x. x.0) c.loop-d.list.items) c.loop-d.d (ap (λ xs. get_or xs c.loop-d.d false) (sym (ap (λ j. j.opened) c.self.view_is) ∙ sym c.all-is_opened-items.ensures) ∙ w.if-is_opened.false) c.loop-d.invariant
    ]
