use Rattle.std.proofs.Common.{◌+◌, set, sym, subst, ap, ◌∙◌}
use Rattle.outage_rules.specs.Certificate.{is_child}
use Rattle.subtree_costs.specs.Repairs.{problem_at, table_at, share_at, AreDue}
use Rattle.subtree_costs.proofs.Repairing.{row_changed}
use Rattle.subtree_costs.proofs.posed.Posed.change_row.Goals as goal

pub returns-clause-due : goal.returns-clause-due
returns-clause-due g c =
    let q = c.args.self.now in
    let n = c.args.n.0 in
    let read = c.read-before.ensures.row in
    let r = c.replaced-after.result in
    subst (λ rows. AreDue (problem_at q) (table_at q rows) (λ m. is_child (problem_at q).net (table_at q rows) m n) (share_at q n c.read-before.result) (share_at q n r)) (sym c.write.ensures.rows)
    (subst (λ x. AreDue (problem_at q) (table_at q (set c.args.rows.now n r)) (λ m. is_child (problem_at q).net (table_at q (set c.args.rows.now n r)) m n) (share_at q n x) (share_at q n r)) (sym read)
    (row_changed q c.requires.ready c.args.rows.now n c.args.change r c.requires.node c.requires.each c.requires.due
    (c.replaced-after.ensures.live ∙ ap (λ x. x.live + c.args.change.after.live) read)
    (c.replaced-after.ensures.dark ∙ ap (λ x. x.dark + c.args.change.after.dark) read)))
