use Rattle.std.proofs.Common.{suc, cond, get_or, sym, ap, ◌∙◌, length, arith}
use Rattle.grid_model.specs.Places.{is_source}
use Rattle.outage_rules.proofs.Sums.{total_le_more}
use Rattle.diagnosis.proofs.sums.total_at_sources.Goals as goal

pub overflow_add-total : goal.overflow_add-total
overflow_add-total c =
    let part = total_le_more (suc c.loop-n.n) (length c.args.grid.now.nodes) (λ n. cond (is_source c.args.grid.now n) (get_or c.args.rows.now n 0) 0) (omega arith) in
    let here = ap (λ b. cond b (get_or c.args.rows.now c.loop-n.n 0) 0) (sym c.is_source.ensures ∙ c.if-is_source.true) in
    let so_far = c.loop-n.invariant in
    omega arith
