use Rattle.std.proofs.Common.{None, Some}
use Rattle.std.proofs.lemmas.Result.{err_from_is_err_and}
use Rattle.grid_reader.proofs.DraftRows.{name_first, excess_last}
use Rattle.grid_reader.proofs.draft.Draft.add.Goals as goal

pub returns-in_err-take-clause-broken : goal.returns-in_err-take-clause-broken
returns-in_err-take-clause-broken c = λ rows lines h.
    let p = err_from_is_err_and c.from_residual.result c.from_residual.ensures.1 in
    rw (p.1, p.2) (name_first rows c.args.row c.in_err-take.field-0.0 (c.in_err-take.ensures.broken rows lines h))

pub returns-in-Some-clause-broken : goal.returns-in-Some-clause-broken
returns-in-Some-clause-broken c = λ rows lines h.
    excess_last rows c.args.row (Some c.in-Some.rule) (c.in_ok-take.ensures.fresh rows lines h) (c.in-Some.ensures.rule _ _ (c.in_ok-take.ensures.held rows lines h))

pub returns-in-None-clause-kept : goal.returns-in-None-clause-kept
returns-in-None-clause-kept c = λ rows lines h.
    excess_last rows c.args.row None (c.in_ok-take.ensures.fresh rows lines h) (c.in-None.ensures.rule _ _ (c.in_ok-take.ensures.held rows lines h))
