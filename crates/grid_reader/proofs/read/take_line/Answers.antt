-- A line that isn't skipped, and the row that it is.
use Rattle.std.proofs.Common.{rules, ◌≡◌, sym}
use Rattle.line_text.specs.declared.sorts.LineSort.TheVariants as told
use Rattle.grid_reader.proofs.GridSteps.{told_said, row_taken, row_refused}
use Rattle.grid_reader.proofs.RowSteps.{row_read}
use Rattle.grid_reader.proofs.read.take_line.Goals as goal

pub returns-clause-read : goal.returns-clause-read
returns-clause-read c = λ line rows lines t h.
    let counts : c.args.sort ≡ told.Skipped → ⊥ = search rules in
    row_taken c.add.result c.add.new.self rows lines c.args.number line c.in_ok-row.row (told_said c.args.sort _ line counts t)
    (row_read _ _ (c.in_ok-row.ensures line t)) (c.add.ensures.kept rows lines h) (c.add.ensures.held rows lines h)

pub returns-clause-broken : goal.returns-clause-broken
returns-clause-broken c = λ line rows lines t h.
    let counts : c.args.sort ≡ told.Skipped → ⊥ = search rules in
    row_refused c.add.result rows lines c.args.number line c.in_ok-row.row (told_said c.args.sort _ line counts t)
    (row_read _ _ (c.in_ok-row.ensures line t)) (c.add.ensures.broken rows lines h)
