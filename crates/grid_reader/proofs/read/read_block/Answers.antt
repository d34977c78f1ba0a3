-- What is told of each line, and what is read of it.
use Rattle.std.proofs.Common.{◌≡◌, ◌∙◌, sym, subst, arith}
use Rattle.line_text.specs.LineSorts.{IsTold}
use Rattle.grid_reader.proofs.GridSteps.{takes_line, block_refused, block_taken}
use Rattle.grid_reader.proofs.read.read_block.Goals as goal

pub returns-in-Err-clause-refused : goal.returns-in-Err-clause-refused
returns-in-Err-clause-refused c = λ text held behind are k at rule e.
    block_refused c.args.block.now c.lines.block c.read_line.new.self c.args.first c.lines.number c.args.draft.now c.lines.draft c.in-Some.sort c.in-Err.fault c.lines.invariant.takes
    (λ h. let none = c.in_ok-sort.ensures.end h in let some = c.in-Some.is in cc)
    (λ line rest h. (rw c.in-Some.is at (c.in_ok-sort.ensures.told line rest h), c.in_ok-sort.ensures.rest line rest h))
    (λ line rows lines t h. c.in-Err.ensures.broken line rows lines (subst (λ fields. IsTold c.in-Some.sort fields line) (sym c.row.ensures) t) h)
    text held behind are k at rule (let by = c.at.ensures in cc)

pub lines-preserved : goal.lines-preserved
lines-preserved c = record {
  takes = takes_line c.args.block.now c.lines.block c.read_line.new.self c.args.first c.lines.number c.args.draft.now c.lines.draft c.take_line.new.draft c.in-Some.sort c.lines.invariant.takes
      (λ h. let none = c.in_ok-sort.ensures.end h in let some = c.in-Some.is in cc)
      (λ line rest h. (rw c.in-Some.is at (c.in_ok-sort.ensures.told line rest h), c.in_ok-sort.ensures.rest line rest h))
      (λ line rows lines t h. c.in_default-take_line.ensures.read line rows lines (subst (λ fields. IsTold c.in-Some.sort fields line) (sym c.row.ensures) t) h);
  count = let one = rw c.in-Some.is at c.in_ok-sort.ensures.count in let sum = c.lines.invariant.count in omega arith;
  few_nodes = c.in_default-take_line.ensures.few;
}

pub returns-clause-read : goal.returns-clause-read
returns-clause-read c = λ text held behind are k.
    block_taken c.args.block.now c.lines.block c.args.first c.lines.number c.args.draft.now c.lines.draft c.lines.invariant.takes
    (λ line rest h. rw c.in_default.is at (c.in_ok-sort.ensures.told line rest h)) text held behind are k

pub returns-clause-count : goal.returns-clause-count
returns-clause-count c = let none = rw c.in_default.is at c.in_ok-sort.ensures.count in let sum = c.lines.invariant.count in omega arith
