-- The lines of each block, and what stands behind them.
use Rattle.std.proofs.Common.{rules, arith, ◌≡◌, ◌==◌, true, length}
use Rattle.std.proofs.lemmas.Bool.{eqb-true}
use Rattle.std.proofs.lemmas.List.{nil_from_length}
use Rattle.event_rules.specs.Lines.{lines}
use Rattle.grid_reader.proofs.GridSteps.{of_block, all_taken}
use Rattle.grid_reader.proofs.read.read_draft.Goals as goal

pub returns-in_err-number-clause-refused : goal.returns-in_err-number-clause-refused
returns-in_err-number-clause-refused c = λ line rule e.
    let first = c.in_ok-rest.ensures.held in
    let left = c.reader-lines.ensures.left first.held first.holds in
    let continues = of_block c.args.bytes.now (lines c.blocks-2.rest.now) first.held (lines c.in_ok-rest.rest.now) c.blocks-2.number c.blocks-2.draft first.first c.blocks-2.invariant.continues in
    c.in_err-number.ensures.refused c.args.bytes.now first.held (lines c.in_ok-rest.rest.now) left continues line rule (search rules)

pub blocks-2-preserved : goal.blocks-2-preserved
blocks-2-preserved c =
    let first = c.in_ok-rest.ensures.held in
    let left = c.reader-lines.ensures.left first.held first.holds in
    let continues = of_block c.args.bytes.now (lines c.blocks-2.rest.now) first.held (lines c.in_ok-rest.rest.now) c.blocks-2.number c.blocks-2.draft first.first c.blocks-2.invariant.continues in
    let count = c.reader-lines.ensures.count first.held first.holds in
    let next = c.in_ok-number.ensures.count in
    let few = first.few in
    let before = c.blocks-2.invariant.few_lines in
    record {
      continues = c.in_ok-number.ensures.read c.args.bytes.now first.held (lines c.in_ok-rest.rest.now) left continues;
      few_lines = omega arith;
      few_nodes = c.in_ok-number.ensures.few;
    }

pub returns-clause-draft : goal.returns-clause-draft
returns-clause-draft c =
    let none : (length c.blocks-2.rest.now == 0) ≡ true = search rules in
    all_taken c.args.bytes.now c.blocks-2.rest.now c.blocks-2.number c.blocks-2.draft c.blocks-2.invariant.continues
    (nil_from_length c.blocks-2.rest.now (eqb-true (length c.blocks-2.rest.now) 0 none))
