use Rattle.std.proofs.Common.{slice_index, sym, subst, arith}
use Rattle.outage_rules.specs.Diagnosis.{IsLeastCost}
use Rattle.grid_model.specs.Network.{problem_with}
use Rattle.diagnosis.proofs.Summing.{sources_are_least, sources_are_small}
use Rattle.diagnosis.proofs.sums.least_by_rows.Goals as goal

pub total_at_sources-requires-clause-fits : goal.total_at_sources-requires-clause-fits
total_at_sources-requires-clause-fits c =
    let small = sources_are_small c.args.grid.now c.args.rows.now c.args.traversal.now c.requires.sound c.requires.traversed c.requires.each c.requires.bound c.add_up.new.rows c.add_up.ensures in
    let bound = c.requires.bound in
    omega arith

pub returns : goal.returns
returns c =
    subst (IsLeastCost (problem_with c.args.grid.now (λ n. slice_index c.args.rows.now n))) (sym c.total_at_sources.ensures)
    (sources_are_least c.args.grid.now c.args.rows.now c.args.traversal.now c.requires.sound c.requires.traversed c.requires.each c.requires.bound c.add_up.new.rows c.add_up.ensures)
