use Rattle.std.proofs.Common.{[], arith}
use Rattle.outage_rules.specs.Certificate.{choice}
use Rattle.grid_model.specs.Network.{network_of}
use Rattle.grid_model.specs.Problem.{problem_of}
use Rattle.bound_checker.specs.Claimed.{table_in}
use Rattle.bound_checker.proofs.Added.{add_child}
use Rattle.bound_checker.proofs.children.add_choices.Goals as goal

pub loop-m-preserved : goal.loop-m-preserved
loop-m-preserved c =
    record {
      sums = λ n l. add_child (network_of c.args.grid.now) (table_in c.args.claims.now) (choice (problem_of c.args.grid.now [] c.args.marks.now [] []) (table_in c.args.claims.now)) c.loop-m.m n c.loop-m.sums c.add_choice.new.sums (omega arith) c.add_choice.ensures.child c.add_choice.ensures.other (c.loop-m.invariant.sums n l);
      small = λ n l. let a = c.add_choice.ensures.grows n in let b = c.loop-m.invariant.small n l in omega arith;
    }
