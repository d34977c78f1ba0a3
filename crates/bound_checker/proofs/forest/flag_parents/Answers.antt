use Rattle.std.proofs.Common.{◌≡◌, ◌<◌, true, false, length, get_or, sym, ap, ◌∙◌, arith}
use Rattle.outage_rules.specs.Certificate.{has_parent}
use Rattle.grid_model.specs.Network.{network_of}
use Rattle.bound_checker.specs.Claimed.{table_in}
use Rattle.bound_checker.proofs.Added.{flag_none, flag_one}
use Rattle.bound_checker.proofs.forest.flag_parents.Goals as goal
use Rattle.bound_checker.proofs.forest.flag_parents.Goals.{then-has_parent, else-has_parent}

pub loop-n-preserved : goal.loop-n-preserved
loop-n-preserved c = λ d.
    let g = network_of c.args.grid.now in
    let t = table_in c.args.claims.now in
    let n = c.loop-n.n in
    let so_far = c.loop-n.invariant d in
    elim c.if-has_parent.branch [
      | then-has_parent w ↦
          let has : has_parent g t n ≡ true = sym c.has_parent.ensures ∙ w.if-has_parent.true in
          let in_range : n < length c.args.grid.now.nodes = omega arith in
          let hangs = (c.requires.parents n in_range has).within in
          ap (λ xs. get_or xs d false) w.flags-is ∙ flag_one g t c.loop-n.flags n d (omega arith) has so_far
      | else-has_parent w ↦
          let none : has_parent g t n ≡ false = sym c.has_parent.ensures ∙ w.if-has_parent.false in
          ap (λ xs. get_or xs d false) w.flags-is ∙ flag_none g t c.loop-n.flags n d none so_far
    ]
