use Rattle.std.proofs.Common.{ap, ◌∙◌, sym, ⊎_elim, arith}
use Rattle.std.proofs.lemmas.Bool.{cases_eq}
use Rattle.grid_model.specs.Places.{touches}
use Rattle.radial_forest.specs.Traversed.{node_at}
use Rattle.restore_plan.proofs.queueing.queue_around_all.Goals as goal

pub loop-n-preserved : goal.loop-n-preserved
loop-n-preserved c =
    let g = c.args.grid.now in
    let inv = c.loop-n.invariant in
    record {
      each = c.queue_around.ensures.each;
      kept = λ d r. c.queue_around.ensures.kept d (inv.kept d r);
      right = λ k d l ld t. ⊎_elim
          (λ q. c.queue_around.ensures.around d ld (ap (λ j. touches g d (node_at c.args.nodes.now j)) (sym q) ∙ t))
          (λ ne. c.queue_around.ensures.kept d (inv.right k d (omega arith) ld t))
          (cases_eq k c.loop-n.n-index);
    }
