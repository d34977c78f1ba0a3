use Rattle.std.proofs.Common.{subst, length, arith}
use Rattle.grid_model.specs.declared.parts.NodeId.{NodeId}
use Rattle.radial_forest.specs.Traversed.{node_at}
use Rattle.diagnosis.specs.Watched.{Watched, AreDifferences}
use Rattle.diagnosis.proofs.Watching.{kept_taken}
use Rattle.diagnosis.proofs.node_flags.NodeFlags.named.Goals as goal

pub returns-clause-differences : goal.returns-clause-differences
returns-clause-differences c =
    let f = c.self.inside in
    let i = c.self.invariant in
    let few = i.count in
    let each = i.named in
    subst (λ (w : Watched NodeId). AreDifferences w.begun w.flags (length w.named) (node_at w.named)) c.self.view_is
    (kept_taken (λ (x : NodeId). x.0) (record { 0 = 0 }) f.begun.items f.flags.items f.named.items f.places.items f.count i.kept i.begun (omega arith))
