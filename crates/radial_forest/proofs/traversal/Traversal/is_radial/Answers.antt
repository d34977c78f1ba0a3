use Rattle.std.proofs.Common.{false, get_or}
use Rattle.radial_forest.specs.Spreading.{switched}
use Rattle.radial_forest.proofs.Around.{sound_in}
use Rattle.radial_forest.proofs.ByParents.{radial_by_parents}
use Rattle.radial_forest.proofs.traversal.Traversal.is_radial.Goals as goal

pub returns-clause-radial : goal.returns-clause-radial
returns-clause-radial c =
    let net = switched c.args.grid.now c.args.closed.now in
    let sound = sound_in c.args.grid.now (λ d. get_or c.args.closed.now d false) c.walk_all.ensures.sound in
    let same = radial_by_parents net c.walk_all.new.self sound c.walk_all.ensures.settled c.walk_all.ensures.all c.radial_is_forest.ensures c.forest_is_radial.ensures c.radial_by_roots.ensures in
    (λ e. same.0 (c.are_parents.ensures.0 e), λ r. c.are_parents.ensures.1 (same.1 r))
