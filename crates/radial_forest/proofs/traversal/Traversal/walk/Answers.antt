use Rattle.std.proofs.Common.{false, get_or}
use Rattle.radial_forest.specs.Traversed.{table_of}
use Rattle.radial_forest.specs.Spreading.{switched}
use Rattle.radial_forest.proofs.Around.{sound_in}
use Rattle.radial_forest.proofs.Ending.{is_rooted, is_traversed, reached_is_live}
use Rattle.radial_forest.proofs.traversal.Traversal.walk.Goals as goal

pub returns-clause-traversed : goal.returns-clause-traversed
returns-clause-traversed c =
    is_traversed (switched c.args.grid.now c.args.closed.now) c.feed.new.self c.feed.ensures.partial c.feed.ensures.roots c.feed.ensures.whole

pub returns-clause-fed : goal.returns-clause-fed
returns-clause-fed c =
    let net = switched c.args.grid.now c.args.closed.now in
    reached_is_live net c.feed.new.self (sound_in c.args.grid.now (λ d. get_or c.args.closed.now d false) c.feed.ensures.sound)
    (is_rooted net c.feed.new.self c.feed.ensures.partial c.feed.ensures.roots) c.feed.ensures.whole c.live_is_a_walk.ensures

pub returns-clause-forest : goal.returns-clause-forest
returns-clause-forest c =
    let net = switched c.args.grid.now c.args.closed.now in
    c.radial_is_forest.ensures net (table_of c.feed.new.self) (sound_in c.args.grid.now (λ d. get_or c.args.closed.now d false) c.feed.ensures.sound)
    (is_rooted net c.feed.new.self c.feed.ensures.partial c.feed.ensures.roots) c.feed.ensures.whole
