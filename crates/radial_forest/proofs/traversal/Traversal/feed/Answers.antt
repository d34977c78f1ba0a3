use Rattle.std.proofs.Common.{false, get_or}
use Rattle.radial_forest.specs.Spreading.{switched}
use Rattle.radial_forest.proofs.Sources.{sources_first}
use Rattle.radial_forest.proofs.traversal.Traversal.feed.Goals as goal

pub spread-requires-clause-partial : goal.spread-requires-clause-partial
spread-requires-clause-partial c = c.reach_sources.ensures.partial (λ d. get_or c.args.closed.now d false)

pub returns-clause-sources_first : goal.returns-clause-sources_first
returns-clause-sources_first c =
    sources_first (switched c.args.grid.now c.args.closed.now) c.reach_sources.new.self c.spread.new.self (c.reach_sources.ensures.partial (λ d. get_or c.args.closed.now d false))
    c.reach_sources.ensures.reached c.reach_sources.ensures.roots c.spread.ensures.grows
