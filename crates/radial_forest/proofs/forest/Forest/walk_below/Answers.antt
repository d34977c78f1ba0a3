use Rattle.std.proofs.Common.{arith}
use Rattle.std.proofs.lemmas.List.{length-set}
use Rattle.radial_forest.specs.Spreading.{switched}
use Rattle.radial_forest.proofs.LowerSide.{listed_is_cut, cut_is_dark}
use Rattle.radial_forest.proofs.ListingSteps.{listing_first}
use Rattle.radial_forest.proofs.forest.Forest.walk_below.Goals as goal

pub loop-place-init : goal.loop-place-init
loop-place-init c =
    let f = c.args.self.now in
    let net = switched c.args.grid.now f.closed in
    let r = c.requires.of_grid in
    let low = c.lower_end.ensures.node in
    let room = c.requires.room in
    record {
      listing = listing_first net f c.args.d.0 c.args.into.now c.lower_end.result r.sound r.rooted (omega arith) low c.lower_end.ensures.hangs;
      count = let same = length-set c.args.into.now 0 c.lower_end.result in omega arith;
    }

pub loop-place-preserved : goal.loop-place-preserved
loop-place-preserved c = record {
  listing = c.list_below-below.ensures.listing c.args.d.0 c.loop-place.invariant.listing;
  count = c.list_below-below.ensures.count;
}

pub returns-clause-lower : goal.returns-clause-lower
returns-clause-lower c = λ n l.
    let f = c.args.self.now in
    let net = switched c.args.grid.now f.closed in
    let r = c.requires.of_grid in
    listed_is_cut net f r.sound r.rooted c.args.d.0 c.loop-place.place c.loop-place.below c.loop-place.into c.loop-place.invariant.listing c.loop-place-test.false n l

pub returns-clause-below : goal.returns-clause-below
returns-clause-below c = λ n l fed.
    let f = c.args.self.now in
    let net = switched c.args.grid.now f.closed in
    let r = c.requires.of_grid in
    let lower = listed_is_cut net f r.sound r.rooted c.args.d.0 c.loop-place.place c.loop-place.below c.loop-place.into c.loop-place.invariant.listing c.loop-place-test.false n l in
    let dark = cut_is_dark net f r.sound r.rooted r.radial c.live_is_a_walk.ensures c.args.d.0 n l fed in
    (λ a. dark.0 (lower.0 a), λ e. lower.1 (dark.1 e))

pub list_below-below-requires-clause-listing : goal.list_below-below-requires-clause-listing
list_below-below-requires-clause-listing c = (c.args.d.0, c.loop-place.invariant.listing)

pub returns-clause-nodes : goal.returns-clause-nodes
returns-clause-nodes c = c.loop-place.invariant.listing.lower.within

pub returns-clause-once : goal.returns-clause-once
returns-clause-once c = c.loop-place.invariant.listing.lower.once
