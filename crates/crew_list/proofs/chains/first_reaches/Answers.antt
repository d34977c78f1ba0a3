use Rattle.std.proofs.Common.{arith, ◌≡◌, length}
use Rattle.std.specs.BTreeMap.{get}
use Rattle.std.specs.Ordering.{nat_cmp}
use Rattle.crew_list.proofs.chains.first_reaches.Goals as goal
use Rattle.crew_list.proofs.Steps.{first_reached}

pub returns : goal.returns
returns c =
    let end : c.loop-place.place ≡ length c.args.outages.now = omega arith in
    first_reached c.args.outages.now c.requires (get nat_cmp c.in_ok-places.places) c.in_ok-places.ensures c.loop-place.reaches.items (omega arith) (λ k lt. c.loop-place.invariant.1 k (omega arith))
