use Rattle.std.proofs.Common.{◌<◌, ◌+◌, refl, sym, ap, ◌∙◌, subst, arith, length, set, get_or}
use Rattle.std.proofs.lemmas.Bool.{false≢true}
use Rattle.radial_forest.specs.Traversed.{parent_in, node_at}
use Rattle.radial_forest.specs.Spreading.{switched}
use Rattle.radial_forest.proofs.Fitting.{devices_apart}
use Rattle.radial_forest.proofs.Incident.{at_within, at_ends, place_of}
use Rattle.radial_forest.proofs.ListingSteps.{child_here, node_kept}
use Rattle.subtree_costs.proofs.Listed.{IsListingTo, listing_start, listing_passed, listing_more, listing_done, listing_room}
use Rattle.subtree_costs.proofs.order.list_below.Goals as goal
use Rattle.subtree_costs.proofs.order.list_below.Goals.{then-hangs_by, else-hangs_by}

pub loop-d-init : goal.loop-d-init
loop-d-init c = record {
  listing = listing_start (switched c.args.grid.now c.args.forest.now.closed) c.args.forest.now.parents c.args.list.now c.args.count c.args.place c.incident-d-items.result.now c.requires.place c.requires.listing;
  count = c.requires.count;
  node = refl;
}

pub other_end-m-requires : goal.other_end-m-requires
other_end-m-requires c = at_within c.args.grid.now _ c.incident-d-items.result.now c.incident-d-items.ensures c.loop-d.d-index (omega arith)

pub bounds-list-listed : goal.bounds-list-listed
bounds-list-listed c =
    let g = c.args.grid.now in
    let f = c.args.forest.now in
    let net = switched g f.closed in
    let r = c.requires.of_grid in
    let xs = c.incident-d-items.result.now in
    let at = c.incident-d-items.ensures in
    let i = c.loop-d.d-index in
    let n = (get_or c.args.list.now c.args.place (record { 0 = 0 })).0 in
    let m = c.other_end-m.result in
    let child = child_here net f n (get_or xs i (record { 0 = 0 })).0 m r.sound (at_within g n xs at i (omega arith)) (at_ends g n xs at i (omega arith)) c.other_end-m.ensures (c.hangs_by.ensures.0 c.if-hangs_by.true) in
    let less =
    listing_room net f c.loop-d.list c.loop-d.listed c.args.place n xs i r.sound r.rooted c.loop-d.invariant.node c.loop-d.invariant.listing
    m (λ h lh. devices_apart g n xs at h i lh (omega arith)) child.0 child.1 in
    let room = c.requires.room in
    let same = c.loop-d.auto.list in
    omega arith

pub loop-d-preserved : goal.loop-d-preserved
loop-d-preserved c =
    let g = c.args.grid.now in
    let f = c.args.forest.now in
    let net = switched g f.closed in
    let r = c.requires.of_grid in
    let xs = c.incident-d-items.result.now in
    let at = c.incident-d-items.ensures in
    let i = c.loop-d.d-index in
    let n = (get_or c.args.list.now c.args.place (record { 0 = 0 })).0 in
    let m = c.other_end-m.result in
    let within = at_within g n xs at i (omega arith) in
    let ends = at_ends g n xs at i (omega arith) in
    let list = c.loop-d.list in
    let listed = c.loop-d.listed in
    let inv = c.loop-d.invariant in
    elim c.if-hangs_by.branch [
      | then-hangs_by w ↦
          let child = child_here net f n (get_or xs i (record { 0 = 0 })).0 m r.sound within ends c.other_end-m.ensures (c.hangs_by.ensures.0 w.if-hangs_by.true) in
          let less = listing_room net f list listed c.args.place n xs i r.sound r.rooted inv.node inv.listing m (λ h lh. devices_apart g n xs at h i lh (omega arith)) child.0 child.1 in
          let same = c.loop-d.auto.list in
          let all = c.requires.room in
          let room : listed < length list = omega arith in
          record {
            listing = subst (λ x. IsListingTo net f.parents x c.if-hangs_by.listed c.args.place xs (i + 1)) (sym w.list-is)
                (subst (λ k. IsListingTo net f.parents (set list listed m) k c.args.place xs (i + 1)) (sym w.listed-is)
                (listing_more net f list listed c.args.place n xs i r.sound r.rooted inv.node inv.listing m (λ h lh. devices_apart g n xs at h i lh (omega arith)) child.0 child.1 room));
            count = let k = w.listed-is in let long = c.if-hangs_by.auto.list in omega arith;
            node = ap (λ x. node_at x c.args.place) w.list-is ∙ (node_kept list listed m room c.args.place inv.listing.ahead ∙ inv.node);
          }
      | else-hangs_by w ↦
          record {
            listing = subst (λ x. IsListingTo net f.parents x c.if-hangs_by.listed c.args.place xs (i + 1)) (sym w.list-is)
                (subst (λ k. IsListingTo net f.parents list k c.args.place xs (i + 1)) (sym w.listed-is)
                (listing_passed net f list listed c.args.place n xs i r.sound r.rooted inv.node inv.listing
                (λ e. false≢true (sym w.if-hangs_by.false ∙ c.hangs_by.ensures.1 (ap (parent_in f.parents) c.other_end-m.ensures ∙ e)))));
            count = let k = w.listed-is in let long = c.if-hangs_by.auto.list in let le = inv.count in omega arith;
            node = ap (λ x. node_at x c.args.place) w.list-is ∙ inv.node;
          }
    ]

pub returns-clause-listing : goal.returns-clause-listing
returns-clause-listing c =
    let g = c.args.grid.now in
    let f = c.args.forest.now in
    let r = c.requires.of_grid in
    let xs = c.incident-d-items.result.now in
    let n = (get_or c.args.list.now c.args.place (record { 0 = 0 })).0 in
    listing_done (switched g f.closed) f c.loop-d.list c.loop-d.listed c.args.place n xs c.loop-d.d-index r.sound r.rooted c.loop-d.invariant.node c.loop-d.invariant.listing
    (λ e l ends. let q = place_of g n xs c.incident-d-items.ensures e l ends in let lq = q.1 in (q.0, omega arith, q.2))
