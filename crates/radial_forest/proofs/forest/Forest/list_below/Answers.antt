use Rattle.std.proofs.Common.{◌<◌, ◌+◌, refl, sym, ap, ◌∙◌, subst, arith, length, set, get_or}
use Rattle.std.proofs.lemmas.Bool.{false≢true}
use Rattle.radial_forest.specs.Traversed.{parent_in, node_at}
use Rattle.radial_forest.specs.Spreading.{switched}
use Rattle.radial_forest.proofs.Fitting.{devices_apart}
use Rattle.radial_forest.proofs.Incident.{at_within, at_ends, place_of}
use Rattle.radial_forest.proofs.ListingSteps.{IsListingTo, child_here, listing_start, listing_passed, listing_more, listing_done, listing_room, node_kept}
use Rattle.radial_forest.proofs.forest.Forest.list_below.Goals as goal
use Rattle.radial_forest.proofs.forest.Forest.list_below.Goals.{then-hangs_by, else-hangs_by}

pub loop-e-init : goal.loop-e-init
loop-e-init c = record {
  listing = λ d h. listing_start (switched c.args.grid.now c.args.self.now.closed) c.args.self.now d c.args.into.now c.args.count c.args.place c.incident-e-items.result.now c.requires.place h;
  count = c.requires.count;
  node = refl;
}

pub other_end-m-requires : goal.other_end-m-requires
other_end-m-requires c = at_within c.args.grid.now _ c.incident-e-items.result.now c.incident-e-items.ensures c.loop-e.e-index (omega arith)

pub bounds-into-listed : goal.bounds-into-listed
bounds-into-listed c =
    let g = c.args.grid.now in
    let f = c.args.self.now in
    let net = switched g f.closed in
    let r = c.requires.of_grid in
    let xs = c.incident-e-items.result.now in
    let at = c.incident-e-items.ensures in
    let i = c.loop-e.e-index in
    let n = (get_or c.args.into.now c.args.place (record { 0 = 0 })).0 in
    let m = c.other_end-m.result in
    let child = child_here net f n (get_or xs i (record { 0 = 0 })).0 m r.sound (at_within g n xs at i (omega arith)) (at_ends g n xs at i (omega arith)) c.other_end-m.ensures (c.hangs_by.ensures.0 c.if-hangs_by.true) in
    let l = c.requires.listing in
    let less =
    listing_room net f l.0 c.loop-e.into c.loop-e.listed c.args.place n xs i r.sound r.rooted c.loop-e.invariant.node (c.loop-e.invariant.listing l.0 l.1)
    m (λ h lh. devices_apart g n xs at h i lh (omega arith)) child.0 child.1 in
    let room = c.requires.room in
    let same = c.loop-e.auto.into in
    omega arith

pub loop-e-preserved : goal.loop-e-preserved
loop-e-preserved c =
    let g = c.args.grid.now in
    let f = c.args.self.now in
    let net = switched g f.closed in
    let r = c.requires.of_grid in
    let xs = c.incident-e-items.result.now in
    let at = c.incident-e-items.ensures in
    let i = c.loop-e.e-index in
    let n = (get_or c.args.into.now c.args.place (record { 0 = 0 })).0 in
    let m = c.other_end-m.result in
    let within = at_within g n xs at i (omega arith) in
    let ends = at_ends g n xs at i (omega arith) in
    let list = c.loop-e.into in
    let listed = c.loop-e.listed in
    let inv = c.loop-e.invariant in
    let l = c.requires.listing in
    elim c.if-hangs_by.branch [
      | then-hangs_by w ↦
          let child = child_here net f n (get_or xs i (record { 0 = 0 })).0 m r.sound within ends c.other_end-m.ensures (c.hangs_by.ensures.0 w.if-hangs_by.true) in
          let first = inv.listing l.0 l.1 in
          let less = listing_room net f l.0 list listed c.args.place n xs i r.sound r.rooted inv.node first m (λ h lh. devices_apart g n xs at h i lh (omega arith)) child.0 child.1 in
          let same = c.loop-e.auto.into in
          let all = c.requires.room in
          let room : listed < length list = omega arith in
          record {
            listing = λ d h.
                subst (λ x. IsListingTo net f d x c.if-hangs_by.listed c.args.place xs (i + 1)) (sym w.into-is)
                (subst (λ k. IsListingTo net f d (set list listed m) k c.args.place xs (i + 1)) (sym w.listed-is)
                (listing_more net f d list listed c.args.place n xs i r.sound r.rooted inv.node (inv.listing d h) m (λ h lh. devices_apart g n xs at h i lh (omega arith)) child.0 child.1 room));
            count = let k = w.listed-is in let long = c.if-hangs_by.auto.into in omega arith;
            node = ap (λ x. node_at x c.args.place) w.into-is ∙ (node_kept list listed m room c.args.place first.ahead ∙ inv.node);
          }
      | else-hangs_by w ↦
          record {
            listing = λ d h.
                subst (λ x. IsListingTo net f d x c.if-hangs_by.listed c.args.place xs (i + 1)) (sym w.into-is)
                (subst (λ k. IsListingTo net f d list k c.args.place xs (i + 1)) (sym w.listed-is)
                (listing_passed net f d list listed c.args.place n xs i r.sound r.rooted inv.node (inv.listing d h)
                (λ e. false≢true (sym w.if-hangs_by.false ∙ c.hangs_by.ensures.1 (ap (parent_in f.parents) c.other_end-m.ensures ∙ e)))));
            count = let k = w.listed-is in let long = c.if-hangs_by.auto.into in let le = inv.count in omega arith;
            node = ap (λ x. node_at x c.args.place) w.into-is ∙ inv.node;
          }
    ]

pub returns-clause-listing : goal.returns-clause-listing
returns-clause-listing c = λ d h.
    let g = c.args.grid.now in
    let f = c.args.self.now in
    let r = c.requires.of_grid in
    let xs = c.incident-e-items.result.now in
    let n = (get_or c.args.into.now c.args.place (record { 0 = 0 })).0 in
    listing_done (switched g f.closed) f d c.loop-e.into c.loop-e.listed c.args.place n xs c.loop-e.e-index r.sound r.rooted c.loop-e.invariant.node (c.loop-e.invariant.listing d h)
    (λ e l ends. let q = place_of g n xs c.incident-e-items.ensures e l ends in let lq = q.1 in (q.0, omega arith, q.2))
