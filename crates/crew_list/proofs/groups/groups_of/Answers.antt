use Rattle.std.proofs.Common.{rules, arith, ap, set, ◌∙◌, ◌<◌, length}
use Rattle.crew_list.specs.Groups.{group_with}
use Rattle.crew_list.proofs.groups.groups_of.Goals as goal
use Rattle.std.proofs.lemmas.List.{get_or_read}
use Rattle.crew_list.specs.Listed.{outage_at}
use Rattle.crew_list.specs.Chains.{reach_at}
use Rattle.crew_list.specs.Groups.{no_group}
use Rattle.crew_list.proofs.Grouping.{none_grouped, group_fits, grouped_more}

pub loop-place-init : goal.loop-place-init
loop-place-init c = none_grouped c.args.outages.now c.in_ok-groups.groups.items (c.in_ok-groups.ensures.items_if_clones_equal (λ y e. search rules))

pub with-requires : goal.with-requires
with-requires c =
    let i = c.loop-place.place in
    let inside : (reach_at c.args.reaches.now i).place < length c.loop-place.groups.items = omega (arith, c.requires.reached.within i (omega arith), c.loop-place.invariant.each) in
    let read = get_or_read c.loop-place.groups.items (reach_at c.args.reaches.now i).place c.index.result.now inside c.index.ensures no_group in
    let same = ap (λ g. g.customers) read in
    let fits = group_fits c.args.outages.now c.requires.ordered c.args.reaches.now c.loop-place.groups.items i c.requires.reached c.loop-place.invariant (omega arith) in
    omega arith

pub loop-place-preserved : goal.loop-place-preserved
loop-place-preserved c =
    let i = c.loop-place.place in
    let inside : (reach_at c.args.reaches.now i).place < length c.loop-place.groups.items = omega (arith, c.requires.reached.within i (omega arith), c.loop-place.invariant.each) in
    let read = get_or_read c.loop-place.groups.items (reach_at c.args.reaches.now i).place c.index.result.now inside c.index.ensures no_group in
    grouped_more c.args.outages.now c.requires.ordered c.args.reaches.now c.loop-place.groups.items _ i c.requires.reached c.loop-place.invariant (omega arith)
    (ap (set c.loop-place.groups.items (reach_at c.args.reaches.now i).place) (c.with.ensures ∙ ap (λ g. group_with g (outage_at c.args.outages.now i)) read))
