use Rattle.std.proofs.Common.{arith, ap, ◌∙◌, ◌^◌, map, ◌*◌}
use Rattle.crew_list.specs.Chains.{further}
use Rattle.crew_list.proofs.chains.whole_reaches.Goals as goal
use Rattle.crew_list.proofs.Steps.{doubled_reached, whole_reached}
use Rattle.crew_list.proofs.Looking.{few_reached, within_reached}

pub doubled-requires-clause-within : goal.doubled-requires-clause-within
doubled-requires-clause-within c = within_reached c.args.outages.now c.doubling.steps c.doubling.reaches.items c.deref.result.now c.doubling.invariant.0 c.deref.ensures.value

pub doubled-requires-clause-few : goal.doubled-requires-clause-few
doubled-requires-clause-few c = few_reached c.args.outages.now c.doubling.steps (2 ^ 63) c.doubling.reaches.items c.deref.result.now c.doubling.invariant.0 c.deref.ensures.value (omega arith)

pub doubling-preserved : goal.doubling-preserved
doubling-preserved c = (
  doubled_reached c.args.outages.now c.doubling.steps (c.doubling.steps * 2) c.doubling.reaches.items c.in_ok-reaches-2.reaches.items c.doubling.invariant.0
      (c.in_ok-reaches-2.ensures ∙ ap (λ xs. map (further xs) xs) c.deref.ensures.value) (omega arith),
  omega arith,
  omega arith,
)

pub returns : goal.returns
returns c = whole_reached c.args.outages.now c.requires c.doubling.steps c.doubling.reaches.items (omega arith) c.doubling.invariant.0
