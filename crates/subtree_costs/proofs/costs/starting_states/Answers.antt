use Rattle.std.proofs.Common.{false, length, sym, ap, ◌∙◌, ⊎_elim, below_more, arith}
use Rattle.std.proofs.lemmas.Bool.{cases_lt}
use Rattle.std.proofs.lemmas.List.{get_or-set_same, get_or-set_other, get_or_past, length-set}
use Rattle.grid_model.specs.Places.{no_device}
use Rattle.subtree_costs.proofs.costs.starting_states.Goals as goal

pub loop-d-preserved : goal.loop-d-preserved
loop-d-preserved c =
    let closed = c.loop-d.closed.items in
    let v = c.device.result.starts_closed in
    record {
      count = length-set closed c.loop-d.d v ∙ c.loop-d.invariant.count;
      states = below_more _ _
          (λ k l. get_or-set_other closed c.loop-d.d k v false (omega arith) ∙ c.loop-d.invariant.states k l)
          (get_or-set_same closed c.loop-d.d v false (let e = c.loop-d.invariant.count in omega arith) ∙ ap (λ d. d.starts_closed) c.device.ensures);
    }

pub returns-clause-states : goal.returns-clause-states
returns-clause-states c d =
    ⊎_elim
    (λ l. c.loop-d.invariant.states d (omega arith))
    (λ l. get_or_past c.loop-d.closed.items d false (let e = c.loop-d.invariant.count in omega arith)
    ∙ sym (ap (λ v. v.starts_closed) (get_or_past c.args.grid.now.devices d no_device l)))
    (cases_lt d (length c.args.grid.now.devices))
