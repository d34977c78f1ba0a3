use Rattle.std.proofs.Common.{◌≡◌, List, length, sym, ◌∙◌, subst}
use Rattle.std.specs.Prelude.{IfOk}
use Rattle.grid_model.specs.declared.history.Event.{Event}
use Rattle.history_rules.specs.Posed.{diagnosis_after}
use Rattle.history_rules.specs.Outages.{outages_after}
use Rattle.subtree_costs.specs.Costed.{IsCosted}
use Rattle.diagnosis.specs.Judgement.{opened_by}
use Rattle.field_state.specs.Fielded.{IsFieldAfter}
use Rattle.nested_faults.specs.LastCuts.{AreLastCuts}
use Rattle.nested_faults.specs.Tallies.{AreTallies}
use Rattle.nested_faults.specs.Listing.{outages_in}
use Rattle.nested_faults.proofs.Whole.{noted_within, listed_outages, if_ok}
use Rattle.nested_faults.proofs.nested.outages.Goals as goal

pub last_cuts-requires-clause-costed : goal.last_cuts-requires-clause-costed
last_cuts-requires-clause-costed c = subst (IsCosted c.args.grid.now) (sym c.costs-costs.ensures) c.requires.1.costed

pub last_cuts-requires-clause-flags : goal.last_cuts-requires-clause-flags
last_cuts-requires-clause-flags c = c.requires.2

pub tallies-requires-clause-within : goal.tallies-requires-clause-within
tallies-requires-clause-within c =
    noted_within c.args.grid.now c.costs-costs.result.now c.args.judged.now c.deref.result.now c.requires.2
    (subst (AreLastCuts c.args.grid.now c.costs-costs.result.now c.args.judged.now) (sym c.deref.ensures.value) c.in_ok-last.ensures)

pub list_outages-requires-clause-costed : goal.list_outages-requires-clause-costed
list_outages-requires-clause-costed c = subst (IsCosted c.args.grid.now) (sym c.costs-costs.ensures) c.requires.1.costed

pub list_outages-requires-clause-flags : goal.list_outages-requires-clause-flags
list_outages-requires-clause-flags c = c.requires.2

pub returns : goal.returns
returns c =
    let g = c.args.grid.now in
    let j = c.args.judged.now in
    let f = c.args.field.now in
    let last = c.deref-2.result.now in
    let tallies = c.deref-3.result.now in
    let cuts : AreLastCuts g f.costs j last = subst (λ k. AreLastCuts g k j last) c.costs-costs.ensures (subst (AreLastCuts g c.costs-costs.result.now j) (sym c.deref-2.ensures.value) c.in_ok-last.ensures) in
    let told : AreTallies g f.evidence last (length g.meters) tallies =
    subst (λ x. AreTallies g x last (length g.meters) tallies) c.evidence.ensures
    (subst (λ x. AreTallies g c.evidence.result.now x (length g.meters) tallies) (c.deref.ensures.value ∙ sym c.deref-2.ensures.value)
    (subst (λ x. AreTallies g c.evidence.result.now c.deref.result.now (length g.meters) x) (sym c.deref-3.ensures.value) c.in_ok-tallies.ensures.counted)) in
    let each : length tallies ≡ length g.devices = c.deref-3.ensures.len ∙ c.in_ok-tallies.ensures.each in
    if_ok c.list_outages.result (λ v. v.items ≡ outages_in g f.costs j last tallies (length g.devices))
    (λ v. (h : List Event) → IsFieldAfter g h f → opened_by j ≡ diagnosis_after g h → v.items ≡ outages_after g h (diagnosis_after g h))
    (λ v e h field opened. e ∙ listed_outages g h f j last tallies field cuts told each c.problem_is_sound.ensures
    c.field_poses.ensures c.fed_rows_are_exact.ensures opened)
    (subst (λ k. IfOk c.list_outages.result (λ v. v.items ≡ outages_in g k j last tallies (length g.devices))) c.costs-costs.ensures c.list_outages.ensures)
