use Rattle.std.proofs.Common.{◌≡◌, length, ap, ◌∙◌}
use Rattle.grid_model.specs.Problem.{problem_of}
use Rattle.bound_checker.specs.Claimed.{table_of, cut_of, table_in, cut_in}
use Rattle.bound_checker.proofs.Joined.{same_claims, answer_certifies}
use Rattle.bound_checker.proofs.check_states.Goals as goal

pub returns-clause-verdict : goal.returns-clause-verdict
returns-clause-verdict c =
    let p = problem_of c.args.grid.now c.args.closed.now c.args.marks.now c.args.dark.now c.args.live.now in
    let devices = length c.args.grid.now.devices in
    let rows : c.deref-2.result.now ≡ c.args.bounds.now.rows = c.deref-2.ensures.value ∙ ap (λ b. b.rows) c.bounds.view_is in
    let cuts : c.deref.result.now ≡ c.args.bounds.now.cuts = c.deref.ensures.value ∙ ap (λ b. b.cuts) c.bounds.view_is in
    let table : table_in c.deref-3.result.now ≡ table_of devices c.args.bounds.now.rows =
    ap table_in c.deref-3.ensures.value ∙ c.in_ok-claims.ensures.table ∙ ap (λ k. table_of k c.deref-2.result.now) c.devices-2.ensures.count ∙ ap (table_of devices) rows in
    let cut : cut_in c.deref-4.result.now ≡ cut_of c.args.bounds.now.cuts =
    ap cut_in c.deref-4.ensures.value ∙ c.in_ok-cuts.ensures.cut ∙ ap cut_of cuts in
    same_claims c.verdict.result p (table_in c.deref-3.result.now) (table_of devices c.args.bounds.now.rows) (cut_in c.deref-4.result.now) (cut_of c.args.bounds.now.cuts) c.bounds.inside.cost c.args.bounds.now.cost table cut (ap (λ b. b.cost) c.bounds.view_is) c.verdict.ensures

pub returns-clause-certified : goal.returns-clause-certified
returns-clause-certified c =
    answer_certifies c.verdict.result c.args.grid.now c.args.closed.now c.args.marks.now c.args.dark.now c.args.live.now (table_of (length c.args.grid.now.devices) c.args.bounds.now.rows) (cut_of c.args.bounds.now.cuts) c.args.bounds.now.cost c.nodes.ensures.sound (returns-clause-verdict c)
