-- What the whole file says.
use Rattle.std.proofs.Common.{sym, subst}
use Rattle.std.proofs.lemmas.Result.{IfOk-weaker, IfErr-weaker}
use Rattle.run_rules.specs.Files.{most_network}
use Rattle.run_rules.specs.Reading.{IsWhole}
use Rattle.engine_run.proofs.Ends.{text_network, text_stop}
use Rattle.engine_run.proofs.engine.start_engine.Goals as goal

pub returns-clause-network : goal.returns-clause-network
returns-clause-network g c =
    let files = g.S.Shelf.files c.args.shelf.now in
    let left = g.S.Shelf.left c.read_limited.new.shelf in
    let whole = subst (IsWhole files left c.args.name.now most_network) (sym c.deref.ensures.value) c.in_ok-text.ensures.whole in
    IfOk-weaker c.engine_over.result _ _ (λ engine says. text_network files left c.args.name.now c.deref.result.now engine.grid whole says) c.engine_over.ensures.grid

pub returns-clause-stopped : goal.returns-clause-stopped
returns-clause-stopped g c =
    let files = g.S.Shelf.files c.args.shelf.now in
    let left = g.S.Shelf.left c.read_limited.new.shelf in
    let whole = subst (IsWhole files left c.args.name.now most_network) (sym c.deref.ensures.value) c.in_ok-text.ensures.whole in
    IfErr-weaker c.engine_over.result _ _ (λ status stop. text_stop files (g.S.Shelf.left c.args.shelf.now) left c.args.name.now c.deref.result.now status whole stop) c.engine_over.ensures.stopped
