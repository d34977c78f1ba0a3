-- The place of the name says whether it is new.
use Rattle.std.proofs.Common.{refl, sym, ap, ◌∙◌}
use Rattle.std.specs.List.{slice_get}
use Rattle.grid_reader.proofs.Mentions.{mentioned-new, fresh_behind, old_within}
use Rattle.grid_reader.proofs.draft.mention_once.Goals as goal

pub returns-then-branch-count-clause-broken : goal.returns-then-branch-count-clause-broken
returns-then-branch-count-clause-broken c =
    let place = c.in_ok-mention.field-0 in
    (refl, old_within c.args.names.now c.args.name place (ap (λ ns. slice_get ns place) (sym c.in_ok-mention.ensures.names) ∙ c.in_ok-mention.ensures.number) (λ e. c.if-branch-count.true (e ∙ sym c.len-count.ensures)))

pub returns-clause-fresh : goal.returns-clause-fresh
returns-clause-fresh c =
    let place = c.in_ok-mention.field-0 in
    fresh_behind c.args.names.now c.args.name place (ap (λ ns. slice_get ns place) (sym c.in_ok-mention.ensures.names) ∙ c.in_ok-mention.ensures.number) (c.if-branch-count.false ∙ c.len-count.ensures)

pub returns-clause-names : goal.returns-clause-names
returns-clause-names c =
    let place = c.in_ok-mention.field-0 in
    let fresh = fresh_behind c.args.names.now c.args.name place (ap (λ ns. slice_get ns place) (sym c.in_ok-mention.ensures.names) ∙ c.in_ok-mention.ensures.number) (c.if-branch-count.false ∙ c.len-count.ensures) in
    c.in_ok-mention.ensures.names ∙ mentioned-new c.args.names.now c.args.name fresh
