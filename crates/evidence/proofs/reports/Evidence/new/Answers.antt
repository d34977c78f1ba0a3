use Rattle.std.proofs.Common.{◌≡◌, length, replicate, ap, ◌∙◌}
use Rattle.evidence.specs.Kept.{nothing_kept}
use Rattle.evidence.specs.Inside.{kept_from}
use Rattle.evidence.proofs.Keeping.{kept_new}
use Rattle.evidence.proofs.reports.Evidence.new.Goals as goal

pub returns : goal.returns
returns c =
    let g = c.args.grid.now in
    let settings = c.settings_of.ensures.same in
    let items = c.in_ok-slots.ensures.items_if_clones_equal (λ y e. e) in
    let count = c.meters.ensures.count in
    let meters : kept_from 0 c.in_ok-slots.slots.items ≡ replicate (length g.meters) nothing_kept =
    ap (kept_from 0) items ∙ kept_new 0 _ c.new.result c.new.ensures.kept ∙ ap (λ n. replicate n nothing_kept) count in
    ap (λ s. record { settings = s; meters = kept_from 0 c.in_ok-slots.slots.items }) settings
    ∙ ap (λ l. record { settings = g.settings; meters = l }) meters
