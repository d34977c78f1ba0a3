use Rattle.std.proofs.Common.{length, set, ap, ◌∙◌, arith}
use Rattle.evidence.specs.Kept.{Evident}
use Rattle.evidence.specs.Slot.{kept_in}
use Rattle.evidence.proofs.Keeping.{length-kept, kept_set}
use Rattle.evidence.proofs.reports.Evidence.keep.Goals as goal

pub index_mut-requires : goal.index_mut-requires
index_mut-requires c =
    omega (arith, c.self.inside.slots.ok.0, length-kept 0 c.self.inside.slots.items, ap (λ e. length e.meters) c.self.view_is)

pub returns : goal.returns
returns c =
    let m = c.args.m.0 in
    ap (λ l. record { settings = c.self.inside.settings; meters = l }) (kept_set 0 m m c.self.inside.slots.items c.args.slot (omega arith))
    ∙ ap (λ (e : Evident). record { settings = e.settings; meters = set e.meters m (kept_in m c.args.slot) }) c.self.view_is
