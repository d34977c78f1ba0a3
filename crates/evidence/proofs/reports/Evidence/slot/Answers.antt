use Rattle.std.proofs.Common.{length, ap, sym, ◌∙◌, arith}
use Rattle.std.proofs.lemmas.List.Elements.{All-get_or}
use Rattle.evidence.specs.Kept.{kept_of}
use Rattle.evidence.specs.Slot.{kept_in, IsPast}
use Rattle.evidence.proofs.Keeping.{length-kept, kept_at}
use Rattle.evidence.proofs.reports.Evidence.slot.Goals as goal

pub index-requires : goal.index-requires
index-requires c =
    omega (arith, c.self.inside.slots.ok.0, length-kept 0 c.self.inside.slots.items, ap (λ e. length e.meters) c.self.view_is)

pub returns-clause-kept : goal.returns-clause-kept
returns-clause-kept c =
    let slots = c.self.inside.slots.items in
    let m = c.args.m.0 in
    let long = length-kept 0 slots in
    let same = ap (λ e. length e.meters) c.self.view_is in
    ap (kept_in m) c.index.ensures
    ∙ sym (kept_at 0 m m slots c.index.result.now (omega arith) (omega arith))
    ∙ ap (λ e. kept_of e m) c.self.view_is

pub returns-clause-past : goal.returns-clause-past
returns-clause-past c =
    let slots = c.self.inside.slots.items in
    let m = c.args.m.0 in
    let long = length-kept 0 slots in
    let same = ap (λ e. length e.meters) c.self.view_is in
    rw c.index.ensures (All-get_or IsPast slots m c.index.result.now (omega arith) c.self.invariant.past)
