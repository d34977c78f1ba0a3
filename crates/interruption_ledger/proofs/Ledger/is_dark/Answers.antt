use Rattle.std.proofs.Common.{false, length, sym, ap, ◌∙◌, arith}
use Rattle.history_rules.specs.Ledger.{interrupted_first}
use Rattle.std.proofs.lemmas.List.{get_or_read}
use Rattle.interruption_ledger.specs.Inside.{interrupted_in}
use Rattle.interruption_ledger.proofs.Meters.{fits, read_at}
use Rattle.interruption_ledger.proofs.Ledger.is_dark.Goals as goal

pub index-requires : goal.index-requires
index-requires c =
    let l = c.self.inside in
    let inside = fits (interrupted_in l.dark.items l.starts.items l.ended.items) (length l.dark.items) c.args.m.0 c.args.self.now.meters (ap (λ k. k.meters) c.self.view_is) c.requires in
    omega arith

pub returns : goal.returns
returns c =
    let l = c.self.inside in
    let f = interrupted_in l.dark.items l.starts.items l.ended.items in
    let is_meters = ap (λ k. k.meters) c.self.view_is in
    let inside = fits f (length l.dark.items) c.args.m.0 c.args.self.now.meters is_meters c.requires in
    get_or_read l.dark.items c.args.m.0 c.index.result.now inside c.index.ensures false
    ∙ ap (λ k. k.dark) (sym (read_at f (length l.dark.items) c.args.m.0 c.args.self.now.meters (interrupted_first false) is_meters c.requires))
