use Rattle.std.proofs.Common.{length, ap, arith}
use Rattle.interruption_ledger.specs.Inside.{interrupted_in}
use Rattle.interruption_ledger.proofs.Meters.{fits, darkened}
use Rattle.interruption_ledger.proofs.Ledger.went_dark.Goals as goal

pub index_mut-requires : goal.index_mut-requires
index_mut-requires c =
    let l = c.self.inside in
    let inside = fits (interrupted_in l.dark.items l.starts.items l.ended.items) (length l.dark.items) c.args.m.0 c.args.self.now.meters (ap (λ k. k.meters) c.self.view_is) c.requires.meter in
    omega arith

pub index_mut-requires-2 : goal.index_mut-requires-2
index_mut-requires-2 c =
    let l = c.self.inside in
    let inside = fits (interrupted_in l.dark.items l.starts.items l.ended.items) (length l.dark.items) c.args.m.0 c.args.self.now.meters (ap (λ k. k.meters) c.self.view_is) c.requires.meter in
    omega arith

pub returns-clause-meters : goal.returns-clause-meters
returns-clause-meters c =
    let l = c.self.inside in
    darkened l.dark.items l.starts.items l.ended.items c.args.self.now.meters c.args.m.0 c.args.at (ap (λ k. k.meters) c.self.view_is) c.self.invariant.each c.requires.meter
