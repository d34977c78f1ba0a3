use Rattle.std.proofs.Common.{◌<◌, false, None, length, set, sym, ap, ◌∙◌, subst, arith}
use Rattle.std.specs.List.{All}
use Rattle.std.proofs.lemmas.List.{length-set, get_or_read}
use Rattle.interruption_ledger.specs.Inside.{interrupted_in}
use Rattle.interruption_ledger.proofs.Meters.{fits, lit_lined, lit_unlined, still_fits, still_within}
use Rattle.interruption_ledger.proofs.Ledger.went_live.Goals as goal

pub index_mut-requires : goal.index_mut-requires
index_mut-requires c =
    let l = c.self.inside in
    let inside = fits (interrupted_in l.dark.items l.starts.items l.ended.items) (length l.dark.items) c.args.m.0 c.args.self.now.meters (ap (λ k. k.meters) c.self.view_is) c.requires.meter in
    omega arith

pub index-requires : goal.index-requires
index-requires c =
    let l = c.self.inside in
    let inside = fits (interrupted_in l.dark.items l.starts.items l.ended.items) (length l.dark.items) c.args.m.0 c.args.self.now.meters (ap (λ k. k.meters) c.self.view_is) c.requires.meter in
    omega arith

pub index_mut-requires-in-Some : goal.index_mut-requires-in-Some
index_mut-requires-in-Some c =
    let l = c.self.inside in
    let inside = fits (interrupted_in l.dark.items l.starts.items l.ended.items) (length l.dark.items) c.args.m.0 c.args.self.now.meters (ap (λ k. k.meters) c.self.view_is) c.requires.meter in
    omega arith

pub invariant_of-self : goal.invariant_of-self
invariant_of-self c =
    let l = c.self.inside in
    let inside = fits (interrupted_in l.dark.items l.starts.items l.ended.items) (length l.dark.items) c.args.m.0 c.args.self.now.meters (ap (λ k. k.meters) c.self.view_is) c.requires.meter in
    record {
      each = length-set l.starts.items c.args.m.0 None ∙ c.self.invariant.each ∙ sym (length-set l.dark.items c.args.m.0 false);
      within = still_within (length (set l.dark.items c.args.m.0 false)) l.ended.items _ _ c.push_reserved.ensures.items (omega (arith, length-set l.dark.items c.args.m.0 false))
          (subst (λ n. All (λ line. line.meter.0 < n) l.ended.items) (sym (length-set l.dark.items c.args.m.0 false)) c.self.invariant.within);
      fits = still_fits l.starts.items c.args.m.0 (omega (arith, c.self.invariant.each)) c.self.invariant.fits;
    }

pub returns-in-Some-clause-meters : goal.returns-in-Some-clause-meters
returns-in-Some-clause-meters c =
    let l = c.self.inside in
    let is_meters = ap (λ k. k.meters) c.self.view_is in
    let inside = fits (interrupted_in l.dark.items l.starts.items l.ended.items) (length l.dark.items) c.args.m.0 c.args.self.now.meters is_meters c.requires.meter in
    lit_lined l.dark.items l.starts.items l.ended.items _ c.args.self.now.meters c.args.m.0 c.in-Some.start c.args.at is_meters c.self.invariant.each c.requires.meter
    (sym (get_or_read l.starts.items c.args.m.0 c.index.result.now (omega (arith, c.self.invariant.each)) c.index.ensures None) ∙ c.in-Some.is) c.push_reserved.ensures.items

pub returns-in_default-clause-meters : goal.returns-in_default-clause-meters
returns-in_default-clause-meters c =
    let l = c.self.inside in
    let is_meters = ap (λ k. k.meters) c.self.view_is in
    let inside = fits (interrupted_in l.dark.items l.starts.items l.ended.items) (length l.dark.items) c.args.m.0 c.args.self.now.meters is_meters c.requires.meter in
    lit_unlined l.dark.items l.starts.items l.ended.items c.args.self.now.meters c.args.m.0 c.args.at is_meters c.requires.meter
    (sym (get_or_read l.starts.items c.args.m.0 c.index.result.now (omega (arith, c.self.invariant.each)) c.index.ensures None) ∙ c.in_default.is)
