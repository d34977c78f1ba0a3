use Rattle.std.proofs.Common.{◌≡◌, ◌<◌, true, false, get_or, sym, ◌∙◌, subst, arith, List, length, take, length-set}
use Rattle.std.proofs.lemmas.List.{get_or_read, take_more_set}
use Rattle.grid_model.specs.declared.parts.NodeId.{NodeId}
use Rattle.subtree_costs.specs.Walks.{IsPlace}
use Rattle.field_state.specs.declared.places.Places.TheInside.{Inside}
use Rattle.field_state.specs.PlacesInside.{AreListed}
use Rattle.field_state.proofs.Listing.{one_fits, each_more, all_more, once_more}
use Rattle.field_state.proofs.Noting.{place_here}
use Rattle.field_state.proofs.places.Places.add.Goals as goal

-- a node whose flag is read as none
module _ (f : Inside) (i : AreListed f) (n : NodeId) (flag : _) (l : n.0 < length f.listed.items) (flag_is : flag ≡ get_or f.listed.items n.0 flag) (none : flag ≡ false) where
  unlisted : get_or f.listed.items n.0 false ≡ false
  unlisted = sym (get_or_read f.listed.items n.0 flag l flag_is false) ∙ none

  fits : f.count < length f.listed.items
  fits = one_fits f.listed.items f.nodes.items f.count i.each i.once n l unlisted

pub index_mut-requires-2 : goal.index_mut-requires-2
index_mut-requires-2 c =
    let f = c.self.inside in
    let l : c.args.n.0 < length f.listed.items = subst (λ w. c.args.n.0 < w.room) (sym c.self.view_is) c.requires in
    let r = fits f c.self.invariant c.args.n c.index.result.now l c.index.ensures c.if-index.false in
    let long = c.self.invariant.long in
    let ok = f.nodes.ok.0 in
    omega arith

pub invariant_of-self : goal.invariant_of-self
invariant_of-self c =
    let f = c.self.inside in
    let i = c.self.invariant in
    let n = c.args.n in
    let l : n.0 < length f.listed.items = subst (λ w. n.0 < w.room) (sym c.self.view_is) c.requires in
    let none = unlisted f i n c.index.result.now l c.index.ensures c.if-index.false in
    let r = fits f i n c.index.result.now l c.index.ensures c.if-index.false in
    let same = length-set f.listed.items n.0 true in
    record {
      long = length-set f.nodes.items f.count n ∙ i.long ∙ sym same;
      count = omega arith;
      each = each_more f.listed.items f.nodes.items f.count i.each i.once n l none i.long;
      all = all_more f.listed.items f.nodes.items f.count i.each i.once n l none i.long i.all;
      once = once_more f.listed.items f.nodes.items f.count i.each i.once n l none i.long;
    }

pub returns-clause-listed : goal.returns-clause-listed
returns-clause-listed c =
    let f = c.self.inside in
    let i = c.self.invariant in
    let n = c.args.n in
    let l : n.0 < length f.listed.items = subst (λ w. n.0 < w.room) (sym c.self.view_is) c.requires in
    let r = fits f i n c.index.result.now l c.index.ensures c.if-index.false in
    let long = i.long in
    subst (λ (xs : List NodeId). IsPlace xs n.0) (sym (take_more_set f.nodes.items f.count n (omega arith))) (place_here (take f.count f.nodes.items) n)
