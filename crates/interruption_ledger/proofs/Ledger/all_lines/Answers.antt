use Rattle.std.proofs.Common.{◌++◌, ap, ◌∙◌, rules}
use Rattle.std.proofs.lemmas.List.Sorted.{IsNonDecreasingBy-from_sort_by_key, answers_always}
use Rattle.interruption_ledger.specs.Inside.{open_lines}
use Rattle.interruption_ledger.proofs.Listing.{listed}
use Rattle.interruption_ledger.proofs.Ledger.all_lines.Goals as goal

pub returns : goal.returns
returns c =
    let l = c.self.inside in
    listed l.dark.items l.starts.items l.ended.items c.push_open_lines.new.lines.items c.sort_by_key.new.self.items c.args.self.now
    (ap (λ k. k.meters) c.self.view_is) c.self.invariant.each c.self.invariant.within
    (c.in_ok-push_open_lines.ensures ∙ ap (λ xs. c.in_ok-lines.lines.items ++ open_lines xs) c.deref.ensures.value ∙ ap (λ ls. ls ++ open_lines l.starts.items) (c.in_ok-lines.ensures.items_if_clones_equal (λ x y e. e) ∙ c.as_slice.ensures.value))
    c.in_ok-sort_by_key.ensures.permutation
    (IsNonDecreasingBy-from_sort_by_key (λ line. line.meter.0) _ c.in_ok-sort_by_key.ensures.sorted (λ a r q k. search rules))
    (c.in_ok-sort_by_key.ensures.stable (λ line. line.meter.0) (answers_always _ _ _ (λ f a r g h. search rules)))
