use Rattle.std.proofs.Common.{◌^◌, ◌≡◌, ◌<◌, length, map, ap, ◌∙◌, subst}
use Rattle.std.specs.List.{All}
use Rattle.std.specs.List.Sorted.{IsPermutation}
use Rattle.std.proofs.lemmas.Result.{IfOk-weaker}
use Rattle.history_rules.specs.Crew.{crew_order}
use Rattle.crew_list.specs.Listed.{outage_at}
use Rattle.crew_list.specs.declared.ranks.Rank.{Rank}
use Rattle.crew_list.proofs.Ranking.{places_fit, places_within, places_ordered}
use Rattle.crew_list.proofs.order.Goals as goal

pub places-requires : goal.places-requires
places-requires c =
    places_fit c.args.outages.now c.requires c.in_ok-ranks.ranks.items c.sort.new.self.items c.deref-4.result.now c.in_ok-ranks.ensures.ranks c.in_ok-sort.ensures.permutation (2 ^ 32)
    c.in_ok-ranks.ensures.fits c.deref-4.ensures.value

pub returns-clause-within : goal.returns-clause-within
returns-clause-within c =
    IfOk-weaker c.places.result (λ v. v.items ≡ map (λ (r : Rank). r.place) c.deref-4.result.now) (λ v. All (λ k. k < length c.args.outages.now) v.items)
    (λ v is. places_within c.args.outages.now c.sort.new.self.items (subst (λ rs. IsPermutation rs c.sort.new.self.items) c.in_ok-ranks.ensures.ranks c.in_ok-sort.ensures.permutation)
    v.items (is ∙ ap (map (λ (r : Rank). r.place)) c.deref-4.ensures.value))
    c.places.ensures

pub returns-clause-order : goal.returns-clause-order
returns-clause-order c =
    IfOk-weaker c.places.result (λ v. v.items ≡ map (λ (r : Rank). r.place) c.deref-4.result.now) (λ v. map (outage_at c.args.outages.now) v.items ≡ crew_order c.args.outages.now)
    (λ v is. places_ordered c.args.outages.now c.requires c.sort.new.self.items (subst (λ rs. IsPermutation rs c.sort.new.self.items) c.in_ok-ranks.ensures.ranks c.in_ok-sort.ensures.permutation)
    c.in_ok-sort.ensures.sorted v.items (is ∙ ap (map (λ (r : Rank). r.place)) c.deref-4.ensures.value))
    c.places.ensures
