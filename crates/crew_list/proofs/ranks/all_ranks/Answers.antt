use Rattle.std.proofs.Common.{◌<◌, ◌^◌}
use Rattle.std.proofs.lemmas.List.Elements.{All-push, All-same}
use Rattle.crew_list.proofs.Ranking.{ranks_more}
use Rattle.crew_list.proofs.ranks.all_ranks.Goals as goal

pub loop-place-preserved : goal.loop-place-preserved
loop-place-preserved c = (
  ranks_more c.args.outages.now c.loop-place.place c.loop-place.ranks.items _ c.rank_at.result c.loop-place.invariant.0 c.rank_at.ensures.rank c.in_ok-push.ensures.items,
  All-same (λ r. r.device < 2 ^ 32) _ _ c.in_ok-push.ensures.items (All-push (λ r. r.device < 2 ^ 32) c.loop-place.ranks.items c.rank_at.result c.loop-place.invariant.1 c.rank_at.ensures.fits),
)
