use Rattle.std.proofs.Common.{◌≡◌, ◌<◌, ◌^◌, All}
use Rattle.crew_list.specs.Ranks.{ranks_of}
use Rattle.crew_list.proofs.ranks.all_ranks.Given as goal

abbrev pub invariant-loop-place : goal.invariant-loop-place
invariant-loop-place l = (l.ranks.items ≡ ranks_of l.outages l.place) × All (λ r. r.device < 2 ^ 32) l.ranks.items
