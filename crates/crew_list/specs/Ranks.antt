-- What outages are ordered by.
use Rattle.std.specs.Prelude.{ℕ, List, map}
use Rattle.std.specs.List.{range_with_len}
use Rattle.grid_model.specs.declared.history.Outage.{Outage}
use Rattle.history_rules.specs.Crew.{top_of, count_above, group_customers, group_since, has_none, second_or_zero}
use Rattle.crew_list.specs.Listed.{outage_at}
use Rattle.crew_list.specs.Chains.{device_at}
use Rattle.crew_list.specs.declared.ranks.Rank.{Rank}

abbrev pub rank_of : List Outage → ℕ → Rank
rank_of all k = record {
  customers = record { 0 = group_customers all (top_of all (outage_at all k)) };
  without_second = has_none (group_since all (top_of all (outage_at all k)));
  second = second_or_zero (group_since all (top_of all (outage_at all k)));
  top = top_of all (outage_at all k);
  above = count_above all (outage_at all k);
  device = device_at all k;
  place = k;
}

abbrev pub ranks_of : List Outage → ℕ → List Rank
ranks_of all n = map (rank_of all) (range_with_len 0 n)
