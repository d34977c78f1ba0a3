-- What outages of one group come to.
use Rattle.std.specs.Prelude.{◌≡◌, ◌==◌, ◌<◌, ◌+◌, ℕ, List, None, length, filter, fold, option_map, sum_by, slice_index_or}
use Rattle.grid_model.specs.declared.history.Outage.{Outage}
use Rattle.history_rules.specs.Evidence.{earliest}
use Rattle.history_rules.specs.Crew.{top_of}
use Rattle.crew_list.specs.Chains.{device_at}
use Rattle.crew_list.specs.declared.groups.Group.{Group}

abbrev pub no_group : Group
no_group = record { customers = 0; since = None }

abbrev pub group_with : Group → Outage → Group
group_with g o = record { customers = g.customers + o.customers; since = earliest g.since (option_map (λ s. s.0) o.since) }

-- the customers of outages, and their earliest second
abbrev pub group_from : List Outage → Group
group_from os = record { customers = sum_by (λ q. q.customers) os; since = fold (λ t q. earliest t (option_map (λ s. s.0) q.since)) None os }

-- the group of the outage at each place, of those among some outages that stand below it
pub record IsGrouped (all some : List Outage) (groups : List Group) : Type 0 where
  pub each : length groups ≡ length all
  pub group : (p : ℕ) → p < length all → slice_index_or groups p no_group ≡ group_from (filter (λ q. top_of all q == device_at all p) some)
