-- How each condition of the local check fails at a place.
use Rattle.std.specs.Prelude.{ℕ, ◌+◌, Bool, ◌&&◌, not, ◌==◌, nat_lt, if◌then◌else◌}
use Rattle.outage_rules.specs.Sum.{total}
use Rattle.outage_rules.specs.Network.{Network, Problem, Cut}
use Rattle.outage_rules.specs.Certificate.{Table, has_parent, is_child, choice, dark_share, cost_by_table, bound_of}
use Rattle.outage_rules.specs.Reference.{test_parent, test_stray}

-- a device of the cut that isn't closed
abbrev pub is_not_closed : Network → Cut → ℕ → Bool
is_not_closed g cut d = cut d && not (g.is_closed d)

-- a device of the cut that is marked ok
abbrev pub is_cut_though_ok : Problem → Cut → ℕ → Bool
is_cut_though_ok p cut d = cut d && p.marked_ok d

-- a device that is marked open and isn't in the cut
abbrev pub is_missing : Problem → Cut → ℕ → Bool
is_missing p cut d = p.marked_open d && not (cut d)

-- a source that isn't listed without a parent and at depth 0
abbrev pub is_bad_source : Network → Table → ℕ → Bool
is_bad_source g t n = g.is_source n && not (t.is_listed n && (t.parent n == g.devices && t.depth n == 0))

-- a listed node that is no source and has no closed parent device to a listed node at a depth one less
abbrev pub has_bad_parent : Network → Table → ℕ → Bool
has_bad_parent g t n = has_parent g t n && not (test_parent g t n)

-- a closed device that is no parent device and has a listed end
abbrev pub is_stray : Network → Table → ℕ → Bool
is_stray g t d = g.is_closed d && not (test_stray g t d)

-- what the children of a node allow while it is live
abbrev pub most_live : Problem → Table → ℕ → ℕ
most_live p t n = p.dark_weight n + total p.nodes (λ m. if is_child p.net t n m then choice p t m else 0)

-- and while it is dark
abbrev pub most_dark : Problem → Table → ℕ → ℕ
most_dark p t n = p.live_weight n + total p.nodes (λ m. if is_child p.net t n m then dark_share p t m else 0)

-- a listed node whose live cost is above what its children allow
abbrev pub is_live_above : Problem → Table → ℕ → Bool
is_live_above p t n = t.is_listed n && nat_lt (most_live p t n) (t.live_cost n)

-- a listed node whose dark cost is above what its children allow
abbrev pub is_dark_above : Problem → Table → ℕ → Bool
is_dark_above p t n = t.is_listed n && nat_lt (most_dark p t n) (t.dark_cost n)

-- the cut doesn't cost so much
abbrev pub costs_otherwise : Problem → Table → Cut → ℕ → Bool
costs_otherwise p t cut c = not (cost_by_table p t cut == c)

-- the rows of the sources and the unlisted parts don't come to so much
abbrev pub adds_up_otherwise : Problem → Table → ℕ → Bool
adds_up_otherwise p t c = not (bound_of p t == c)
