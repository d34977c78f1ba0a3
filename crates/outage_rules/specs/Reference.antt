-- A table and a cut that can be computed from walks alone, and a test that shows the cut to be the diagnosis.
use Rattle.std.specs.Prelude.{ℕ, zero, suc, ◌+◌, Bool, true, ◌&&◌, ◌||◌, not, ◌==◌, nat_lt, nat_le, if◌then◌else◌, ◌-◌}
use Rattle.outage_rules.specs.Sum.{total, some_below}
use Rattle.outage_rules.specs.Network.{Network, Problem, Cut, usable, live_within, is_live, nothing}
use Rattle.outage_rules.specs.Diagnosis.{cost}
use Rattle.outage_rules.specs.Certificate.{Table, has_parent, upper, is_child, choice, dark_share, lit, is_cheaper_open}

-- whether the device is the parent device of a node
abbrev pub is_parent_of : Problem → Table → ℕ → ℕ → Bool
is_parent_of p t d n = has_parent p.net t n && (t.parent n == d)

-- the end whose parent device it is
abbrev pub lower : Problem → Table → ℕ → ℕ
lower p t d = if is_parent_of p t d (p.to d) then p.to d else p.from d

-- the devices that cost less open, where the node above is live
abbrev pub wanted : Problem → Table → Cut
wanted p t d = p.marked_open d || is_cheaper_open p t (lower p t d)

abbrev pub greedy : Problem → Table → Cut
greedy p t d =
    p.is_closed d
    && (p.marked_open d
    || (is_parent_of p t d (lower p t d) && (lit p.net t (wanted p t) (upper p.net t (lower p t d)) && is_cheaper_open p t (lower p t d))))

-- the least number below a bound that passes, or the bound
abbrev pub least_below : ℕ → (ℕ → Bool) → ℕ
least_below zero test = 0
least_below (suc b) test = if test 0 then 0 else suc (least_below b (λ k. test (suc k)))

-- the last number below a bound that passes, or 0
abbrev pub last_below : ℕ → (ℕ → Bool) → ℕ
last_below zero test = 0
last_below (suc n) test = if test n then n else last_below n test

-- how many devices the shortest walk from a source to the node has
abbrev pub distance : Network → ℕ → ℕ
distance g n = least_below g.nodes (λ k. live_within g nothing k n)

-- a closed device joins the node to one of these
abbrev pub leads_to : Network → (ℕ → Bool) → ℕ → ℕ → Bool
leads_to g on n d = usable g nothing d && ((g.to d == n && on (g.from d)) || (g.from d == n && on (g.to d)))

pub record Costs : Type 0 where
  pub live : ℕ → ℕ
  pub dark : ℕ → ℕ

-- the fed nodes, each with the last device of a shortest walk
abbrev pub table_with : Problem → Costs → Table
table_with p c = record {
  is_listed = is_live p.net nothing;
  parent = λ n. last_below p.devices (leads_to p.net (live_within p.net nothing (distance p.net n - 1)) n);
  depth = distance p.net;
  live_cost = c.live;
  dark_cost = c.dark;
}

-- each round makes the rows of one more rank exact, from the leaves up
abbrev pub costs_within : Problem → ℕ → Costs
costs_within p zero = record { live = λ n. 0; dark = λ n. 0 }
costs_within p (suc k) =
    let t = table_with p (costs_within p k) in
    record {
      live = λ n. p.dark_weight n + total p.nodes (λ m. if is_child p.net t n m then choice p t m else 0);
      dark = λ n. p.live_weight n + total p.nodes (λ m. if is_child p.net t n m then dark_share p t m else 0);
    }

abbrev pub table_of : Problem → Table
table_of p = table_with p (costs_within p (suc p.nodes))

abbrev pub reference_cut : Problem → Cut
reference_cut p = greedy p (table_of p)

-- what the computed cut costs
unfoldable pub least_cost : Problem → ℕ
least_cost p = cost p (reference_cut p)

abbrev pub all_below : ℕ → (ℕ → Bool) → Bool
all_below zero test = true
all_below (suc n) test = all_below n test && test n

abbrev pub implies : Bool → Bool → Bool
implies a b = not a || b

abbrev pub test_network : Network → Bool
test_network g = all_below g.devices (λ d. nat_lt (g.from d) g.nodes && (nat_lt (g.to d) g.nodes && not (g.from d == g.to d)))

abbrev pub test_weights : Problem → Bool
test_weights p = all_below p.devices (λ d. nat_le 1 (p.weight d) && implies (p.marked_open d) (p.is_closed d && not (p.marked_ok d)))

abbrev pub test_sources : Network → Table → Bool
test_sources g t = all_below g.nodes (λ n. implies (g.is_source n) (t.is_listed n && (t.depth n == 0)))

abbrev pub test_parent : Network → Table → ℕ → Bool
test_parent g t n =
    nat_lt (t.parent n) g.devices && (g.is_closed (t.parent n) && ((g.from (t.parent n) == n || g.to (t.parent n) == n)
    && (t.is_listed (upper g t n) && (t.depth n == suc (t.depth (upper g t n))))))

abbrev pub test_stray : Network → Table → ℕ → Bool
test_stray g t d =
    some_below g.nodes (λ n. has_parent g t n && (t.parent n == d)) || (not (t.is_listed (g.from d)) && not (t.is_listed (g.to d)))

abbrev pub test_forest : Network → Table → Bool
test_forest g t =
    test_sources g t
    && (all_below g.nodes (λ n. implies (has_parent g t n) (test_parent g t n)) && all_below g.devices (λ d. implies (g.is_closed d) (test_stray g t d)))

abbrev pub test_rows : Problem → Table → Bool
test_rows p t =
    all_below p.nodes (λ n. implies (t.is_listed n)
    ((t.live_cost n == p.dark_weight n + total p.nodes (λ m. if is_child p.net t n m then choice p t m else 0))
    && (t.dark_cost n == p.live_weight n + total p.nodes (λ m. if is_child p.net t n m then dark_share p t m else 0))))

-- the table is one with exact rows
abbrev pub test_table : Problem → Table → Bool
test_table p t = test_network p.net && (test_weights p && (test_forest p.net t && test_rows p t))
