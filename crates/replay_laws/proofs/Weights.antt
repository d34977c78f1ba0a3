-- What the reports of events and the marked devices weigh at most.
use Rattle.std.proofs.Common.{ℕ, ◌+◌, ◌*◌, ◌<◌, ◌≤◌, Bool, true, false, cond, List, length, arith}
use Rattle.std.specs.Prelude.{◌==◌, Option, Some, None, if◌then◌else◌}
use Rattle.outage_rules.specs.Sum.{total}
use Rattle.outage_rules.specs.TightLaws.{whole_weight}
use Rattle.grid_model.specs.Parts.{Parts}
use Rattle.grid_model.specs.Places.{node_of, device_at}
use Rattle.grid_model.specs.Sound.{IsSoundParts, AreSoundSettings}
use Rattle.grid_model.specs.Problem as problem
use Rattle.grid_model.specs.declared.history.Event.{Event}
use Rattle.grid_model.specs.declared.history.Mark.{Mark}
use Rattle.grid_model.specs.declared.history.What.{What}
use Rattle.grid_model.specs.declared.history.What.TheVariants.{Call, Gasp, PingDown, PingUp, Powerup}
use Rattle.history_rules.specs.State.{is_closed, mark_of}
use Rattle.history_rules.specs.Evidence.{weight_of, weight_in, dark_weight, live_weight, counted_call, counted_dark_signal, counted_live_signal}
use Rattle.history_rules.specs.Posed.{at_node, problem_after}
use Rattle.bound_table.specs.Sound.{most_cost}
use Rattle.replay_laws.proofs.Totals.{total_add, total_swap, total_le_times, total_at_place}

-- each meter stands at one node
nodes_are_meters : (g : Parts) (w : ℕ → ℕ) (b : ℕ) → ((m : ℕ) → m < length g.meters → w m ≤ b) → total (length g.nodes) (at_node g w) ≤ length g.meters * b
nodes_are_meters g w b h =
    let swapped = total_swap (length g.nodes) (length g.meters) (λ n m. if node_of g m == n then w m else 0) in
    let all = total_le_times (length g.meters) (λ m. total (length g.nodes) (λ n. if node_of g m == n then w m else 0)) b
    (λ m l. let here = total_at_place (length g.nodes) (node_of g m) (w m) in let most = h m l in omega arith) in
    omega arith

-- what one report weighs
report_is_small : (g : Parts) → AreSoundSettings g.settings → (w : What) → weight_of g w ≤ 1000000
report_is_small g s (Call x) = s.most_weights 0 (omega arith)
report_is_small g s (Gasp x) = s.most_weights 1 (omega arith)
report_is_small g s (PingDown x) = s.most_weights 2 (omega arith)
report_is_small g s (PingUp x) = s.most_weights 3 (omega arith)
report_is_small g s (Powerup x) = s.most_weights 4 (omega arith)
report_is_small g s _ = omega arith

counted_is_small : (g : Parts) → AreSoundSettings g.settings → (o : Option Event) → weight_in g o ≤ 1000000
counted_is_small g s None = omega arith
counted_is_small g s (Some e) = report_is_small g s e.what

both_small : (a b : ℕ) → a ≤ 1000000 → b ≤ 1000000 → a + b ≤ 2000000
both_small a b l k = omega arith

dark_is_small : (g : Parts) (h : List Event) (m : ℕ) → AreSoundSettings g.settings → dark_weight g h m ≤ 2000000
dark_is_small g h m s =
    both_small (weight_in g (counted_call g h m)) (weight_in g (counted_dark_signal g h m))
    (counted_is_small g s (counted_call g h m)) (counted_is_small g s (counted_dark_signal g h m))

live_is_small : (g : Parts) (h : List Event) (m : ℕ) → AreSoundSettings g.settings → live_weight g h m ≤ 1000000
live_is_small g h m s = counted_is_small g s (counted_live_signal g h m)

-- what the marked devices weigh
counted_if : (b : Bool) (x most : ℕ) → x ≤ most → cond b x 0 ≤ most
counted_if true x most l = l
counted_if false x most l = omega arith

marked_are_small : (g : Parts) (mark : ℕ → Mark) → IsSoundParts g → total (length g.devices) (λ d. cond (problem.says_opened (mark d)) (device_at g d).weight 0) ≤ 400000000000
marked_are_small g mark sound =
    let all = total_le_times (length g.devices) (λ d. cond (problem.says_opened (mark d)) (device_at g d).weight 0) 1000000
    (λ d l. counted_if (problem.says_opened (mark d)) (device_at g d).weight 1000000 (sound.devices d l).most_weight) in
    let few = sound.few_devices in omega arith

whole_is_small : (g : Parts) (closed : ℕ → Bool) (mark : ℕ → Mark) (v w : ℕ → ℕ) → IsSoundParts g →
    total (length g.nodes) v ≤ 1000000000000 → total (length g.nodes) w ≤ 1000000000000 → whole_weight (problem.posed g closed mark v w) ≤ 1000000000000000
whole_is_small g closed mark v w sound l k =
    let marked = marked_are_small g mark sound in
    let both = total_add (length g.nodes) v w in omega arith

-- so a problem of events weighs no more than a cost may be
module _ (g : Parts) (h : List Event) (sound : IsSoundParts g) where
  dark_total : total (length g.nodes) (at_node g (dark_weight g h)) ≤ 1000000000000
  dark_total =
      let all = nodes_are_meters g (dark_weight g h) 2000000 (λ m l. dark_is_small g h m sound.settings) in
      let few = sound.few_meters in omega arith

  live_total : total (length g.nodes) (at_node g (live_weight g h)) ≤ 1000000000000
  live_total =
      let all = nodes_are_meters g (live_weight g h) 1000000 (λ m l. live_is_small g h m sound.settings) in
      let few = sound.few_meters in omega arith

  pub is_light : whole_weight (problem_after g h) ≤ most_cost
  unfolding problem_after
  is_light = whole_is_small g (is_closed g h) (mark_of g h) (at_node g (dark_weight g h)) (at_node g (live_weight g h)) sound dark_total live_total
