-- What a field after events poses, and how large its sums are.
use Rattle.std.proofs.Common.{◌≡◌, ℕ, zero, suc, ◌+◌, ◌*◌, ◌<◌, ◌≤◌, Bool, true, false, cond, List, length, get_or, take, refl, sym, ap, ◌∙◌, subst, arith}
use Rattle.std.specs.Prelude.{◌==◌, Option, Some, None, if◌then◌else◌, slice_index, slice_index_or, sum}
use Rattle.std.proofs.Math.Path.{fun_ext}
use Rattle.std.proofs.Math.Seq.{take-length}
use Rattle.std.proofs.lemmas.List.Sums.{sum_by_more}
use Rattle.outage_rules.specs.Sum.{total}
use Rattle.outage_rules.specs.TightLaws.{whole_weight}
use Rattle.grid_model.specs.Parts.{Parts}
use Rattle.grid_model.specs.Places.{node_of, device_at}
use Rattle.grid_model.specs.Sound.{IsSoundParts, AreSoundSettings}
use Rattle.grid_model.specs.Problem as problem
use Rattle.grid_model.specs.declared.history.Event.{Event}
use Rattle.grid_model.specs.declared.history.Mark.{Mark}
use Rattle.grid_model.specs.declared.history.What.{What}
use Rattle.grid_model.specs.declared.history.What.TheVariants.{Call, Gasp, PingDown, PingUp, Powerup}
use Rattle.history_rules.specs.State.{is_closed, mark_of}
use Rattle.history_rules.specs.Evidence.{weight_of, weight_in, dark_weight, live_weight, counted_call, counted_dark_signal, counted_live_signal}
use Rattle.history_rules.specs.Posed.{at_node, problem_after}
use Rattle.history_rules.specs.Laws.{HistoryIsWithinGrid, ProblemIsSound}
use Rattle.field_state.specs.Fielded.{Fielded, IsFieldAfter, PosesAfter}
use Rattle.field_state.proofs.Totals.{total_same, total_add, total_swap, total_le_times, total_at_place}

-- the sum over the places of a list is that of the list
total_of_front : (n : ℕ) (xs : List ℕ) → n ≤ length xs → total n (λ k. get_or xs k 0) ≡ sum (take n xs)
total_of_front zero xs l = refl
total_of_front (suc n) xs l =
    let rest = total_of_front n xs (omega arith) in
    let more : sum (take (n + 1) xs) ≡ sum (take n xs) + get_or xs n 0 = sum_by_more (λ x. x) xs n 0 (omega arith) in
    let one : n + 1 ≡ suc n = omega arith in
    let same = ap (λ k. sum (take k xs)) one in omega arith

total_of_list : (n : ℕ) (xs : List ℕ) → length xs ≡ n → total n (λ k. get_or xs k 0) ≡ sum xs
total_of_list n xs e = subst (λ m. total m (λ k. get_or xs k 0) ≡ sum xs) e (total_of_front (length xs) xs (omega arith) ∙ ap sum (take-length xs))

-- each meter stands at one node
pub nodes_are_meters : (g : Parts) (w : ℕ → ℕ) (b : ℕ) → ((m : ℕ) → m < length g.meters → w m ≤ b) → total (length g.nodes) (at_node g w) ≤ length g.meters * b
nodes_are_meters g w b h =
    let swapped = total_swap (length g.nodes) (length g.meters) (λ n m. if node_of g m == n then w m else 0) in
    let all = total_le_times (length g.meters) (λ m. total (length g.nodes) (λ n. if node_of g m == n then w m else 0)) b
    (λ m l. let here = total_at_place (length g.nodes) (node_of g m) (w m) in let most = h m l in omega arith) in
    omega arith

pub sum_at_nodes : (g : Parts) (xs : List ℕ) (w : ℕ → ℕ) → length xs ≡ length g.nodes → ((n : ℕ) → slice_index xs n ≡ at_node g w n) → sum xs ≡ total (length g.nodes) (at_node g w)
sum_at_nodes g xs w e h = sym (total_of_list (length g.nodes) xs e) ∙ total_same (length g.nodes) (λ k. get_or xs k 0) (at_node g w) (λ k l. h k)

-- what one report weighs
report_is_small : (g : Parts) → AreSoundSettings g.settings → (w : What) → weight_of g w ≤ 1000000
report_is_small g s (Call x) = s.most_weights 0 (omega arith)
report_is_small g s (Gasp x) = s.most_weights 1 (omega arith)
report_is_small g s (PingDown x) = s.most_weights 2 (omega arith)
report_is_small g s (PingUp x) = s.most_weights 3 (omega arith)
report_is_small g s (Powerup x) = s.most_weights 4 (omega arith)
report_is_small g s _ = omega arith

counted_is_small : (g : Parts) → AreSoundSettings g.settings → (o : Option Event) → weight_in g o ≤ 1000000
counted_is_small g s None = omega arith
counted_is_small g s (Some e) = report_is_small g s e.what

both_small : (a b : ℕ) → a ≤ 1000000 → b ≤ 1000000 → a + b ≤ 2000000
both_small a b l k = omega arith

dark_is_small : (g : Parts) (h : List Event) (m : ℕ) → AreSoundSettings g.settings → dark_weight g h m ≤ 2000000
dark_is_small g h m s =
    both_small (weight_in g (counted_call g h m)) (weight_in g (counted_dark_signal g h m))
    (counted_is_small g s (counted_call g h m)) (counted_is_small g s (counted_dark_signal g h m))

live_is_small : (g : Parts) (h : List Event) (m : ℕ) → AreSoundSettings g.settings → live_weight g h m ≤ 1000000
live_is_small g h m s = counted_is_small g s (counted_live_signal g h m)

-- what the marked devices weigh
counted_if : (b : Bool) (x most : ℕ) → x ≤ most → cond b x 0 ≤ most
counted_if true x most l = l
counted_if false x most l = omega arith

marked_are_small : (g : Parts) (mark : ℕ → Mark) → IsSoundParts g → total (length g.devices) (λ d. cond (problem.says_opened (mark d)) (device_at g d).weight 0) ≤ 400000000000
marked_are_small g mark sound =
    let all = total_le_times (length g.devices) (λ d. cond (problem.says_opened (mark d)) (device_at g d).weight 0) 1000000
    (λ d l. counted_if (problem.says_opened (mark d)) (device_at g d).weight 1000000 (sound.devices d l).most_weight) in
    let few = sound.few_devices in omega arith

whole_is_small : (g : Parts) (closed : ℕ → Bool) (mark : ℕ → Mark) (v w : ℕ → ℕ) → IsSoundParts g →
    total (length g.nodes) v ≤ 1000000000000 → total (length g.nodes) w ≤ 1000000000000 → whole_weight (problem.posed g closed mark v w) ≤ 1000000000000000
whole_is_small g closed mark v w sound l k =
    let marked = marked_are_small g mark sound in
    let both = total_add (length g.nodes) v w in omega arith

posed_same : (g : Parts) (c d : ℕ → Bool) (m n : ℕ → Mark) (v w x y : ℕ → ℕ) → ((k : ℕ) → c k ≡ d k) → ((k : ℕ) → m k ≡ n k) → ((k : ℕ) → v k ≡ w k) → ((k : ℕ) → x k ≡ y k) →
    problem.posed g c m v x ≡ problem.posed g d n w y
posed_same g c d m n v w x y closed marks dark live =
    ap (λ f. problem.posed g f m v x) (fun_ext {f = c} {g = d} closed)
    ∙ (ap (λ f. problem.posed g d f v x) (fun_ext {f = m} {g = n} marks)
    ∙ (ap (λ f. problem.posed g d n f x) (fun_ext {f = v} {g = w} dark) ∙ ap (λ f. problem.posed g d n w f) (fun_ext {f = x} {g = y} live)))

module _ (g : Parts) (h : List Event) (f : Fielded) (after : IsFieldAfter g h f) where
  dark_sum : sum f.dark ≡ total (length g.nodes) (at_node g (dark_weight g h))
  dark_sum = sum_at_nodes g f.dark (dark_weight g h) after.dark_each after.dark

  live_sum : sum f.live ≡ total (length g.nodes) (at_node g (live_weight g h))
  live_sum = sum_at_nodes g f.live (live_weight g h) after.live_each after.live

  dark_total : total (length g.nodes) (at_node g (dark_weight g h)) ≤ 1000000000000
  dark_total =
      let all = nodes_are_meters g (dark_weight g h) 2000000 (λ m l. dark_is_small g h m after.sound.settings) in
      let few = after.sound.few_meters in omega arith

  live_total : total (length g.nodes) (at_node g (live_weight g h)) ≤ 1000000000000
  live_total =
      let all = nodes_are_meters g (live_weight g h) 1000000 (λ m l. live_is_small g h m after.sound.settings) in
      let few = after.sound.few_meters in omega arith

  posed_is : problem.problem_of g f.forest.closed f.marks f.dark f.live ≡ problem_after g h
  unfolding problem_after
  posed_is =
      posed_same g (λ d. slice_index_or f.forest.closed d false) (is_closed g h) (problem.mark_at f.marks) (mark_of g h)
      (slice_index f.dark) (at_node g (dark_weight g h)) (slice_index f.live) (at_node g (live_weight g h)) after.closed after.marks after.dark after.live

  whole_bound : whole_weight (problem_after g h) ≤ 1000000000000000
  unfolding problem_after
  whole_bound = whole_is_small g (is_closed g h) (mark_of g h) (at_node g (dark_weight g h)) (at_node g (live_weight g h)) after.sound dark_total live_total

  poses : HistoryIsWithinGrid → ProblemIsSound → PosesAfter g h f
  poses within well = record {
    posed = posed_is;
    radial = after.forest.radial;
    states_each = after.forest.states_each;
    marked = λ d e. after.closed d ∙ (within g h after.history).marked d (sym (ap problem.says_opened (after.marks d)) ∙ e);
    dark_bound = subst (λ x. x ≤ 1000000000000) (sym dark_sum) dark_total;
    live_bound = subst (λ x. x ≤ 1000000000000) (sym live_sum) live_total;
    posed_well = well g h after.sound after.history;
    whole_bound = whole_bound;
  }

pub field_poses : HistoryIsWithinGrid → ProblemIsSound → (g : Parts) (h : List Event) (f : Fielded) → IsFieldAfter g h f → PosesAfter g h f
field_poses within well g h f after = poses g h f after within well
