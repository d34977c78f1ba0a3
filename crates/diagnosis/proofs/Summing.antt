-- The pass of the least cost: rows of dark reports alone, in the starting states.
use Rattle.std.proofs.Common.{◌≡◌, ℕ, suc, ◌+◌, ◌<◌, ◌≤◌, min, Bool, true, false, cond, refl, sym, ap, ◌∙◌, subst, ⊎_elim, arith, List, length, get_or, set, replicate, Option, Some, None}
use Rattle.std.specs.Prelude.{option_map, sum}
use Rattle.std.proofs.Math.Path.{fun_ext}
use Rattle.std.proofs.lemmas.Bool.{cases_lt, false≢true}
use Rattle.std.proofs.lemmas.List.{get_or_past, get_or-replicate, length-replicate}
use Rattle.outage_rules.specs.Sum.{total}
use Rattle.outage_rules.specs.Network.{nothing, is_live}
use Rattle.outage_rules.specs.Diagnosis.{IsLeastCost}
use Rattle.outage_rules.specs.TreeOrder.{source_total}
use Rattle.outage_rules.specs.Certificate.{HasExactRows, bound_of}
use Rattle.outage_rules.proofs.Sums.{total_zero, total_le}
use Rattle.outage_rules.proofs.Radial.{forest_from_radial}
use Rattle.outage_rules.proofs.Exists.{bound_is_least}
use Rattle.outage_rules.proofs.Balance.{cond_zero}
use Rattle.grid_model.specs.declared.parts.NodeId.{NodeId}
use Rattle.grid_model.specs.declared.history.Mark.{Mark}
use Rattle.grid_model.specs.declared.history.Mark.TheVariants.{Nothing}
use Rattle.grid_model.specs.Parts.{Parts}
use Rattle.grid_model.specs.Places.{device_at}
use Rattle.grid_model.specs.Sound.{IsSoundParts}
use Rattle.grid_model.specs.Network.{network_in, network_of, problem_with}
use Rattle.grid_model.specs.Problem.{mark_at, posed, problem_of}
use Rattle.grid_model.proofs.SoundParts.{sound_network, sound_problem}
use Rattle.radial_forest.specs.Traversed.{Traversed, parent_in, node_at, table_of, IsTraversed}
use Rattle.diagnosis.specs.declared.above.Above.{Above}
use Rattle.diagnosis.specs.Passes.{above_by, with_rows}
use Rattle.diagnosis.proofs.Rows.{AreAdded}
use Rattle.diagnosis.proofs.Passing.{rows_none, rows_same, rows_more, rows_exact, node_within, set_other, set_here, total_is_sum, forest_with}

module _ (g : Parts) (dark : List ℕ) (v : Traversed) (sound : IsSoundParts g) (traversed : IsTraversed (network_of g) v)
    (each : length dark ≡ length g.nodes) (bound : sum dark ≤ 1000000000000) where
  dark_small : total (length g.nodes) (λ n. get_or dark n 0) ≤ 1000000000000
  dark_small = let a = total_is_sum (length g.nodes) dark each in omega arith

  live_small : total (length g.nodes) (λ n. 0) ≤ 1000000000000
  live_small = let a = total_zero (length g.nodes) (λ n. 0) (λ n l. refl) in omega arith

  pub weights_added : (order : List NodeId) → order ≡ v.order → AreAdded (problem_with g (λ n. get_or dark n 0)) v (length order) (λ n. get_or dark n 0) (λ n. 0)
  weights_added order is_order =
      subst (λ xs. AreAdded (problem_with g (λ n. get_or dark n 0)) v (length xs) (λ n. get_or dark n 0) (λ n. 0)) (sym is_order)
      (rows_none g (λ d. (device_at g d).starts_closed) (λ d. Nothing) (λ n. get_or dark n 0) (λ n. 0) v sound traversed dark_small live_small)

  module _ (rows : List ℕ) (order : List NodeId) (k i : ℕ) (is_order : order ≡ v.order) (l : k < length order) (is_i : i ≡ suc k)
      (later : AreAdded (problem_with g (λ n. get_or dark n 0)) v i (λ n. get_or rows n 0) (λ n. 0)) where
    within : k < length v.order
    within = subst (λ xs. k < length xs) is_order l

    pub source_added : ◌≡◌ {A = Option Above} None (option_map (above_by g (node_at order k)) (parent_in v.parents (node_at order k)))
        → AreAdded (problem_with g (λ n. get_or dark n 0)) v k (λ n. get_or rows n 0) (λ n. 0)
    source_added e =
        rows_same g (λ d. (device_at g d).starts_closed) (λ d. Nothing) (λ n. get_or dark n 0) (λ n. 0) v sound traversed dark_small live_small
        (λ n. get_or rows n 0) (λ n. 0) k i (node_at order k) within is_i (ap (λ xs. node_at xs k) is_order) later e

    pub node_added : (a : Above) (x : ℕ) → length rows ≡ length g.nodes → Some a ≡ option_map (above_by g (node_at order k)) (parent_in v.parents (node_at order k))
        → x ≡ min (get_or rows (node_at order k) 0) a.weight
        → AreAdded (problem_with g (λ n. get_or dark n 0)) v k (λ n. get_or (set rows a.node.0 (get_or rows a.node.0 0 + x)) n 0) (λ n. 0)
    node_added a x rows_each e is_x =
        let here = node_within g (λ d. (device_at g d).starts_closed) (λ d. Nothing) (λ n. get_or dark n 0) (λ n. 0) v sound traversed dark_small live_small
        (λ n. get_or rows n 0) (λ n. 0) k i (node_at order k) within is_i (ap (λ xs. node_at xs k) is_order) later a e in
        rows_more g (λ d. (device_at g d).starts_closed) (λ d. Nothing) (λ n. get_or dark n 0) (λ n. 0) v sound traversed dark_small live_small
        (λ n. get_or rows n 0) (λ n. 0) k i (node_at order k) within is_i (ap (λ xs. node_at xs k) is_order) later a e _ _
        (set_other rows a.node.0 (get_or rows a.node.0 0 + x)) (λ n ne. refl)
        (set_here rows a.node.0 (get_or rows a.node.0 0 + x) (omega arith) ∙ ap (λ z. get_or rows a.node.0 0 + z) (is_x ∙ turned (get_or rows (node_at order k) 0) a.weight))
        refl
      where
        turned : (r w : ℕ) → min r w ≡ min (w + 0) r
        turned r w = omega arith

  pub all_added : (rows : List ℕ) (i : ℕ) → i ≡ 0 → AreAdded (problem_with g (λ n. get_or dark n 0)) v i (λ n. get_or rows n 0) (λ n. 0)
      → HasExactRows (problem_with g (λ n. get_or dark n 0)) (with_rows v (λ n. get_or rows n 0) (λ n. 0))
  all_added rows i e all =
      rows_exact g (λ d. (device_at g d).starts_closed) (λ d. Nothing) (λ n. get_or dark n 0) (λ n. 0) v sound traversed dark_small live_small (λ n. get_or rows n 0) (λ n. 0) i e all

  module _ (rows : List ℕ) (exact : HasExactRows (problem_with g (λ n. get_or dark n 0)) (with_rows v (λ n. get_or rows n 0) (λ n. 0))) where
    sources_are : bound_of (problem_with g (λ n. get_or dark n 0)) (with_rows v (λ n. get_or rows n 0) (λ n. 0)) ≡ source_total (network_of g) (λ n. get_or rows n 0)
    sources_are =
        let reports = total_zero (length g.nodes) (λ n. cond ((table_of v).is_listed n) 0 0) (λ n l. cond_zero ((table_of v).is_listed n)) in
        let marks = total_zero (length g.devices) (λ d. 0) (λ d l. refl) in
        omega arith

    -- the sources' rows come to the least cost
    pub sources_are_least : IsLeastCost (problem_with g (λ n. get_or dark n 0)) (source_total (network_of g) (λ n. get_or rows n 0))
    sources_are_least =
        subst (IsLeastCost (problem_with g (λ n. get_or dark n 0))) sources_are
        (bound_is_least (problem_with g (λ n. get_or dark n 0)) (with_rows v (λ n. get_or rows n 0) (λ n. 0)) (sound_problem g (λ n. get_or dark n 0) sound)
        (forest_with (network_of g) v (forest_from_radial (network_of g) (table_of v) (sound_network g sound) traversed.rooted traversed.whole sound.radial) (λ n. get_or rows n 0) (λ n. 0)) exact)

    -- opening nothing costs the dark weights at most
    pub sources_are_small : source_total (network_of g) (λ n. get_or rows n 0) ≤ sum dark
    sources_are_small =
        let p = problem_with g (λ n. get_or dark n 0) in
        let empty = sources_are_least.least nothing (record { closed = λ d l c. absurd (false≢true c); opened = λ d l o. o; fine = λ d l k. refl }) in
        let cuts = total_zero (length g.devices) (λ d. 0) (λ d l. refl) in
        let reports = total_le (length g.nodes) (λ n. cond (is_live p.net nothing n) (get_or dark n 0) 0) (λ n. get_or dark n 0) (λ n l. at_most (is_live p.net nothing n) (get_or dark n 0)) in
        let all = total_is_sum (length g.nodes) dark each in
        omega arith
      where
        at_most : (b : Bool) (x : ℕ) → cond b x 0 ≤ x
        at_most true x = omega arith
        at_most false x = omega arith

-- where each device is closed that starts closed, the network is in its starting state
pub starts : (g : Parts) (closed : List Bool) → ((d : ℕ) → get_or closed d false ≡ (device_at g d).starts_closed) → network_in g (λ d. get_or closed d false) ≡ network_of g
starts g closed states = ap (network_in g) (fun_ext states)

-- a list of one value reads as that value
pub all_alike : {X : Type 0} (n : ℕ) (x : X) (k : ℕ) → get_or (replicate n x) k x ≡ x
all_alike n x k =
    ⊎_elim
    (λ l. get_or-replicate n k x x l)
    (λ l. get_or_past (replicate n x) k x (let e = length-replicate n x in omega arith))
    (cases_lt k n)

-- nothing is marked
pub unmarked : (g : Parts) (marks : List Mark) → marks ≡ replicate (length g.devices) Nothing → (d : ℕ) → mark_at marks d ≡ Nothing
unmarked g marks is_marks d = ap (λ xs. mark_at xs d) is_marks ∙ all_alike (length g.devices) Nothing d

-- where in addition nothing is marked and nothing weighs, this is the problem without reports
pub without_reports : (g : Parts) (closed : List Bool) (marks : List Mark) (dark live : List ℕ) → ((d : ℕ) → get_or closed d false ≡ (device_at g d).starts_closed)
    → marks ≡ replicate (length g.devices) Nothing → dark ≡ replicate (length g.nodes) 0 → live ≡ replicate (length g.nodes) 0 → problem_of g closed marks dark live ≡ problem_with g (λ n. 0)
without_reports g closed marks dark live states is_marks is_dark is_live =
    ap (λ f. posed g f (mark_at marks) (λ n. get_or dark n 0) (λ n. get_or live n 0)) (fun_ext states)
    ∙ ap (λ f. posed g (λ d. (device_at g d).starts_closed) f (λ n. get_or dark n 0) (λ n. get_or live n 0)) (fun_ext (λ d. unmarked g marks is_marks d))
    ∙ ap (λ f. posed g (λ d. (device_at g d).starts_closed) (λ d. Nothing) f (λ n. get_or live n 0)) (fun_ext (λ n. ap (λ xs. get_or xs n 0) is_dark ∙ all_alike (length g.nodes) 0 n))
    ∙ ap (λ f. posed g (λ d. (device_at g d).starts_closed) (λ d. Nothing) (λ n. 0) f) (fun_ext (λ n. ap (λ xs. get_or xs n 0) is_live ∙ all_alike (length g.nodes) 0 n))
