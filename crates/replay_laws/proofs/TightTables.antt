-- Tight bounds are of the network, and within the ranges of numbers.
use Rattle.std.proofs.Common.{◌≡◌, ℕ, ◌<◌, ◌≤◌, Bool, true, false, cond, refl, ap, ◌∙◌, arith, length, get_or, Some, None}
use Rattle.std.specs.Prelude.{◌&&◌, not, All, IfSome}
use Rattle.std.specs.List.{filter, range_with_len}
use Rattle.std.proofs.lemmas.List.Elements.{All-map, filter_passes}
use Rattle.outage_rules.specs.Network.{Problem, IsSound, IsRadial}
use Rattle.outage_rules.specs.Reference.{table_of, reference_cut}
use Rattle.outage_rules.specs.Agreement.{ReferenceTableIsExact}
use Rattle.outage_rules.specs.TightLaws.{whole_weight, RowsAreBounded, LeastIsBounded, DistanceIsBounded}
use Rattle.grid_model.specs.Parts.{Parts}
use Rattle.grid_model.specs.declared.parts.DeviceId.{DeviceId}
use Rattle.bound_table.specs.Sound.{most_cost, IsRowOf, IsTableOf}
use Rattle.bound_table.specs.Tight.{row_at, tight_bounds}
use Rattle.replay_laws.proofs.KeptNumbers.{kept_below, kept_rise}

module _ (g : Parts) (p : Problem) (nodes : p.nodes ≡ length g.nodes) (devices : p.devices ≡ length g.devices) (few : length g.nodes ≤ 200000)
    (sound : IsSound p) (radial : IsRadial p.net) (light : whole_weight p ≤ most_cost)
    (exact_table : ReferenceTableIsExact) (rows_bounded : RowsAreBounded) (least_bounded : LeastIsBounded) (distance_bounded : DistanceIsBounded) where
  row_within : (n : ℕ) → n < p.nodes → (table_of p).is_listed n ≡ true → IsRowOf g (row_at p (table_of p) n)
  row_within n l fed =
      let exact = exact_table p sound radial in
      let small = rows_bounded p (table_of p) sound exact.0 exact.1 n l fed in
      let live = small.0 in
      let dark = small.1 in
      let deep = distance_bounded p.net n in
      record {
        node = omega arith;
        parent = parent_within (p.is_source n) (λ e.
            let h = (exact.0.parent n l (ap (λ b. b && not (p.is_source n)) fed ∙ ap not e)).within in omega arith);
        depth = omega arith;
        live = omega arith;
        dark = omega arith;
      }
    where
      parent_within : (source : Bool) → (source ≡ false → (table_of p).parent n < length g.devices)
          → IfSome {T = DeviceId} (cond source None (Some (record { 0 = (table_of p).parent n }))) (λ d. d.0 < length g.devices)
      parent_within true h = tt
      parent_within false h = h refl

  rows_within : All (λ n. IsRowOf g (row_at p (table_of p) n)) (filter (table_of p).is_listed (range_with_len 0 p.nodes))
  rows_within k d l =
      let xs = filter (table_of p).is_listed (range_with_len 0 p.nodes) in
      row_within (get_or xs k d) (kept_below (table_of p).is_listed p.nodes k d l) (filter_passes (table_of p).is_listed (range_with_len 0 p.nodes) k d l)

  pub tight_within : IsTableOf g (tight_bounds p)
  unfolding tight_bounds
  tight_within =
      let least = least_bounded p sound radial in
      record {
        cost = omega arith;
        cuts = All-map (λ d. d.0 < length g.devices) (λ d. record { 0 = d }) (filter (reference_cut p) (range_with_len 0 p.devices))
            (λ k d l. let x = kept_below (reference_cut p) p.devices k d l in omega arith);
        rows = All-map (IsRowOf g) (row_at p (table_of p)) (filter (table_of p).is_listed (range_with_len 0 p.nodes)) rows_within;
        cuts_ascend = kept_rise (λ d. d.0) (λ d. record { 0 = d }) (reference_cut p) p.devices (λ k. refl);
        rows_ascend = kept_rise (λ r. r.node.0) (row_at p (table_of p)) (table_of p).is_listed p.nodes (λ k. refl);
      }
