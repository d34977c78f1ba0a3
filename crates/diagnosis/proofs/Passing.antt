-- One node of a pass, by the device from which it hangs.
use Rattle.std.proofs.Common.{◌≡◌, ◌≢◌, ℕ, zero, suc, ◌+◌, ◌<◌, ◌≤◌, Bool, true, false, refl, sym, ap, ◌∙◌, subst, ⊎_elim, arith, List, length, get_or, set, Option, Some, None, is_some}
use Rattle.std.specs.Prelude.{option_map, sum}
use Rattle.std.proofs.lemmas.Bool.{cases_eq}
use Rattle.std.proofs.lemmas.List.{get_or-set_same, get_or-set_other}
use Rattle.outage_rules.specs.Sum.{total}
use Rattle.outage_rules.specs.Network.{Network, IsSoundNetwork, nothing}
use Rattle.outage_rules.specs.Certificate.{has_parent, IsForest, HasExactRows}
use Rattle.outage_rules.proofs.Lists.{total_list}
use Rattle.outage_rules.proofs.Rooted.{up_within}
use Rattle.grid_model.specs.declared.parts.DeviceId.{DeviceId}
use Rattle.grid_model.specs.declared.history.Mark.{Mark}
use Rattle.grid_model.specs.Parts.{Parts}
use Rattle.grid_model.specs.Sound.{IsSoundParts}
use Rattle.grid_model.specs.Network.{network_in}
use Rattle.grid_model.specs.Problem.{posed}
use Rattle.grid_model.proofs.SoundParts.{sound_network}
use Rattle.radial_forest.specs.Traversed.{Traversed, parent_in, number_of_device, node_at, table_of, IsTraversed}
use Rattle.diagnosis.specs.declared.above.Above.{Above}
use Rattle.diagnosis.specs.Passes.{above_by, live_added, dark_added, with_rows}
use Rattle.diagnosis.proofs.Rows.{AreAdded, IsLight, added_none, passed_over, added_more, exact}

-- what the device above a node is
above_is : (g : Parts) (n : ℕ) (o : Option DeviceId) (a : Above) → Some a ≡ option_map (above_by g n) o → (a ≡ above_by g n (record { 0 = number_of_device o })) × (is_some o ≡ true)
above_is g n None a e = cc
above_is g n (Some d) a e = (cc, refl)

none_above : (g : Parts) (n : ℕ) (o : Option DeviceId) → ◌≡◌ {A = Option Above} None (option_map (above_by g n) o) → is_some o ≡ false
none_above g n None e = refl
none_above g n (Some d) e = cc

-- the network is sound whichever devices are closed
pub sound_network_in : (g : Parts) (closed : ℕ → Bool) → IsSoundParts g → IsSoundNetwork (network_in g closed)
sound_network_in g closed sound = let s = sound_network g sound in record { from = s.from; to = s.to; apart = s.apart; sources = s.sources }

-- a forest is one whatever its rows say
pub forest_with : (g : Network) (v : Traversed) → IsForest g (table_of v) → (live dark : ℕ → ℕ) → IsForest g (with_rows v live dark)
forest_with g v forest live dark = record {
  rooted = record {
    source = forest.source;
    parent = λ n l hp. let h = forest.parent n l hp in record { within = h.within; closed = h.closed; ends = h.ends; listed = h.listed; deeper = h.deeper };
  };
  stray = forest.stray;
}

-- a term is at most the sum
term_le : (n : ℕ) (f : ℕ → ℕ) (k : ℕ) → k < n → f k ≤ total n f
term_le zero f k l = absurd (omega arith)
term_le (suc n) f k l =
    ⊎_elim
    (λ e. let a = ap f e in omega arith)
    (λ ne. let a = term_le n f k (omega (arith, ne)) in omega arith)
    (cases_eq k n)

-- the sum over the places of a list
pub total_is_sum : (n : ℕ) (xs : List ℕ) → length xs ≡ n → total n (λ k. get_or xs k 0) ≡ sum xs
total_is_sum n xs e = ap (λ m. total m (λ k. get_or xs k 0)) (sym e) ∙ total_list (λ x. x) xs 0

module _ (g : Parts) (closed : ℕ → Bool) (sound : IsSoundParts g) (v : Traversed) (traversed : IsTraversed (network_in g closed) v) where
  pub is_parent : (n : ℕ) → n < length g.nodes → (a : Above) → Some a ≡ option_map (above_by g n) (parent_in v.parents n)
      → (a ≡ above_by g n (record { 0 = (table_of v).parent n })) × (has_parent (network_in g closed) (table_of v) n ≡ true)
  is_parent n l a e = let is = above_is g n (parent_in v.parents n) a e in (is.0, sym (traversed.parents n l) ∙ is.1)

  pub is_source_node : (n : ℕ) → n < length g.nodes → ◌≡◌ {A = Option Above} None (option_map (above_by g n) (parent_in v.parents n)) → has_parent (network_in g closed) (table_of v) n ≡ false
  is_source_node n l e = sym (traversed.parents n l) ∙ none_above g n (parent_in v.parents n) e

  -- the device above a node is one of the network
  pub device_within : (n : ℕ) → n < length g.nodes → (d : DeviceId) → parent_in v.parents n ≡ Some d → d.0 < length g.devices
  device_within n l d e =
      let h = traversed.rooted.parent n l (sym (traversed.parents n l) ∙ ap is_some e) in
      subst (λ x. x < length g.devices) (ap number_of_device e) h.within

module _ (g : Parts) (closed : ℕ → Bool) (mark : ℕ → Mark) (dark_weight live_weight : ℕ → ℕ) (v : Traversed) (sound : IsSoundParts g) (traversed : IsTraversed (network_in g closed) v)
    (dark_bound : total (length g.nodes) dark_weight ≤ 1000000000000) (live_bound : total (length g.nodes) live_weight ≤ 1000000000000) where
  is_light : IsLight (posed g closed mark dark_weight live_weight)
  is_light = record {
    weights = λ d l. (sound.devices d l).most_weight;
    few = sound.few_nodes;
    dark = dark_bound;
    live = live_bound;
  }

  pub rows_none : AreAdded (posed g closed mark dark_weight live_weight) v (length v.order) dark_weight live_weight
  rows_none = added_none (posed g closed mark dark_weight live_weight) v (sound_network_in g closed sound) traversed.rooted traversed.order is_light
      (λ n l. (let a = term_le (length g.nodes) dark_weight n l in omega arith, let a = term_le (length g.nodes) live_weight n l in omega arith))

  module _ (live dark : ℕ → ℕ) (k i m : ℕ) (l : k < length v.order) (is_i : i ≡ suc k) (is_m : m ≡ node_at v.order k) (later : AreAdded (posed g closed mark dark_weight live_weight) v i live dark) where
    before : AreAdded (posed g closed mark dark_weight live_weight) v (suc k) live dark
    before = subst (λ j. AreAdded (posed g closed mark dark_weight live_weight) v j live dark) is_i later

    m_within : m < length g.nodes
    m_within = subst (λ x. x < length g.nodes) (sym is_m) (traversed.order.listed k l).0

    -- a source
    pub rows_same : ◌≡◌ {A = Option Above} None (option_map (above_by g m) (parent_in v.parents m)) → AreAdded (posed g closed mark dark_weight live_weight) v k live dark
    rows_same e = passed_over (posed g closed mark dark_weight live_weight) v (sound_network_in g closed sound) traversed.rooted traversed.order is_light live dark live dark k l before
        (subst (λ x. has_parent (network_in g closed) (table_of v) x ≡ false) is_m (is_source_node g closed sound v traversed m m_within e))

    module _ (a : Above) (e : Some a ≡ option_map (above_by g m) (parent_in v.parents m)) where
      above_at : a ≡ above_by g (node_at v.order k) (record { 0 = (table_of v).parent (node_at v.order k) })
      above_at = (is_parent g closed sound v traversed m m_within a e).0 ∙ ap (λ n. above_by g n (record { 0 = (table_of v).parent n })) is_m

      hangs : has_parent (network_in g closed) (table_of v) (node_at v.order k) ≡ true
      hangs = ap (has_parent (network_in g closed) (table_of v)) (sym is_m) ∙ (is_parent g closed sound v traversed m m_within a e).1

      pub node_within : a.node.0 < length g.nodes
      node_within = subst (λ b. b.node.0 < length g.nodes) (sym above_at) (up_within (network_in g closed) (table_of v) nothing (sound_network_in g closed sound) traversed.rooted (node_at v.order k)
          (traversed.rooted.parent (node_at v.order k) (traversed.order.listed k l).0 hangs))

      -- another node
      pub rows_more : (live' dark' : ℕ → ℕ)
          → ((n : ℕ) → n ≢ a.node.0 → live' n ≡ live n) → ((n : ℕ) → n ≢ a.node.0 → dark' n ≡ dark n)
          → live' a.node.0 ≡ live a.node.0 + live_added (mark a.device.0) a.weight (live m) (dark m) → dark' a.node.0 ≡ dark a.node.0 + dark_added (mark a.device.0) a.weight (dark m)
          → AreAdded (posed g closed mark dark_weight live_weight) v k live' dark'
      rows_more live' dark' live_kept dark_kept live_is dark_is =
          added_more (posed g closed mark dark_weight live_weight) v (sound_network_in g closed sound) traversed.rooted traversed.order is_light live dark live' dark' k l before hangs
          (λ n ne. live_kept n (λ s. ne (s ∙ ap (λ b. b.node.0) above_at)))
          (λ n ne. dark_kept n (λ s. ne (s ∙ ap (λ b. b.node.0) above_at)))
          (subst (λ b. live' b.node.0 ≡ live b.node.0 + live_added (mark b.device.0) b.weight (live (node_at v.order k)) (dark (node_at v.order k))) above_at
          (subst (λ n. live' a.node.0 ≡ live a.node.0 + live_added (mark a.device.0) a.weight (live n) (dark n)) is_m live_is))
          (subst (λ b. dark' b.node.0 ≡ dark b.node.0 + dark_added (mark b.device.0) b.weight (dark (node_at v.order k))) above_at
          (subst (λ n. dark' a.node.0 ≡ dark a.node.0 + dark_added (mark a.device.0) a.weight (dark n)) is_m dark_is))

  pub rows_exact : (live dark : ℕ → ℕ) (i : ℕ) → i ≡ 0 → AreAdded (posed g closed mark dark_weight live_weight) v i live dark → HasExactRows (posed g closed mark dark_weight live_weight) (with_rows v live dark)
  rows_exact live dark i e all =
      exact (posed g closed mark dark_weight live_weight) v (sound_network_in g closed sound) traversed.rooted traversed.order is_light live dark (subst (λ j. AreAdded (posed g closed mark dark_weight live_weight) v j live dark) e all)

-- a list that is written at one place, as a function
module _ (xs : List ℕ) (u x : ℕ) where
  pub set_other : (n : ℕ) → n ≢ u → get_or (set xs u x) n 0 ≡ get_or xs n 0
  set_other n ne = get_or-set_other xs u n x 0 ne

  pub set_here : u < length xs → get_or (set xs u x) u 0 ≡ x
  set_here l = get_or-set_same xs u x 0 l
