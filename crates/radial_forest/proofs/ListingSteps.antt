-- The steps by which the lower side of a device is listed: the devices at a node of the list, one after the other.
use Rattle.std.proofs.Common.{◌≡◌, ◌≢◌, ℕ, zero, suc, ◌+◌, ◌<◌, refl, sym, ap, ◌∙◌, subst, inl, inr, ⊎_elim, arith, List, length, set, Some, below_more}
use Rattle.std.specs.Prelude.{◌⊎◌}
use Rattle.std.proofs.lemmas.List.{get_or-set_same, get_or-set_other}
use Rattle.outage_rules.specs.Network.{Network, IsSoundNetwork, Joins, nothing}
use Rattle.outage_rules.specs.Certificate.{other_end}
use Rattle.grid_model.specs.declared.parts.NodeId.{NodeId}
use Rattle.grid_model.specs.declared.parts.DeviceId.{DeviceId}
use Rattle.radial_forest.specs.Traversed.{parent_in, node_at, number_of_device}
use Rattle.radial_forest.specs.Forested.{Forested, HasRoots}
use Rattle.radial_forest.specs.Lower.{IsAmong, IsCutOff, IsChild, IsLowerList, IsListing}
use Rattle.radial_forest.proofs.Around.{other_within}
use Rattle.radial_forest.proofs.Hanging.{other_is}
use Rattle.radial_forest.proofs.Incident.{number_at}
use Rattle.radial_forest.proofs.Fitting.{fewer}
use Rattle.radial_forest.proofs.LowerSide.{other_again, joins_up, hung_is_cut, upper_is_joined, child_is_cut}

-- the node at the place, or an earlier one, from which a listed node hangs; at the place by one of the first i devices
abbrev HangsFromListed : Network → Forested → List NodeId → ℕ → List DeviceId → ℕ → ℕ → Type 0
HangsFromListed g f list place xs i node = (e j : ℕ) × ((j < place) ⊎ ((j ≡ place) × ((h : ℕ) × (h < i) × (number_at xs h ≡ e)))) × IsChild g f.parents (node_at list j) e node

-- what hangs from the nodes before a place is listed, and what hangs from the node there by the first i of its devices
pub record IsListingTo (g : Network) (f : Forested) (d : ℕ) (list : List NodeId) (count place : ℕ) (xs : List DeviceId) (i : ℕ) : Type 0 where
  pub lower : IsLowerList g f d list count
  pub ahead : place < count
  pub behind : (k : ℕ) → 0 < k → k < count → HangsFromListed g f list place xs i (node_at list k)
  pub done : (j : ℕ) → j < place → (e node : ℕ) → node < g.nodes → IsChild g f.parents (node_at list j) e node → IsAmong node list count
  pub here : (h : ℕ) → h < i → (node : ℕ) → node < g.nodes → IsChild g f.parents (node_at list place) (number_at xs h) node → IsAmong node list count

pub listing_start : (g : Network) (f : Forested) (d : ℕ) (list : List NodeId) (count place : ℕ) (xs : List DeviceId) → place < count → IsListing g f d list count place → IsListingTo g f d list count place xs 0
listing_start g f d list count place xs l listing = record {
  lower = listing.lower;
  ahead = l;
  behind = λ k p lk. let b = listing.behind k p lk in (b.0, b.1, inl b.2, b.3);
  done = listing.done;
  here = λ h lh. absurd (omega arith);
}

-- one more node behind the others
module _ (list : List NodeId) (count : ℕ) (m : NodeId) (room : count < length list) where
  pub node_kept : (k : ℕ) → k < count → node_at (set list count m) k ≡ node_at list k
  node_kept k l = ap (λ x. x.0) (get_or-set_other list count k m (record { 0 = 0 }) (λ e. absurd (omega arith)))

  node_new : node_at (set list count m) count ≡ m.0
  node_new = ap (λ x. x.0) (get_or-set_same list count m (record { 0 = 0 }) room)

  still_among : (node : ℕ) → IsAmong node list count → IsAmong node (set list count m) (count + 1)
  still_among node among = let l = among.1 in (among.0, omega arith, node_kept among.0 l ∙ among.2)

  now_among : IsAmong m.0 (set list count m) (count + 1)
  now_among = (count, omega arith, node_new)

  lower_more : (g : Network) (f : Forested) (d : ℕ) → IsLowerList g f d list count → m.0 < g.nodes → IsCutOff g f.roots d m.0 → ((k : ℕ) → k < count → node_at list k ≢ m.0) → IsLowerList g f d (set list count m) (count + 1)
  lower_more g f d lower lm cut fresh = record {
    within = below_more (λ k. node_at (set list count m) k < g.nodes) count
        (λ k l. subst (λ v. v < g.nodes) (sym (node_kept k l)) (lower.within k l))
        (subst (λ v. v < g.nodes) (sym node_new) lm);
    cut_off = below_more (λ k. IsCutOff g f.roots d (node_at (set list count m) k)) count
        (λ k l. subst (IsCutOff g f.roots d) (sym (node_kept k l)) (lower.cut_off k l))
        (subst (IsCutOff g f.roots d) (sym node_new) cut);
    once = λ j k l lk. below_more (λ k. j < k → node_at (set list count m) j ≢ node_at (set list count m) k) count
        (λ k lk l. λ e. lower.once j k l lk (sym (node_kept j (omega arith)) ∙ (e ∙ node_kept k lk)))
        (λ l. λ e. fresh j l (sym (node_kept j l) ∙ (e ∙ node_new)))
        k lk l;
    some = omega arith;
    first = ap (parent_in f.parents) (node_kept 0 lower.some) ∙ lower.first;
  }

module _ (g : Network) (f : Forested) (d : ℕ) (list : List NodeId) (count place n : ℕ) (xs : List DeviceId) (i : ℕ)
    (sound : IsSoundNetwork g) (rooted : HasRoots g f.parents f.roots) (at : node_at list place ≡ n) (listing : IsListingTo g f d list count place xs i) where
  -- the node at the place is below the device
  n_cut : IsCutOff g f.roots d n
  n_cut = subst (IsCutOff g f.roots d) at (listing.lower.cut_off place listing.ahead)

  -- what hangs from it by a device is the other end
  child_is : (e node : ℕ) → node < g.nodes → IsChild g f.parents n e node → node ≡ other_end g e n
  child_is e node l child =
      sym (other_is g e node n sound (subst (Joins g nothing e node) child.upper (joins_up g f sound rooted node e l child.parent)))

  -- a device by which nothing hangs from it
  pub listing_passed : (parent_in f.parents (other_end g (number_at xs i) n) ≡ Some (record { 0 = number_at xs i }) → ⊥) → IsListingTo g f d list count place xs (i + 1)
  listing_passed none = record {
    lower = listing.lower;
    ahead = listing.ahead;
    behind = λ k b l. let h = listing.behind k b l in
        (h.0, h.1, ⊎_elim (λ x. inl x) (λ x. let lx = x.1.1 in inr (x.0, (x.1.0, omega arith, x.1.2))) h.2, h.3);
    done = listing.done;
    here = below_more (λ h. (node : ℕ) → node < g.nodes → IsChild g f.parents (node_at list place) (number_at xs h) node → IsAmong node list count) i listing.here
        (λ node l child. absurd (none (subst (λ v. parent_in f.parents v ≡ Some (record { 0 = number_at xs i }))
        (child_is (number_at xs i) node l (subst (λ v. IsChild g f.parents v (number_at xs i) node) at child)) child.parent)));
  }

  module _ (m : NodeId) (apart : (h : ℕ) → h < i → number_at xs h ≢ number_at xs i) (lm : m.0 < g.nodes) (child : IsChild g f.parents n (number_at xs i) m.0) where
    -- it isn't the first of the list, from whose upper node a walk leads to the root
    not_first : node_at list 0 ≢ m.0
    not_first is =
        let hangs : parent_in f.parents m.0 ≡ Some (record { 0 = d }) = ap (parent_in f.parents) (sym is) ∙ listing.lower.first in
        let same : number_at xs i ≡ d = ap number_of_device (sym child.parent ∙ hangs) in
        upper_is_joined g f sound rooted m.0 d lm hangs (subst (IsCutOff g f.roots d) (sym child.upper ∙ ap (λ x. other_end g x m.0) same) n_cut)

    -- nor is it a later one
    fresh : (k : ℕ) → k < count → node_at list k ≢ m.0
    fresh zero l is = not_first is
    fresh (suc k) l is =
        let h = listing.behind (suc k) (omega arith) l in
        let same : h.0 ≡ number_at xs i = ap number_of_device (sym h.3.parent ∙ (ap (parent_in f.parents) is ∙ child.parent)) in
        let node : node_at list h.1 ≡ n = sym h.3.upper ∙ (ap (λ x. other_end g x (node_at list (suc k))) same ∙ (ap (other_end g (number_at xs i)) is ∙ child.upper)) in
        ⊎_elim
        (λ early. listing.lower.once h.1 place early listing.ahead (node ∙ sym at))
        (λ x. apart x.1.0 x.1.1 (x.1.2 ∙ same))
        h.2

    -- so the list isn't of all nodes yet
    pub listing_room : count < g.nodes
    listing_room = fewer (node_at list) count g.nodes m.0 listing.lower.within listing.lower.once lm fresh

    module _ (room : count < length list) where
      kept : (k : ℕ) → k < count → node_at (set list count m) k ≡ node_at list k
      kept = node_kept list count m room

      same_place : (e node : ℕ) → IsChild g f.parents (node_at (set list count m) place) e node → IsChild g f.parents (node_at list place) e node
      same_place e node = subst (λ v. IsChild g f.parents v e node) (kept place listing.ahead)

      -- where an old node hangs stays
      hangs_still : (k : ℕ) → k < count → HangsFromListed g f list place xs i (node_at list k) → HangsFromListed g f (set list count m) place xs (i + 1) (node_at (set list count m) k)
      hangs_still k l h =
          let ahead = listing.ahead in
          let lj : h.1 < count = ⊎_elim (λ x. omega arith) (λ x. let e = x.0 in omega arith) h.2 in (
            h.0,
            h.1,
            ⊎_elim (λ x. inl x) (λ x. let lx = x.1.1 in inr (x.0, (x.1.0, omega arith, x.1.2))) h.2,
            subst (λ v. IsChild g f.parents v h.0 (node_at (set list count m) k)) (sym (kept h.1 lj)) (subst (IsChild g f.parents (node_at list h.1) h.0) (sym (kept k l)) h.3),
          )

      hangs_now : HangsFromListed g f (set list count m) place xs (i + 1) (node_at (set list count m) count)
      hangs_now = (
        number_at xs i,
        place,
        inr (refl, (i, omega arith, refl)),
        subst (λ v. IsChild g f.parents v (number_at xs i) (node_at (set list count m) count)) (sym (kept place listing.ahead ∙ at))
            (subst (IsChild g f.parents n (number_at xs i)) (sym (node_new list count m room)) child),
      )

      -- a device by which one hangs from it
      pub listing_more : IsListingTo g f d (set list count m) (count + 1) place xs (i + 1)
      listing_more = record {
        lower = lower_more list count m room g f d listing.lower lm (child_is_cut g f sound rooted d n (number_at xs i) m.0 lm child n_cut) fresh;
        ahead = let l = listing.ahead in omega arith;
        behind = λ k b l. below_more (λ k. 0 < k → HangsFromListed g f (set list count m) place xs (i + 1) (node_at (set list count m) k)) count
            (λ k l b. hangs_still k l (listing.behind k b l)) (λ b. hangs_now) k l b;
        done = λ j lj e node l c. still_among list count m room node (listing.done j lj e node l (subst (λ v. IsChild g f.parents v e node) (kept j (let a = listing.ahead in omega arith)) c));
        here = below_more (λ h. (node : ℕ) → node < g.nodes → IsChild g f.parents (node_at (set list count m) place) (number_at xs h) node → IsAmong node (set list count m) (count + 1)) i
            (λ h lh node l c. still_among list count m room node (listing.here h lh node l (same_place (number_at xs h) node c)))
            (λ node l c. subst (λ v. IsAmong v (set list count m) (count + 1))
            (child_is (number_at xs i) m.0 lm child ∙ sym (child_is (number_at xs i) node l (subst (λ v. IsChild g f.parents v (number_at xs i) node) at (same_place (number_at xs i) node c))))
            (now_among list count m room));
      }

  -- after all devices the node at the place is done
  pub listing_done : ((e : ℕ) → e < g.devices → (g.from e ≡ n) ⊎ (g.to e ≡ n) → (h : ℕ) × (h < i) × (number_at xs h ≡ e)) → IsListing g f d list count (place + 1)
  listing_done found = record {
    lower = listing.lower;
    ahead = let l = listing.ahead in omega arith;
    behind = λ k b l. let h = listing.behind k b l in
        (h.0, h.1, ⊎_elim (λ x. omega arith) (λ x. let e = x.0 in omega arith) h.2, h.3);
    done = below_more (λ j. (e node : ℕ) → node < g.nodes → IsChild g f.parents (node_at list j) e node → IsAmong node list count) place listing.done
        (λ e node l child.
        let j = joins_up g f sound rooted node e l child.parent in
        let q = found e j.within (touched e node child j.ends) in
        listing.here q.0 q.1 node l (subst (λ x. IsChild g f.parents (node_at list place) x node) (sym q.2) child));
  }
    where
      touched : (e node : ℕ) → IsChild g f.parents (node_at list place) e node → ((g.from e ≡ node) × (g.to e ≡ other_end g e node)) ⊎ ((g.from e ≡ other_end g e node) × (g.to e ≡ node)) → (g.from e ≡ n) ⊎ (g.to e ≡ n)
      touched e node child ends = ⊎_elim (λ x. inr (x.1 ∙ (child.upper ∙ at))) (λ x. inl (x.0 ∙ (child.upper ∙ at))) ends

-- the node that hangs by the device is the first of the list
pub listing_first : (g : Network) (f : Forested) (d : ℕ) (list : List NodeId) (m : NodeId) → IsSoundNetwork g → HasRoots g f.parents f.roots → 0 < length list → m.0 < g.nodes
    → parent_in f.parents m.0 ≡ Some (record { 0 = d }) → IsListing g f d (set list 0 m) 1 0
listing_first g f d list m sound rooted room lm hangs = record {
  lower = record {
    within = λ k l. subst (λ v. v < g.nodes) (at k l) lm;
    cut_off = λ k l. subst (IsCutOff g f.roots d) (at k l) (hung_is_cut g f sound rooted m.0 d lm hangs);
    once = λ j k l lk. absurd (omega arith);
    some = omega arith;
    first = ap (parent_in f.parents) (node_new list 0 m room) ∙ hangs;
  };
  ahead = omega arith;
  behind = λ k b l. absurd (omega arith);
  done = λ j l. absurd (omega arith);
}
  where
    at : (k : ℕ) → k < 1 → m.0 ≡ node_at (set list 0 m) k
    at zero l = sym (node_new list 0 m room)
    at (suc k) l = absurd (omega arith)

-- the other end of a device at a node hangs from the node, if it hangs by the device
pub child_here : (g : Network) (f : Forested) (n e : ℕ) (m : NodeId) → IsSoundNetwork g → e < g.devices → (g.from e ≡ n) ⊎ (g.to e ≡ n)
    → m.0 ≡ other_end g e n → parent_in f.parents m.0 ≡ Some (record { 0 = e }) → (m.0 < g.nodes) × IsChild g f.parents n e m.0
child_here g f n e m sound le ends is hangs = (
  subst (λ v. v < g.nodes) (sym is) (other_within g e n sound le),
  record { parent = hangs; upper = ap (other_end g e) is ∙ other_again g e n sound le ends },
)
