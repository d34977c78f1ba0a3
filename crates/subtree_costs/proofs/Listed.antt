-- The steps by which all nodes are listed: the roots, and then what hangs from each listed node.
use Rattle.std.proofs.Common.{◌≡◌, ◌≢◌, ℕ, zero, suc, ◌+◌, ◌<◌, ◌≤◌, sym, ap, ◌∙◌, subst, inl, inr, ⊎_elim, arith, List, length, set, Option, Some, None, below_more}
use Rattle.std.specs.Prelude.{◌⊎◌}
use Rattle.std.proofs.lemmas.List.{get_or-set_same}
use Rattle.outage_rules.specs.Network.{Network, IsSoundNetwork, Joins, Walk, nothing}
use Rattle.outage_rules.specs.Certificate.{other_end}
use Rattle.grid_model.specs.declared.parts.NodeId.{NodeId}
use Rattle.grid_model.specs.declared.parts.DeviceId.{DeviceId}
use Rattle.radial_forest.specs.Traversed.{parent_in, node_at, number_of_device}
use Rattle.radial_forest.specs.Forested.{Forested, root_in, HasRoots}
use Rattle.radial_forest.specs.Lower.{IsAmong, IsChild}
use Rattle.radial_forest.proofs.Incident.{number_at}
use Rattle.radial_forest.proofs.Fitting.{fewer}
use Rattle.radial_forest.proofs.LowerSide.{other_again, joins_up, some_hangs}
use Rattle.radial_forest.proofs.ListingSteps.{node_kept}
use Rattle.subtree_costs.specs.Listing.{IsDownward, IsOrder, AreTops, IsListing}

-- one more node of a list
module _ (list : List NodeId) (count : ℕ) (m : NodeId) (room : count < length list) where
  node_new : node_at (set list count m) count ≡ m.0
  node_new = ap (λ x. x.0) (get_or-set_same list count m (record { 0 = 0 }) room)

  still_among : (node : ℕ) → IsAmong node list count → IsAmong node (set list count m) (count + 1)
  still_among node among = let l = among.1 in (among.0, omega arith, node_kept list count m room among.0 l ∙ among.2)

  now_among : IsAmong m.0 (set list count m) (count + 1)
  now_among = (count, omega arith, node_new)

-- one more node behind the others
pub downward_more : (net : Network) (parents : List (Option DeviceId)) (list : List NodeId) (count : ℕ) (m : NodeId) → count < length list → IsDownward net parents list count → m.0 < net.nodes
    → ((k : ℕ) → k < count → node_at list k ≢ m.0) → ((e : DeviceId) → parent_in parents m.0 ≡ Some e → (j : ℕ) × (j < count) × (node_at list j ≡ other_end net e.0 m.0))
    → (parent_in parents m.0 ≡ None → ⊥) → IsDownward net parents (set list count m) (count + 1)
downward_more net parents list count m room down lm fresh above hung = record {
  within = below_more (λ k. node_at (set list count m) k < net.nodes) count
      (λ k l. subst (λ v. v < net.nodes) (sym (kept k l)) (down.within k l))
      (subst (λ v. v < net.nodes) (sym new) lm);
  once = λ j k l lk. below_more (λ k. j < k → node_at (set list count m) j ≢ node_at (set list count m) k) count
      (λ k lk l. λ e. down.once j k l lk (sym (kept j (omega arith)) ∙ (e ∙ kept k lk)))
      (λ l. λ e. fresh j l (sym (kept j l) ∙ (e ∙ new)))
      k lk l;
  behind = λ k e lk. below_more (λ k. parent_in parents (node_at (set list count m) k) ≡ Some e → (j : ℕ) × (j < k) × (node_at (set list count m) j ≡ other_end net e.0 (node_at (set list count m) k))) count
      (λ k l is. let a = down.behind k e l (ap (parent_in parents) (sym (kept k l)) ∙ is) in
      let la = a.1 in (a.0, a.1, kept a.0 (omega arith) ∙ a.2 ∙ ap (other_end net e.0) (sym (kept k l))))
      (λ is. let a = above e (ap (parent_in parents) (sym new) ∙ is) in (a.0, a.1, kept a.0 a.1 ∙ a.2 ∙ ap (other_end net e.0) (sym new)))
      k lk;
  tops_first = λ j k l lk. below_more (λ k. j < k → parent_in parents (node_at (set list count m) k) ≡ None → parent_in parents (node_at (set list count m) j) ≡ None) count
      (λ k lk l is. ap (parent_in parents) (kept j (omega arith)) ∙ down.tops_first j k l lk (ap (parent_in parents) (sym (kept k lk)) ∙ is))
      (λ l is. absurd (hung (ap (parent_in parents) (sym new) ∙ is)))
      k lk l;
}
  where
    kept : (k : ℕ) → k < count → node_at (set list count m) k ≡ node_at list k
    kept = node_kept list count m room

    new : node_at (set list count m) count ≡ m.0
    new = node_new list count m room

-- the roots, one after the other
pub tops_none : (net : Network) (parents : List (Option DeviceId)) (list : List NodeId) → AreTops net parents list 0 0
tops_none net parents list = record {
  within = λ k l. absurd (omega arith);
  rising = λ j k l lk. absurd (omega arith);
  tops = λ k l. absurd (omega arith);
  all = λ n l. absurd (omega arith);
  few = omega arith;
}

pub tops_passed : (net : Network) (parents : List (Option DeviceId)) (list : List NodeId) (count i : ℕ) → (parent_in parents i ≡ None → ⊥) → AreTops net parents list count i → AreTops net parents list count (i + 1)
tops_passed net parents list count i hung are = record {
  within = λ k l. let a = are.within k l in omega arith;
  rising = are.rising;
  tops = are.tops;
  all = below_more (λ n. parent_in parents n ≡ None → IsAmong n list count) i are.all (λ e. absurd (hung e));
  few = let a = are.few in omega arith;
}

pub tops_more : (net : Network) (parents : List (Option DeviceId)) (list : List NodeId) (count : ℕ) (m : NodeId) → count < length list → parent_in parents m.0 ≡ None → AreTops net parents list count m.0 → AreTops net parents (set list count m) (count + 1) (m.0 + 1)
tops_more net parents list count m room top are = record {
  within = below_more (λ k. node_at (set list count m) k < m.0 + 1) count
      (λ k l. let a = are.within k l in let b = kept k l in omega arith)
      (let b = new in omega arith);
  rising = λ j k l lk. below_more (λ k. j < k → node_at (set list count m) j < node_at (set list count m) k) count
      (λ k lk l. let a = are.rising j k l lk in let b = kept k lk in let c = kept j (omega arith) in omega arith)
      (λ l. let a = are.within j l in let b = new in let c = kept j l in omega arith)
      k lk l;
  tops = below_more (λ k. parent_in parents (node_at (set list count m) k) ≡ None) count
      (λ k l. ap (parent_in parents) (kept k l) ∙ are.tops k l)
      (ap (parent_in parents) new ∙ top);
  all = below_more (λ n. parent_in parents n ≡ None → IsAmong n (set list count m) (count + 1)) m.0
      (λ n l e. still_among list count m room n (are.all n l e))
      (λ e. now_among list count m room);
  few = let a = are.few in omega arith;
}
  where
    kept : (k : ℕ) → k < count → node_at (set list count m) k ≡ node_at list k
    kept = node_kept list count m room

    new : node_at (set list count m) count ≡ m.0
    new = node_new list count m room

-- and after them nothing is done yet
pub listing_tops : (net : Network) (parents : List (Option DeviceId)) (list : List NodeId) (count i : ℕ) → i ≡ net.nodes → AreTops net parents list count i → IsListing net parents list count 0
listing_tops net parents list count i all are = record {
  downward = record {
    within = λ k l. let a = are.within k l in omega arith;
    once = λ j k l lk e. let a = are.rising j k l lk in absurd (omega arith);
    behind = λ k e l is. absurd (none e (sym (are.tops k l) ∙ is));
    tops_first = λ j k l lk is. are.tops j (omega arith);
  };
  ahead = omega arith;
  tops = λ n l. are.all n (omega arith);
  from = λ k e l is. absurd (none e (sym (are.tops k l) ∙ is));
  done = λ j l. absurd (omega arith);
}
  where
    none : (e : DeviceId) → None ≡ Some e → ⊥
    none e s = cc

-- where a listed node hangs from: an earlier place than this one, or this one, by one of the first i devices there
pub record IsListingTo (net : Network) (parents : List (Option DeviceId)) (list : List NodeId) (count place : ℕ) (xs : List DeviceId) (i : ℕ) : Type 0 where
  pub downward : IsDownward net parents list count
  pub ahead : place < count
  pub tops : (n : ℕ) → n < net.nodes → parent_in parents n ≡ None → IsAmong n list count
  pub from : (k : ℕ) (e : DeviceId) → k < count → parent_in parents (node_at list k) ≡ Some e
      → ((j : ℕ) × (j < place) × (node_at list j ≡ other_end net e.0 (node_at list k))) ⊎ ((h : ℕ) × (h < i) × (number_at xs h ≡ e.0) × (node_at list place ≡ other_end net e.0 (node_at list k)))
  pub done : (j : ℕ) → j < place → (e node : ℕ) → node < net.nodes → IsChild net parents (node_at list j) e node → IsAmong node list count
  pub here : (h : ℕ) → h < i → (node : ℕ) → node < net.nodes → IsChild net parents (node_at list place) (number_at xs h) node → IsAmong node list count

pub listing_start : (net : Network) (parents : List (Option DeviceId)) (list : List NodeId) (count place : ℕ) (xs : List DeviceId) → place < count → IsListing net parents list count place → IsListingTo net parents list count place xs 0
listing_start net parents list count place xs l listing = record {
  downward = listing.downward;
  ahead = l;
  tops = listing.tops;
  from = λ k e lk is. inl (listing.from k e lk is);
  done = listing.done;
  here = λ h lh. absurd (omega arith);
}

module _ (net : Network) (f : Forested) (list : List NodeId) (count place n : ℕ) (xs : List DeviceId) (i : ℕ)
    (sound : IsSoundNetwork net) (rooted : HasRoots net f.parents f.roots) (at : node_at list place ≡ n) (listing : IsListingTo net f.parents list count place xs i) where
  -- what hangs from the node by a device is the other end
  child_is : (e node : ℕ) → node < net.nodes → IsChild net f.parents n e node → node ≡ other_end net e n
  child_is e node l child =
      let p = rooted.parent node (record { 0 = e }) l child.parent in
      sym (other_again net e node sound p.within p.ends) ∙ ap (other_end net e) child.upper

  -- a device by which nothing hangs from it
  pub listing_passed : (parent_in f.parents (other_end net (number_at xs i) n) ≡ Some (record { 0 = number_at xs i }) → ⊥) → IsListingTo net f.parents list count place xs (i + 1)
  listing_passed none = record {
    downward = listing.downward;
    ahead = listing.ahead;
    tops = listing.tops;
    from = λ k e l is. ⊎_elim (λ x. inl x) (λ x. let lx = x.1 in inr (x.0, omega arith, x.2, x.3)) (listing.from k e l is);
    done = listing.done;
    here = below_more (λ h. (node : ℕ) → node < net.nodes → IsChild net f.parents (node_at list place) (number_at xs h) node → IsAmong node list count) i listing.here
        (λ node l child. absurd (none (subst (λ v. parent_in f.parents v ≡ Some (record { 0 = number_at xs i }))
        (child_is (number_at xs i) node l (subst (λ v. IsChild net f.parents v (number_at xs i) node) at child)) child.parent)));
  }

  module _ (m : NodeId) (apart : (h : ℕ) → h < i → number_at xs h ≢ number_at xs i) (lm : m.0 < net.nodes) (child : IsChild net f.parents n (number_at xs i) m.0) where
    -- the node isn't listed yet
    fresh : (k : ℕ) → k < count → node_at list k ≢ m.0
    fresh k l is =
        ⊎_elim
        (λ h. let lh = h.1 in listing.downward.once h.0 place h.1 listing.ahead (h.2 ∙ (ap (other_end net (number_at xs i)) is ∙ (child.upper ∙ sym at))))
        (λ x. apart x.0 x.1 x.2)
        (listing.from k (record { 0 = number_at xs i }) l (ap (parent_in f.parents) is ∙ child.parent))

    -- so the list isn't of all nodes yet
    pub listing_room : count < net.nodes
    listing_room = fewer (node_at list) count net.nodes m.0 listing.downward.within listing.downward.once lm fresh

    module _ (room : count < length list) where
      kept : (k : ℕ) → k < count → node_at (set list count m) k ≡ node_at list k
      kept = node_kept list count m room

      hangs_by : (e : DeviceId) → parent_in f.parents m.0 ≡ Some e → number_at xs i ≡ e.0
      hangs_by e is = ap number_of_device (sym child.parent ∙ is)

      above : (e : DeviceId) → parent_in f.parents m.0 ≡ Some e → node_at list place ≡ other_end net e.0 m.0
      above e is = at ∙ (sym child.upper ∙ ap (λ x. other_end net x m.0) (hangs_by e is))

      -- a device by which one hangs from it
      pub listing_more : IsListingTo net f.parents (set list count m) (count + 1) place xs (i + 1)
      listing_more = record {
        downward = downward_more net f.parents list count m room listing.downward lm fresh (λ e is. (place, listing.ahead, above e is)) (λ none. let x : Some (record { 0 = number_at xs i }) ≡ None = sym child.parent ∙ none in cc);
        ahead = let l = listing.ahead in omega arith;
        tops = λ v l e. still_among list count m room v (listing.tops v l e);
        from = λ k e l is. below_more (λ k. parent_in f.parents (node_at (set list count m) k) ≡ Some e
            → ((j : ℕ) × (j < place) × (node_at (set list count m) j ≡ other_end net e.0 (node_at (set list count m) k)))
            ⊎ ((h : ℕ) × (h < i + 1) × (number_at xs h ≡ e.0) × (node_at (set list count m) place ≡ other_end net e.0 (node_at (set list count m) k)))) count
            (λ k l is. ⊎_elim
            (λ x. let lx = x.1 in let a = listing.ahead in inl (x.0, x.1, kept x.0 (omega arith) ∙ x.2 ∙ ap (other_end net e.0) (sym (kept k l))))
            (λ x. let lx = x.1 in inr (x.0, omega arith, x.2, kept place listing.ahead ∙ x.3 ∙ ap (other_end net e.0) (sym (kept k l))))
            (listing.from k e l (ap (parent_in f.parents) (sym (kept k l)) ∙ is)))
            (λ is. let new = node_new list count m room in
            let is' = ap (parent_in f.parents) (sym new) ∙ is in
            inr (i, omega arith, hangs_by e is', kept place listing.ahead ∙ above e is' ∙ ap (other_end net e.0) (sym new)))
            k l is;
        done = λ j lj e node l c. still_among list count m room node (listing.done j lj e node l (subst (λ v. IsChild net f.parents v e node) (kept j (let a = listing.ahead in omega arith)) c));
        here = below_more (λ h. (node : ℕ) → node < net.nodes → IsChild net f.parents (node_at (set list count m) place) (number_at xs h) node → IsAmong node (set list count m) (count + 1)) i
            (λ h lh node l c. still_among list count m room node (listing.here h lh node l (subst (λ v. IsChild net f.parents v (number_at xs h) node) (kept place listing.ahead) c)))
            (λ node l c. subst (λ v. IsAmong v (set list count m) (count + 1))
            (child_is (number_at xs i) m.0 lm child ∙ sym (child_is (number_at xs i) node l (subst (λ v. IsChild net f.parents v (number_at xs i) node) (kept place listing.ahead ∙ at) c)))
            (now_among list count m room));
      }

  -- after all devices the node at the place is done
  pub listing_done : ((e : ℕ) → e < net.devices → (net.from e ≡ n) ⊎ (net.to e ≡ n) → (h : ℕ) × (h < i) × (number_at xs h ≡ e)) → IsListing net f.parents list count (place + 1)
  listing_done found = record {
    downward = listing.downward;
    ahead = let l = listing.ahead in omega arith;
    tops = listing.tops;
    from = λ k e l is. ⊎_elim (λ x. let lx = x.1 in (x.0, omega arith, x.2)) (λ x. (place, omega arith, x.3)) (listing.from k e l is);
    done = below_more (λ j. (e node : ℕ) → node < net.nodes → IsChild net f.parents (node_at list j) e node → IsAmong node list count) place listing.done
        (λ e node l child.
        let j = joins_up net f sound rooted node e l child.parent in
        let q = found e j.within (⊎_elim (λ x. inr (x.1 ∙ (child.upper ∙ at))) (λ x. inl (x.0 ∙ (child.upper ∙ at))) j.ends) in
        listing.here q.0 q.1 node l (subst (λ x. IsChild net f.parents (node_at list place) x node) (sym q.2) child));
  }

-- when all listed nodes are done, all nodes are listed
module _ (net : Network) (f : Forested) (list : List NodeId) (count place : ℕ)
    (sound : IsSoundNetwork net) (rooted : HasRoots net f.parents f.roots) (listing : IsListing net f.parents list count place) (end : count ≤ place) where
  across : (e a b : ℕ) → a < net.nodes → Joins net nothing e a b → IsAmong b list count → IsAmong a list count
  across e a b la j among =
      ⊎_elim
      (λ child. let h = listing.downward.behind among.0 (record { 0 = e }) among.1 (ap (parent_in f.parents) among.2 ∙ child.parent) in
      let lh = h.1 in let lb = among.1 in
      (h.0, omega arith, h.2 ∙ (ap (other_end net e) among.2 ∙ child.upper)))
      (λ child. let l = among.1 in listing.done among.0 (omega arith) e a la (subst (λ v. IsChild net f.parents v e a) (sym among.2) child))
      (some_hangs net f sound rooted e a b j)

  along : (k a b : ℕ) → Walk net nothing k a b → IsAmong b list count → IsAmong a list count
  along zero a b w among = subst (λ v. IsAmong v list count) (sym w) among
  along (suc k) a b w among = along k a w.0 w.2 (across w.1 w.0 b within w.3 among)
    where
      within : w.0 < net.nodes
      within = ⊎_elim (λ x. subst (λ v. v < net.nodes) x.0 (sound.from w.1 w.3.within)) (λ x. subst (λ v. v < net.nodes) x.1 (sound.to w.1 w.3.within)) w.3.ends

  pub listing_all : IsOrder net f.parents list count
  listing_all = record {
    downward = listing.downward;
    all = λ n l.
        let p = rooted.joined n l in
        let lr = rooted.within n l in
        let r = root_in f.roots n in
        let own : root_in f.roots r ≡ r = sym ((rooted.same_root n r l lr).1 p) in
        along p.0 n r p.1 (listing.tops r lr ((rooted.top r lr).1 own));
  }
