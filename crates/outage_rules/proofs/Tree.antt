-- A network in tree order is radial, and a table lists all of its nodes.
use Rattle.std.proofs.Common.{◌≡◌, ◌≢◌, ℕ, zero, suc, ◌<◌, ◌≤◌, true, false, cond, refl, sym, ap, ◌∙◌, subst, inl, inr, ⊎_elim, arith}
use Rattle.std.specs.Prelude.{◌==◌, ◌||◌, ◌&&◌, not, nat_lt}
use Rattle.std.proofs.lemmas.Bool.{cases_Bool, cases_eq, cases_order, eq-eqb, ne_eqb, and_from, and_parts, or_from, or_left, lt-ltb, false≢true, not_from_false, not-true}
use Rattle.outage_rules.specs.Network.{Network, Walk, IsLive, IsSoundNetwork, IsRadial, only}
use Rattle.outage_rules.specs.TreeOrder.{IsInTreeOrder}
use Rattle.outage_rules.specs.Certificate.{Table, has_parent, upper, cut_above, IsForest, HasParent}
use Rattle.outage_rules.proofs.Rooted.{chain, live_from_lit}
use Rattle.outage_rules.proofs.Forest.{lit_from_live}
use Rattle.outage_rules.proofs.Closing.{append}

-- the device among the first k that leads to the node
abbrev pub entry : Network → ℕ → ℕ → ℕ
entry g zero n = 0
entry g (suc k) n = cond (g.to k == n) k (entry g k n)

-- how many of the first k devices lead to the node from a source
abbrev pub deep : Network → ℕ → ℕ → ℕ
deep g zero n = 0
deep g (suc k) n = cond (g.to k == n) (suc (deep g k (g.from k))) (deep g k n)

-- each node hangs from the device that leads to it
abbrev pub tree_table : Network → (ℕ → ℕ) → Table
tree_table g row = record {
  is_listed = λ n. nat_lt n g.nodes;
  parent = λ n. entry g g.devices n;
  depth = λ n. deep g g.devices n;
  live_cost = row;
  dark_cost = λ n. 0;
}

-- the device that leads to a node
pub record Entry (g : Network) (n : ℕ) : Type 0 where
  pub device : ℕ
  pub within : device < g.devices
  pub leads : g.to device ≡ n
  pub is : entry g g.devices n ≡ device

module _ (g : Network) (order : IsInTreeOrder g) where
  -- later devices lead elsewhere
  to_apart : (d e : ℕ) → d < e → e < g.devices → g.to e ≢ g.to d
  to_apart d e l le x = let a = order.to_later d e l le in absurd (omega arith)

  pub to_same : (d e : ℕ) → d < g.devices → e < g.devices → g.to d ≡ g.to e → d ≡ e
  to_same d e l k x =
      ⊎_elim
      (λ a. a)
      (λ a. ⊎_elim
      (λ b. absurd (to_apart d e b k (sym x)))
      (λ b. absurd (to_apart e d b l x))
      a)
      (cases_order d e)

  -- no device leads back to where an earlier one began
  from_apart : (d e : ℕ) → d ≤ e → e < g.devices → g.to e ≢ g.from d
  from_apart d e l le x =
      ⊎_elim
      (λ a. let b = order.from_earlier d (omega arith) in let c = ap g.to a in absurd (omega arith))
      (λ a. ⊎_elim
      (λ b. let c = order.from_earlier d (omega arith) in let f = order.to_later d e b le in absurd (omega arith))
      (λ b. absurd (omega arith))
      a)
      (cases_order d e)

  entry_is : (d k : ℕ) → d < k → k ≤ g.devices → entry g k (g.to d) ≡ d
  entry_is d zero l lk = absurd (omega arith)
  entry_is d (suc k) l lk =
      ⊎_elim
      (λ e. ap (λ b. cond b k (entry g k (g.to d))) (eq-eqb (g.to k) (g.to d) (ap g.to e)) ∙ e)
      (λ ne. let lt : d < k = let ne' : k ≢ d = ne in omega arith in
      ap (λ b. cond b k (entry g k (g.to d))) (ne_eqb (g.to k) (g.to d) (to_apart d k lt (omega arith)))
      ∙ entry_is d k lt (omega arith))
      (cases_eq k d)

  deep_from : (d k : ℕ) → d ≤ k → k ≤ g.devices → deep g k (g.from d) ≡ deep g d (g.from d)
  deep_from d zero l lk = ap (λ x. deep g x (g.from d)) (let e : 0 ≡ d = omega arith in e)
  deep_from d (suc k) l lk =
      ⊎_elim
      (λ e. ap (λ x. deep g x (g.from d)) e)
      (λ ne. let le : d ≤ k = let ne' : suc k ≢ d = ne in omega arith in
      ap (λ b. cond b (suc (deep g k (g.from k))) (deep g k (g.from d))) (ne_eqb (g.to k) (g.from d) (from_apart d k le (omega arith)))
      ∙ deep_from d k le (omega arith))
      (cases_eq (suc k) d)

  deep_to : (d k : ℕ) → d < k → k ≤ g.devices → deep g k (g.to d) ≡ suc (deep g d (g.from d))
  deep_to d zero l lk = absurd (omega arith)
  deep_to d (suc k) l lk =
      ⊎_elim
      (λ e. ap (λ b. cond b (suc (deep g k (g.from k))) (deep g k (g.to d))) (eq-eqb (g.to k) (g.to d) (ap g.to e)) ∙ ap (λ x. suc (deep g x (g.from x))) e)
      (λ ne. let lt : d < k = let ne' : k ≢ d = ne in omega arith in
      ap (λ b. cond b (suc (deep g k (g.from k))) (deep g k (g.to d))) (ne_eqb (g.to k) (g.to d) (to_apart d k lt (omega arith)))
      ∙ deep_to d k lt (omega arith))
      (cases_eq k d)

  deep_source : (n k : ℕ) → g.is_source n ≡ true → k ≤ g.devices → deep g k n ≡ 0
  deep_source n zero s lk = refl
  deep_source n (suc k) s lk =
      ap (λ b. cond b (suc (deep g k (g.from k))) (deep g k n)) (ne_eqb (g.to k) n (λ e. false≢true (sym (order.to_fed k lk) ∙ ap g.is_source e ∙ s)))
      ∙ deep_source n k s (omega arith)

  from_within : (d : ℕ) → d < g.devices → g.from d < g.nodes
  from_within d l = let a = order.from_earlier d l in let b = order.to_within d l in omega arith

  pub sound_network : IsSoundNetwork g
  sound_network = record {
    from = from_within;
    to = order.to_within;
    apart = λ d l e. let a = order.from_earlier d l in absurd (omega arith);
    sources = order.sources;
  }

  module _ (row : ℕ → ℕ) where
    -- a node with a parent is the new node of a device
    pub entry_of : (n : ℕ) → n < g.nodes → has_parent g (tree_table g row) n ≡ true → Entry g n
    entry_of n l hp =
        let parts = and_parts (nat_lt n g.nodes) (not (g.is_source n)) hp in
        let c = order.covered n l (not-true (g.is_source n) parts.1) in
        record { device = c.0; within = c.1; leads = c.2; is = ap (entry g g.devices) (sym c.2) ∙ entry_is c.0 g.devices c.1 (omega arith) }

    pub upper_is : (n : ℕ) (e : Entry g n) → upper g (tree_table g row) n ≡ g.from e.device
    upper_is n e =
        ap (λ x. cond (g.to x == n) (g.from x) (g.to x)) e.is
        ∙ ap (λ b. cond b (g.from e.device) (g.to e.device)) (eq-eqb (g.to e.device) n e.leads)

    has : (n : ℕ) → Entry g n → HasParent g (tree_table g row) n
    has n e =
        let up = upper_is n e in
        record {
          within = subst (λ x. x < g.devices) (sym e.is) e.within;
          closed = ap g.is_closed e.is ∙ order.closed e.device e.within;
          ends = inr (ap g.to e.is ∙ e.leads);
          listed = lt-ltb _ g.nodes (subst (λ x. x < g.nodes) (sym up) (from_within e.device e.within));
          deeper = ap (deep g g.devices) (sym e.leads) ∙ deep_to e.device g.devices e.within (omega arith) ∙ ap suc (sym (deep_from e.device g.devices (let l = e.within in omega arith) (omega arith)) ∙ ap (deep g g.devices) (sym up));
        }

    -- the new node of a device hangs from it
    pub new_has_parent : (d : ℕ) → d < g.devices → has_parent g (tree_table g row) (g.to d) ≡ true
    new_has_parent d l =
        and_from (nat_lt (g.to d) g.nodes) (not (g.is_source (g.to d)))
        (lt-ltb (g.to d) g.nodes (order.to_within d l))
        (not_from_false (g.is_source (g.to d)) (order.to_fed d l))

    pub forest : IsForest g (tree_table g row)
    forest = record {
      rooted = record {
        source = λ n l s. (lt-ltb n g.nodes l, deep_source n g.devices s (omega arith));
        parent = λ n l hp. has n (entry_of n l hp);
      };
      stray = λ d l c. inl (g.to d, order.to_within d l, new_has_parent d l, entry_is d g.devices l (omega arith));
    }

    -- a device is above no node that is earlier than its new one
    not_above : (d k n : ℕ) → n < g.to d → n < g.nodes → cut_above g (tree_table g row) (only d) k n ≡ false
    not_above d zero n before l = refl
    not_above d (suc k) n before l =
        ⊎_elim
        (λ hp. ap (λ b. b && (only d ((tree_table g row).parent n) || cut_above g (tree_table g row) (only d) k (upper g (tree_table g row) n))) hp ∙ under (entry_of n l hp) (not_above d k))
        (λ hp. ap (λ b. b && (only d ((tree_table g row).parent n) || cut_above g (tree_table g row) (only d) k (upper g (tree_table g row) n))) hp)
        (cases_Bool (has_parent g (tree_table g row) n))
      where
        under : Entry g n → ((m : ℕ) → m < g.to d → m < g.nodes → cut_above g (tree_table g row) (only d) k m ≡ false) → (only d ((tree_table g row).parent n) || cut_above g (tree_table g row) (only d) k (upper g (tree_table g row) n)) ≡ false
        under e further =
            let earlier = order.from_earlier e.device e.within in
            let leads = e.leads in
            or_from (only d ((tree_table g row).parent n)) (cut_above g (tree_table g row) (only d) k (upper g (tree_table g row) n))
            (ap (only d) e.is ∙ ne_eqb e.device d (λ x. let y = ap g.to x in absurd (omega arith)))
            (ap (cut_above g (tree_table g row) (only d) k) (upper_is n e) ∙ further (g.from e.device) (omega arith) (from_within e.device e.within))

    -- without a device the node before it is live
    live_before : (d : ℕ) → d < g.devices → IsLive g (only d) (g.from d)
    live_before d l =
        live_from_lit g (tree_table g row) (only d) sound_network forest.rooted (g.from d) (from_within d l)
        (and_from (nat_lt (g.from d) g.nodes) _ (lt-ltb (g.from d) g.nodes (from_within d l))
        (not_from_false (cut_above g (tree_table g row) (only d) (deep g g.devices (g.from d)) (g.from d))
        (not_above d (deep g g.devices (g.from d)) (g.from d) (order.from_earlier d l) (from_within d l))))

    -- and the node after it is dark
    dark_after : (d : ℕ) → d < g.devices → IsLive g (only d) (g.to d) → ⊥
    dark_after d l live =
        let t = tree_table g row in
        let hp = new_has_parent d l in
        let off = (and_parts (nat_lt (g.to d) g.nodes) (not (cut_above g t (only d) (t.depth (g.to d)) (g.to d))) (lit_from_live g t (only d) sound_network forest (g.to d) live)).1 in
        let above = chain g t (only d) sound_network forest.rooted (g.to d) hp (forest.parent (g.to d) (order.to_within d l) hp) in
        let here = or_left (only d (t.parent (g.to d))) (cut_above g t (only d) (t.depth (upper g t (g.to d))) (upper g t (g.to d))) (ap (only d) (entry_is d g.devices l (omega arith)) ∙ eq-eqb d d refl) in
        false≢true (sym (not-true (cut_above g t (only d) (t.depth (g.to d)) (g.to d)) off) ∙ above ∙ here)

pub tree_is_radial : (g : Network) → IsInTreeOrder g → IsRadial g
tree_is_radial g order d l closed = (
  λ k walk. no_way k walk (live_before g order (λ n. 0) d l),
  λ first second. dark_after g order (λ n. 0) d l second,
)
  where
    no_way : (k : ℕ) → Walk g (only d) k (g.from d) (g.to d) → IsLive g (only d) (g.from d) → ⊥
    no_way k walk live =
        let longer = append g (only d) live.1 k live.0 (g.from d) (g.to d) live.3 walk in
        dark_after g order (λ n. 0) d l (live.0, longer.0, live.2, longer.1)
