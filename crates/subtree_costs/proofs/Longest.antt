-- From each node there is a longest simple walk of closed devices: which lengths there are can be tested, and none is as large as the number of the nodes.
use Rattle.std.proofs.Common.{◌≡◌, ◌≢◌, ℕ, zero, suc, ◌<◌, ◌≤◌, Bool, true, false, cond, refl, sym, ap, ◌∙◌, subst, inl, inr, ⊎_elim, arith}
use Rattle.std.specs.Prelude.{◌&&◌, ◌||◌, not, ◌==◌}
use Rattle.std.proofs.lemmas.Bool.{cases_Bool, cases_eq, or_cases, or_parts, or_from, or_right, and_from, and_parts, not_from_false, false≢true, eqb-true, eq-eqb, ne_eqb, not-true}
use Rattle.outage_rules.specs.Sum.{some_below}
use Rattle.outage_rules.specs.Network.{Network, IsSoundNetwork, Joins, usable, nothing, is_live}
use Rattle.outage_rules.specs.Reference.{distance, last_below}
use Rattle.outage_rules.proofs.Sums.{some_below_at, some_below_true}
use Rattle.outage_rules.proofs.Live.{carries, carried}
use Rattle.radial_forest.proofs.Fitting.{at_most}
use Rattle.radial_forest.proofs.LowerSide.{turned}
use Rattle.subtree_costs.specs.Reach.{IsSimpleWalk, IsReach}
use Rattle.subtree_costs.specs.Laws.{EachNodeHasAReach}

-- these nodes, and one more
abbrev and_met : (ℕ → Bool) → ℕ → ℕ → Bool
and_met met n m = met m || (m == n)

-- a node off those nodes that passes a test
abbrev off_met : (ℕ → Bool) → (ℕ → Bool) → ℕ → Bool
off_met met on m = not (met m) && on m

-- whether a simple walk of so many devices leads on from the node, along none of the nodes that were met
abbrev goes : Network → ℕ → (ℕ → Bool) → ℕ → Bool
goes g zero met n = true
goes g (suc k) met n = some_below g.devices (carries g nothing (off_met (and_met met n) (goes g k (and_met met n))) n)

-- a simple walk from the node, along none of these nodes behind the first
record IsWalkOff (g : Network) (k : ℕ) (met : ℕ → Bool) (n : ℕ) (at : ℕ → ℕ) : Type 0 where
  pub first : at 0 ≡ n
  pub walk : IsSimpleWalk g k at
  pub off : (i : ℕ) → 0 < i → i ≤ k → met (at i) ≡ false

-- the node from which a device carries on
carrier : (g : Network) (on : ℕ → Bool) (d n : ℕ) → d < g.devices → carries g nothing on n d ≡ true → (m : ℕ) × Joins g nothing d n m × (on m ≡ true)
carrier g on d n l t =
    let a = and_parts (usable g nothing d) ((g.to d == n && on (g.from d)) || (g.from d == n && on (g.to d))) t in
    let u = and_parts (g.is_closed d) (not (nothing d)) a.0 in
    ⊎_elim
    (λ b. let c = and_parts (g.to d == n) (on (g.from d)) b in
    (g.from d, record { within = l; closed = u.0; uncut = refl; ends = inr (refl, eqb-true (g.to d) n c.0) }, c.1))
    (λ b. let c = and_parts (g.from d == n) (on (g.to d)) b in
    (g.to d, record { within = l; closed = u.0; uncut = refl; ends = inl (eqb-true (g.from d) n c.0, refl) }, c.1))
    (or_cases (g.to d == n && on (g.from d)) (g.from d == n && on (g.to d)) a.1)

-- one node before others
abbrev before : ℕ → (ℕ → ℕ) → ℕ → ℕ
before n at zero = n
before n at (suc i) = at i

apart_from : (met : ℕ → Bool) (n m : ℕ) → and_met met n m ≡ false → n ≢ m
apart_from met n m off e = false≢true (sym off ∙ or_right (met m) (m == n) (eq-eqb m n (sym e)))

-- a device to a node off these, and a walk off them and the first one
longer : (g : Network) (k : ℕ) (met : ℕ → Bool) (n d m : ℕ) (at : ℕ → ℕ) → Joins g nothing d n m → and_met met n m ≡ false → IsWalkOff g k (and_met met n) m at → IsWalkOff g (suc k) met n (before n at)
longer g k met n d m at j new rest = record {
  first = refl;
  walk = record { joined = joined; apart = apart };
  off = off;
}
  where
    all_off : (i : ℕ) → i ≤ k → and_met met n (at i) ≡ false
    all_off zero l = ap (and_met met n) rest.first ∙ new
    all_off (suc i) l = rest.off (suc i) (omega arith) l

    joined : (i : ℕ) → i < suc k → (e : ℕ) × Joins g nothing e (before n at i) (before n at (suc i))
    joined zero l = (d, subst (Joins g nothing d n) (sym rest.first) j)
    joined (suc i) l = rest.walk.joined i (omega arith)

    apart : (i j : ℕ) → i < j → j ≤ suc k → before n at i ≢ before n at j
    apart i zero l lk = absurd (omega arith)
    apart zero (suc j) l lk = apart_from met n (at j) (all_off j (omega arith))
    apart (suc i) (suc j) l lk = rest.walk.apart i j (omega arith) (omega arith)

    off : (i : ℕ) → 0 < i → i ≤ suc k → met (before n at i) ≡ false
    off zero b l = absurd (omega arith)
    off (suc i) b l = (or_parts (met (at i)) (at i == n) (all_off i (omega arith))).0

-- where the test passes there is a walk
goes_walk : (g : Network) (k : ℕ) (met : ℕ → Bool) (n : ℕ) → goes g k met n ≡ true → (at : ℕ → ℕ) × IsWalkOff g k met n at
goes_walk g zero met n t = (
  λ i. n,
  record {
    first = refl;
    walk = record { joined = λ i l. absurd (omega arith); apart = λ i j l lk. absurd (omega arith) };
    off = λ i b l. absurd (omega arith);
  },
)
goes_walk g (suc k) met n t =
    let d = some_below_true g.devices (carries g nothing (off_met (and_met met n) (goes g k (and_met met n))) n) t in
    let m = carrier g (off_met (and_met met n) (goes g k (and_met met n))) d.0 n d.1 d.2 in
    let parts = and_parts (not (and_met met n m.0)) (goes g k (and_met met n) m.0) m.2 in
    let rest = goes_walk g k (and_met met n) m.0 parts.1 in
    (before n rest.0, longer g k met n d.0 m.0 rest.0 m.1 (not-true (and_met met n m.0) parts.0) rest.1)

-- and where there is one the test passes
walk_goes : (g : Network) (k : ℕ) (met : ℕ → Bool) (at : ℕ → ℕ) → IsSimpleWalk g k at → ((i : ℕ) → 0 < i → i ≤ k → met (at i) ≡ false) → goes g k met (at 0) ≡ true
walk_goes g zero met at walk off = refl
walk_goes g (suc k) met at walk off =
    let first = walk.joined 0 (omega arith) in
    let rest = walk_goes g k (and_met met (at 0)) (λ i. at (suc i)) shorter (λ i b l. all_off (suc i) (omega arith) (omega arith)) in
    some_below_at g.devices (carries g nothing (off_met (and_met met (at 0)) (goes g k (and_met met (at 0)))) (at 0)) first.0 first.1.within
    (carried g nothing (off_met (and_met met (at 0)) (goes g k (and_met met (at 0)))) first.0 (at 1) (at 0) (turned g nothing first.0 (at 0) (at 1) first.1)
    (and_from (not (and_met met (at 0) (at 1))) (goes g k (and_met met (at 0)) (at 1)) (not_from_false (and_met met (at 0) (at 1)) (all_off 1 (omega arith) (omega arith))) rest))
  where
    shorter : IsSimpleWalk g k (λ i. at (suc i))
    shorter = record {
      joined = λ i l. walk.joined (suc i) (omega arith);
      apart = λ i j l lk. walk.apart (suc i) (suc j) (omega arith) (omega arith);
    }

    all_off : (i : ℕ) → 0 < i → i ≤ suc k → and_met met (at 0) (at i) ≡ false
    all_off i b l = or_from (met (at i)) (at i == at 0) (off i b l) (ne_eqb (at i) (at 0) (λ e. walk.apart 0 i b l (sym e)))

-- the last number below a bound that passes, where the first one does
last_is : (b : ℕ) (test : ℕ → Bool) → test 0 ≡ true → test (last_below b test) ≡ true
last_is zero test t = t
last_is (suc b) test t =
    ⊎_elim
    (λ e. subst (λ x. test (cond x b (last_below b test)) ≡ true) (sym e) e)
    (λ e. subst (λ x. test (cond x b (last_below b test)) ≡ true) (sym e) (last_is b test t))
    (cases_Bool (test b))

last_most : (b : ℕ) (test : ℕ → Bool) (k : ℕ) → k < b → test k ≡ true → k ≤ last_below b test
last_most zero test k l t = absurd (omega arith)
last_most (suc b) test k l t =
    ⊎_elim
    (λ e. subst (λ x. k ≤ cond x b (last_below b test)) (sym e) (omega arith))
    (λ e. subst (λ x. k ≤ cond x b (last_below b test)) (sym e)
    (⊎_elim
    (λ same. absurd (false≢true (sym e ∙ ap test (sym same) ∙ t)))
    (λ ne. let ne' : k ≢ b = ne in last_most b test k (omega arith) t)
    (cases_eq k b)))
    (cases_Bool (test b))

module _ (g : Network) (sound : IsSoundNetwork g) where
  end_within : (d n m : ℕ) → Joins g nothing d n m → m < g.nodes
  end_within d n m j = ⊎_elim (λ x. subst (λ v. v < g.nodes) x.1 (sound.to d j.within)) (λ x. subst (λ v. v < g.nodes) x.0 (sound.from d j.within)) j.ends

  -- a simple walk has fewer devices than there are nodes
  few : (k : ℕ) (at : ℕ → ℕ) → at 0 < g.nodes → IsSimpleWalk g k at → k < g.nodes
  few k at l walk =
      let most = at_most at (suc k) g.nodes within (λ i j li lj. walk.apart i j li (omega arith)) in omega arith
    where
      within : (i : ℕ) → i < suc k → at i < g.nodes
      within zero li = l
      within (suc i) li = let j = walk.joined i (omega arith) in end_within j.0 (at i) (at (suc i)) j.1

  -- the number of devices of the longest simple walk from a node
  abbrev longest_from : ℕ → ℕ
  longest_from n = last_below g.nodes (λ k. goes g k nothing n)

  abbrev reach_of : ℕ → ℕ
  reach_of n = cond (is_live g nothing n) (distance g n) (longest_from n)

  is_longest : (n k : ℕ) (at : ℕ → ℕ) → n < g.nodes → at 0 ≡ n → IsSimpleWalk g k at → k ≤ longest_from n
  is_longest n k at l first walk =
      last_most g.nodes (λ k. goes g k nothing n) k (few k at (subst (λ v. v < g.nodes) (sym first) l) walk)
      (subst (λ v. goes g k nothing v ≡ true) first (walk_goes g k nothing at walk (λ i b li. refl)))

  walk_attained : (n : ℕ) → (at : ℕ → ℕ) × (at 0 ≡ n) × IsSimpleWalk g (longest_from n) at
  walk_attained n =
      let w = goes_walk g (longest_from n) nothing n (last_is g.nodes (λ k. goes g k nothing n) refl) in
      (w.0, w.1.first, w.1.walk)

  is_reach : (n : ℕ) → n < g.nodes → IsReach g n (reach_of n)
  is_reach n l = record {
    fed = λ e. ap (λ b. cond b (distance g n) (longest_from n)) e;
    longest = λ e k at first walk. subst (λ b. k ≤ cond b (distance g n) (longest_from n)) (sym e) (is_longest n k at l first walk);
    attained = λ e. subst (λ b. (at : ℕ → ℕ) × (at 0 ≡ n) × IsSimpleWalk g (cond b (distance g n) (longest_from n)) at) (sym e) (walk_attained n);
  }

pub each_has_a_reach : EachNodeHasAReach
each_has_a_reach g sound = (reach_of g sound, is_reach g sound)
