-- The sources are reached, and nothing else.
use Rattle.std.proofs.Common.{◌≡◌, ◌≢◌, ℕ, ◌+◌, ◌<◌, ◌≤◌, Bool, true, false, nat_lt, cond, refl, sym, ap, ◌∙◌, ⊎_elim, arith, length, get_or, replicate, None, is_some, unwrap_or}
use Rattle.std.specs.Prelude.{◌&&◌, not}
use Rattle.std.proofs.lemmas.Bool.{cases_eq, cases_lt, false≢true, lt-ltb, le-ltb, and_left, and_right}
use Rattle.std.proofs.lemmas.List.{get_or-replicate, get_or_past, length-replicate}
use Rattle.outage_rules.specs.Network.{Network}
use Rattle.outage_rules.proofs.Sums.{total_zero}
use Rattle.grid_model.specs.declared.parts.NodeId.{NodeId}
use Rattle.grid_model.specs.Parts.{Parts}
use Rattle.grid_model.specs.Places.{is_source}
use Rattle.grid_model.specs.Sound.{IsSoundParts}
use Rattle.grid_model.specs.Network.{network_in}
use Rattle.grid_model.proofs.SoundParts.{sound_network}
use Rattle.radial_forest.specs.Traversed.{Traversed, node_at}
use Rattle.radial_forest.specs.Spreading.{unreached, reaching, is_reached, hangs, is_root, IsPartial, Grows, AreSourcesFirst}
use Rattle.radial_forest.proofs.Reaching.{partial_more, reached_here, reached_other, parent_here, parent_other}

abbrev pub all_open : Parts → Network
all_open g = network_in g (λ d. false)

-- a list of one thing has nothing else, at no place
all_default : {X : Type 0} (n v : ℕ) (x : X) → get_or (replicate n x) v x ≡ x
all_default n v x =
    ⊎_elim
    (λ l. get_or-replicate n v x x l)
    (λ l. get_or_past (replicate n x) v x (let e = length-replicate n x in omega arith))
    (cases_lt v n)

nothing_reached : (n v : ℕ) → is_reached (unreached n) v ≡ false
nothing_reached n v = ap is_some (all_default n v None)

nothing_hangs : (n v : ℕ) → hangs (unreached n) v ≡ false
nothing_hangs n v = ap is_some (all_default n v None)

-- before the first node is reached
pub partial_start : (g : Network) → IsPartial g (unreached g.nodes)
partial_start g = record {
  parents_each = length-replicate g.nodes None;
  depths_each = length-replicate g.nodes None;
  counted = sym (total_zero g.nodes (λ v. cond (is_reached (unreached g.nodes) v) 1 0) (λ v l. ap (λ b. cond b 1 0) (nothing_reached g.nodes v)));
  hung = λ v l h. absurd (false≢true (sym (nothing_hangs g.nodes v) ∙ h));
  top = λ v l h. ap (λ o. unwrap_or o 0) (all_default g.nodes v None);
  placed = λ k l. absurd (omega arith);
  all = λ v l e. absurd (false≢true (sym (nothing_reached g.nodes v) ∙ e));
  once = λ j k l lk. absurd (omega arith);
  after_upper = λ k l. absurd (omega arith);
  shallow = λ v l e. absurd (false≢true (sym (nothing_reached g.nodes v) ∙ e));
}

-- a node is reached from no other
pub root_partial : (g : Network) (t : Traversed) (m : NodeId) → IsPartial g t → m.0 < g.nodes → is_reached t m.0 ≡ false → IsPartial g (reaching t m None 0)
root_partial g t m partial l fresh = partial_more g t m None 0 partial l fresh (λ e. absurd (false≢true e)) (λ e. refl) (omega arith) (λ e. absurd (false≢true e))

-- of the first i nodes the sources are reached, each from no other
pub record AreSourcesTo (g : Parts) (t : Traversed) (i : ℕ) : Type 0 where
  pub partial : (closed : ℕ → Bool) → IsPartial (network_in g closed) t
  pub reached : (n : ℕ) → is_reached t n ≡ (nat_lt n i && is_source g n)
  pub hangs : (n : ℕ) → hangs t n ≡ false

pub sources_start : (g : Parts) → AreSourcesTo g (unreached (length g.nodes)) 0
sources_start g = record {
  partial = λ closed. partial_start (network_in g closed);
  reached = λ n. nothing_reached (length g.nodes) n ∙ sym (and_left (nat_lt n 0) (is_source g n) (le-ltb n 0 (omega arith)));
  hangs = nothing_hangs (length g.nodes);
}

module _ (g : Parts) (t : Traversed) (i : ℕ) (before : AreSourcesTo g t i) where
  pub fresh : is_reached t i ≡ false
  fresh = before.reached i ∙ and_left (nat_lt i i) (is_source g i) (le-ltb i i (omega arith))

  same_test : (n : ℕ) → n ≢ i → nat_lt n (i + 1) ≡ nat_lt n i
  same_test n ne =
      ⊎_elim
      (λ l. lt-ltb n (i + 1) (omega arith) ∙ sym (lt-ltb n i l))
      (λ l. le-ltb n (i + 1) (omega arith) ∙ sym (le-ltb n i l))
      (cases_lt n i)

  other : (n : ℕ) → n ≢ i → is_reached t n ≡ (nat_lt n (i + 1) && is_source g n)
  other n ne = before.reached n ∙ ap (λ b. b && is_source g n) (sym (same_test n ne))

  pub sources_other : is_source g i ≡ false → AreSourcesTo g t (i + 1)
  sources_other e = record {
    partial = before.partial;
    reached = λ n. ⊎_elim
        (λ x. ap (is_reached t) x ∙ fresh ∙ sym (and_right (nat_lt n (i + 1)) (is_source g n) (ap (is_source g) x ∙ e)))
        (other n)
        (cases_eq n i);
    hangs = before.hangs;
  }

  pub sources_more : (m : NodeId) → m.0 ≡ i → i < length g.nodes → is_source g i ≡ true → AreSourcesTo g (reaching t m None 0) (i + 1)
  sources_more m is l e = record {
    partial = λ closed. root_partial (network_in g closed) t m (before.partial closed) lm (ap (is_reached t) is ∙ fresh);
    reached = λ n. ⊎_elim
        (λ x. ap (is_reached (reaching t m None 0)) (x ∙ sym is) ∙ reached_here (all_open g) t m None 0 (before.partial (λ d. false)) lm
        ∙ sym (ap (λ b. b && is_source g n) (lt-ltb n (i + 1) (omega arith)) ∙ ap (is_source g) x ∙ e))
        (λ ne. reached_other (all_open g) t m None 0 (before.partial (λ d. false)) lm n (λ x. ne (x ∙ is)) ∙ other n ne)
        (cases_eq n i);
    hangs = λ n. ⊎_elim
        (λ x. ap (hangs (reaching t m None 0)) (x ∙ sym is) ∙ ap is_some (parent_here (all_open g) t m None 0 (before.partial (λ d. false)) lm))
        (λ ne. ap is_some (parent_other (all_open g) t m None 0 (before.partial (λ d. false)) lm n (λ x. ne (x ∙ is))) ∙ before.hangs n)
        (cases_eq n i);
  }
    where
      lm : m.0 < length g.nodes
      lm = omega arith

trim : (a b : Bool) → (b ≡ true → a ≡ true) → (a && b) ≡ b
trim true b h = refl
trim false true h = h refl
trim false false h = refl

-- in the end the sources are reached
pub only_sources : (g : Parts) (t : Traversed) (i : ℕ) → IsSoundParts g → length g.nodes ≤ i → AreSourcesTo g t i → (n : ℕ) → is_reached t n ≡ is_source g n
only_sources g t i sound le before n = before.reached n ∙ trim (nat_lt n i) (is_source g n) (λ e. lt-ltb n i (let l = (sound_network g sound).sources n e in omega arith))

-- and they are the roots
pub sources_are : (g : Parts) (t : Traversed) (i : ℕ) → IsSoundParts g → length g.nodes ≤ i → AreSourcesTo g t i → (n : ℕ) → is_root t n ≡ is_source g n
sources_are g t i sound le before n =
    ap (λ b. is_reached t n && not b) (before.hangs n) ∙ and_true (is_reached t n) ∙ only_sources g t i sound le before n
  where
    and_true : (b : Bool) → (b && true) ≡ b
    and_true true = refl
    and_true false = refl

-- what is reached from the sources stands behind them
pub sources_first : (g : Network) (t t' : Traversed) → IsPartial g t → ((n : ℕ) → is_reached t n ≡ g.is_source n) → ((n : ℕ) → is_root t n ≡ g.is_source n) → Grows t t' → AreSourcesFirst g t'
sources_first g t t' partial only roots grows j k l lk e =
    ⊎_elim
    (λ early. let lj : j < length t.order = omega arith in ap g.is_source (grows.places j lj) ∙ sym (only (node_at t.order j)) ∙ (partial.placed j lj).1)
    (λ late. absurd (false≢true (sym (grows.behind k late lk) ∙ grows.roots (node_at t'.order k) ∙ roots (node_at t'.order k) ∙ e)))
    (cases_lt k (length t.order))
