-- A node is listed behind the others, and flagged.
use Rattle.std.proofs.Common.{◌≡◌, ◌≢◌, ℕ, ◌+◌, ◌<◌, Bool, true, false, sym, ap, ◌∙◌, ⊎_elim, arith, List, length, set, get_or, below_more, get_or-set_same, get_or-set_other}
use Rattle.std.proofs.lemmas.Bool.{cases_eq, cases_lt, false≢true}
use Rattle.std.proofs.lemmas.List.{get_or_past}
use Rattle.grid_model.specs.declared.parts.NodeId.{NodeId}
use Rattle.radial_forest.specs.Traversed.{node_at}
use Rattle.radial_forest.proofs.Fitting.{fewer}

-- what is flagged has a flag
pub flagged_within : (flags : List Bool) (n : ℕ) → get_or flags n false ≡ true → n < length flags
flagged_within flags n e =
    ⊎_elim
    (λ l. l)
    (λ past. absurd (false≢true (sym (get_or_past flags n false past) ∙ e)))
    (cases_lt n (length flags))

module _ (flags : List Bool) (nodes : List NodeId) (count : ℕ)
    (each : (i : ℕ) → i < count → get_or flags (node_at nodes i) false ≡ true)
    (once : (i j : ℕ) → i < j → j < count → node_at nodes i ≢ node_at nodes j)
    (n : NodeId) (within : n.0 < length flags) (unlisted : get_or flags n.0 false ≡ false) where
  -- the others are other nodes
  others : (i : ℕ) → i < count → node_at nodes i ≢ n.0
  others i l e = false≢true (sym unlisted ∙ ap (λ k. get_or flags k false) (sym e) ∙ each i l)

  pub one_fits : count < length flags
  one_fits = fewer (node_at nodes) count (length flags) n.0 (λ i l. flagged_within flags (node_at nodes i) (each i l)) once within others

  module _ (long : length nodes ≡ length flags) where
    last : node_at (set nodes count n) count ≡ n.0
    last = let fits = one_fits in ap (λ (x : NodeId). x.0) (get_or-set_same nodes count n (record { 0 = 0 }) (omega arith))

    before : (i : ℕ) → i ≢ count → node_at (set nodes count n) i ≡ node_at nodes i
    before i ne = ap (λ (x : NodeId). x.0) (get_or-set_other nodes count i n (record { 0 = 0 }) ne)

    pub each_more : (i : ℕ) → i < count + 1 → get_or (set flags n.0 true) (node_at (set nodes count n) i) false ≡ true
    each_more = below_more (λ i. get_or (set flags n.0 true) (node_at (set nodes count n) i) false ≡ true) count
        (λ i l. ap (λ k. get_or (set flags n.0 true) k false) (before i (λ e. absurd (omega arith)))
        ∙ get_or-set_other flags n.0 (node_at nodes i) true false (others i l) ∙ each i l)
        (ap (λ k. get_or (set flags n.0 true) k false) last ∙ get_or-set_same flags n.0 true false within)

    pub all_more : ((m : ℕ) → get_or flags m false ≡ true → (i : ℕ) × (i < count) × (node_at nodes i ≡ m)) → (m : ℕ) → get_or (set flags n.0 true) m false ≡ true
        → (i : ℕ) × (i < count + 1) × (node_at (set nodes count n) i ≡ m)
    all_more all m t =
        ⊎_elim
        (λ e. (count, omega arith, last ∙ sym e))
        (λ ne. let a = all m (sym (get_or-set_other flags n.0 m true false ne) ∙ t) in
        let l = a.1 in
        (a.0, omega arith, before a.0 (λ e. absurd (omega arith)) ∙ a.2))
        (cases_eq m n.0)

    pub once_more : (i j : ℕ) → i < j → j < count + 1 → node_at (set nodes count n) i ≢ node_at (set nodes count n) j
    once_more i j l lj e =
        let here : i ≢ count = λ q. absurd (omega arith) in
        ⊎_elim
        (λ lt. once i j l lt (sym (before i here) ∙ e ∙ before j (λ q. absurd (omega arith))))
        (λ le. let q : j ≡ count = omega arith in
        others i (omega arith) (sym (before i here) ∙ e ∙ ap (node_at (set nodes count n)) q ∙ last))
        (cases_lt j count)
