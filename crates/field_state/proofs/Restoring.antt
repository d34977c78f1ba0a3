-- A restoration goes from node to node.
use Rattle.std.proofs.Common.{◌≡◌, ℕ, suc, ◌<◌, Bool, true, false, refl, sym, ap, ◌∙◌, ⊎_elim, List, length}
use Rattle.std.specs.Prelude.{◌==◌, ◌||◌, ◌&&◌}
use Rattle.std.proofs.lemmas.Bool.{cases_eq, eqb-true, eq-eqb, ne_eqb}
use Rattle.grid_model.specs.Parts.{Parts}
use Rattle.grid_model.specs.Places.{node_of}
use Rattle.grid_model.specs.declared.parts.NodeId.{NodeId}
use Rattle.grid_model.specs.declared.parts.MeterId.{MeterId}
use Rattle.radial_forest.specs.Traversed.{node_at}
use Rattle.evidence.specs.Kept.{Kept, kept_of}
use Rattle.field_state.specs.Fielded.{Fielded}
use Rattle.field_state.specs.Acted.{IsKeptBy, restored_if, is_listed}
use Rattle.field_state.proofs.Doing.{kept_then, restored_twice}
use Rattle.field_state.proofs.Standing.{number_at, is_met}

-- what is kept may be told in another way
pub kept_same : (g : Parts) (t : ℕ) (kept again : ℕ → Kept) (a b : Fielded) → IsKeptBy g t kept a b → ((m : ℕ) → m < length g.meters → kept m ≡ again m) →
    IsKeptBy g t again a b
kept_same g t kept again a b by same = record {
  now = by.now;
  applied = by.applied;
  costed = by.costed;
  forest = by.forest;
  marks = by.marks;
  tallied = by.tallied;
  each = λ m lm. by.each m lm ∙ same m lm;
  due_devices = by.due_devices;
  notes = by.notes;
}

-- one meter more comes back
pub one_met : (g : Parts) (t : ℕ) (ms : List MeterId) (i m : ℕ) (old mid new : Fielded) → number_at ms i ≡ m →
    IsKeptBy g t (λ k. restored_if (is_met ms i k) t (kept_of old.evidence k)) old mid →
    IsKeptBy g t (λ k. restored_if (k == m) t (kept_of mid.evidence k)) mid new →
    IsKeptBy g t (λ k. restored_if (is_met ms (suc i) k) t (kept_of old.evidence k)) old new
one_met g t ms i m old mid new here first second =
    kept_then g t (λ k. restored_if (is_met ms i k) t (kept_of old.evidence k)) (λ k. restored_if (k == m) t (kept_of mid.evidence k))
    (λ k. restored_if (is_met ms (suc i) k) t (kept_of old.evidence k)) old mid new first second
    (λ k lk. ap (restored_if (k == m) t) (first.each k lk)
    ∙ restored_twice (is_met ms i k) (k == m) t (kept_of old.evidence k)
    ∙ ap (λ x. restored_if (is_met ms i k || (k == x)) t (kept_of old.evidence k)) (sym here))

eq_flips : (a b : ℕ) → (a == b) ≡ (b == a)
eq_flips a b =
    ⊎_elim
    (λ q. eq-eqb a b q ∙ sym (eq-eqb b a (sym q)))
    (λ ne. ne_eqb a b ne ∙ sym (ne_eqb b a (λ q. ne (sym q))))
    (cases_eq a b)

more_fed : (a f q : Bool) → (q ≡ true → f ≡ true) → ((a && f) || q) ≡ ((a || q) && f)
more_fed true true q h = refl
more_fed true false true h = sym (h refl)
more_fed true false false h = refl
more_fed false true true h = refl
more_fed false true false h = refl
more_fed false false true h = sym (h refl)
more_fed false false false h = refl

no_more_fed : (a f q : Bool) → (q ≡ true → f ≡ false) → (a && f) ≡ ((a || q) && f)
no_more_fed true f q h = refl
no_more_fed false f true h = sym (h refl)
no_more_fed false f false h = refl

module _ (g : Parts) (t : ℕ) (nodes : List NodeId) (i n : ℕ) (fed : ℕ → Bool) (here : node_at nodes i ≡ n) (old : Fielded) where
  is_brought_by : ℕ → ℕ → Bool
  is_brought_by count k = is_listed nodes count (node_of g k) && fed (node_of g k)

  -- the node at this place, from the other side
  same_node : (k : ℕ) → (node_of g k == n) ≡ (node_at nodes i == node_of g k)
  same_node k = eq_flips (node_of g k) n ∙ ap (λ x. x == node_of g k) (sym here)

  at_node_fed : (b : Bool) → fed n ≡ b → (k : ℕ) → (node_at nodes i == node_of g k) ≡ true → fed (node_of g k) ≡ b
  at_node_fed b q k e = ap fed (eqb-true (node_of g k) n (same_node k ∙ e)) ∙ q

  -- whether a meter is brought back by the first nodes, with one more that is fed
  pub more_test : fed n ≡ true → (k : ℕ) → (is_listed nodes (suc i) (node_of g k) && fed (node_of g k)) ≡ ((is_listed nodes i (node_of g k) && fed (node_of g k)) || (node_of g k == n))
  more_test q k =
      sym (ap (λ b. (is_listed nodes i (node_of g k) && fed (node_of g k)) || b) (same_node k)
      ∙ more_fed (is_listed nodes i (node_of g k)) (fed (node_of g k)) (node_at nodes i == node_of g k) (at_node_fed true q k))

  -- and with one that isn't
  pub no_more_test : fed n ≡ false → (k : ℕ) → (is_listed nodes (suc i) (node_of g k) && fed (node_of g k)) ≡ (is_listed nodes i (node_of g k) && fed (node_of g k))
  no_more_test q k = sym (no_more_fed (is_listed nodes i (node_of g k)) (fed (node_of g k)) (node_at nodes i == node_of g k) (at_node_fed false q k))

  pub one_more : (mid new : Fielded) → fed n ≡ true →
      IsKeptBy g t (λ k. restored_if (is_listed nodes i (node_of g k) && fed (node_of g k)) t (kept_of old.evidence k)) old mid →
      IsKeptBy g t (λ k. restored_if (node_of g k == n) t (kept_of mid.evidence k)) mid new →
      IsKeptBy g t (λ k. restored_if (is_listed nodes (suc i) (node_of g k) && fed (node_of g k)) t (kept_of old.evidence k)) old new
  unfolding is_brought_by
  one_more mid new q first second =
      kept_then g t (λ k. restored_if (is_brought_by i k) t (kept_of old.evidence k)) (λ k. restored_if (node_of g k == n) t (kept_of mid.evidence k))
      (λ k. restored_if (is_brought_by (suc i) k) t (kept_of old.evidence k)) old mid new first second
      (λ k lk. ap (restored_if (node_of g k == n) t) (first.each k lk)
      ∙ restored_twice (is_brought_by i k) (node_of g k == n) t (kept_of old.evidence k)
      ∙ ap (λ b. restored_if (is_brought_by i k || b) t (kept_of old.evidence k)) (same_node k)
      ∙ ap (λ b. restored_if b t (kept_of old.evidence k))
      (more_fed (is_listed nodes i (node_of g k)) (fed (node_of g k)) (node_at nodes i == node_of g k) (at_node_fed true q k)))

  pub no_more : (mid : Fielded) → fed n ≡ false →
      IsKeptBy g t (λ k. restored_if (is_listed nodes i (node_of g k) && fed (node_of g k)) t (kept_of old.evidence k)) old mid →
      IsKeptBy g t (λ k. restored_if (is_listed nodes (suc i) (node_of g k) && fed (node_of g k)) t (kept_of old.evidence k)) old mid
  unfolding is_brought_by
  no_more mid q first =
      kept_same g t (λ k. restored_if (is_brought_by i k) t (kept_of old.evidence k)) (λ k. restored_if (is_brought_by (suc i) k) t (kept_of old.evidence k)) old mid first
      (λ k lk. ap (λ b. restored_if b t (kept_of old.evidence k))
      (no_more_fed (is_listed nodes i (node_of g k)) (fed (node_of g k)) (node_at nodes i == node_of g k) (at_node_fed false q k)))
