-- What the repairs of an event cost at most.
use Rattle.std.proofs.Common.{◌≡◌, ℕ, zero, suc, ◌+◌, ◌*◌, ◌<◌, ◌≤◌, Bool, true, false, cond, refl, sym, ap, ◌∙◌, ⊎_elim, arith, length}
use Rattle.std.specs.Prelude.{◌≢◌, ◌==◌, ◌&&◌, ◌||◌, not, if◌then◌else◌}
use Rattle.std.proofs.lemmas.Bool.{cases_eq, eq-eqb}
use Rattle.outage_rules.specs.Sum.{total}
use Rattle.grid_model.specs.Parts.{Parts}
use Rattle.evidence.specs.Kept.{Kept, kept_of, pull_by}
use Rattle.evidence.specs.declared.Pull.{Pull}
use Rattle.field_state.specs.Fielded.{Fielded}
use Rattle.field_state.specs.Acted.{IsKeptBy, restored_if}
use Rattle.field_state.specs.Repairs.{meter_length, pulls_differ, repair_if, restored_cost, restores_cost}
use Rattle.field_state.proofs.Totals.{total_same, total_add}

-- a term is at most the sum
pub total_term : (n : ℕ) (f : ℕ → ℕ) (k : ℕ) → k < n → f k ≤ total n f
total_term zero f k l = absurd (omega arith)
total_term (suc n) f k l =
    ⊎_elim
    (λ e. let x = ap f e in omega arith)
    (λ ne. let rest = total_term n f k (let x : k ≢ n = ne in omega arith) in omega arith)
    (cases_eq k n)

-- each term is at most another
pub total_most : (n : ℕ) (f h : ℕ → ℕ) → ((k : ℕ) → k < n → f k ≤ h k) → total n f ≤ total n h
total_most zero f h each = omega arith
total_most (suc n) f h each =
    let rest = total_most n f h (λ k l. each k (omega arith)) in
    let here = each n (omega arith) in omega arith

-- a sum of multiples
pub total_times : (n c : ℕ) (f : ℕ → ℕ) → total n (λ k. c * f k) ≡ c * total n f
total_times zero c f = omega arith
total_times (suc n) c f = let rest = total_times n c f in omega arith

-- nothing is repaired where the pulls are the same
pub no_repair : (p q : Pull) (length : ℕ) → p ≡ q → repair_if (pulls_differ p q) length ≡ 0
no_repair p q length e =
    ap (λ b. repair_if (not (b && (p.live == q.live))) length) (eq-eqb p.dark q.dark (ap (λ x. x.dark) e))
    ∙ ap (λ b. repair_if (not b) length) (eq-eqb p.live q.live (ap (λ x. x.live) e))

-- a meter that was brought back is brought back at no cost
cost_again : (g : Parts) (t : ℕ) (reach : ℕ → ℕ) (m : ℕ) (k : Kept) (p : Bool) →
    repair_if (pulls_differ (pull_by g m (restored_if p t k)) (pull_by g m (restored_if true t (restored_if p t k)))) (meter_length g reach m)
    ≡ (if p then 0 else repair_if (pulls_differ (pull_by g m k) (pull_by g m (restored_if true t k))) (meter_length g reach m))
cost_again g t reach m k true = no_repair (pull_by g m (restored_if true t k)) (pull_by g m (restored_if true t (restored_if true t k))) (meter_length g reach m) refl
cost_again g t reach m k false = refl

either_cost : (p q p' : Bool) (c : ℕ) → p' ≡ (p || q) → (if p then c else 0) + (if q then (if p then 0 else c) else 0) ≡ (if p' then c else 0)
either_cost true true p' c e = (let x : c + 0 ≡ c = omega arith in x) ∙ ap (λ b. cond b c 0) (sym e)
either_cost true false p' c e = (let x : c + 0 ≡ c = omega arith in x) ∙ ap (λ b. cond b c 0) (sym e)
either_cost false true p' c e = (let x : 0 + c ≡ c = omega arith in x) ∙ ap (λ b. cond b c 0) (sym e)
either_cost false false p' c e = ap (λ b. cond b c 0) (sym e)

-- some meters are brought back after others
pub restores_more : (g : Parts) (t : ℕ) (reach : ℕ → ℕ) (p q p' : ℕ → Bool) (old mid : Fielded) → IsKeptBy g t (λ k. restored_if (p k) t (kept_of old.evidence k)) old mid
    → ((k : ℕ) → p' k ≡ (p k || q k)) → restores_cost g t reach old.evidence p + restores_cost g t reach mid.evidence q ≡ restores_cost g t reach old.evidence p'
restores_more g t reach p q p' old mid first both =
    sym (total_add (length g.meters) (λ k. if p k then restored_cost g t reach old.evidence k else 0) (λ k. if q k then restored_cost g t reach mid.evidence k else 0))
    ∙ total_same (length g.meters) (λ k. (if p k then restored_cost g t reach old.evidence k else 0) + (if q k then restored_cost g t reach mid.evidence k else 0))
    (λ k. if p' k then restored_cost g t reach old.evidence k else 0)
    (λ k l. ap (λ x. (if p k then restored_cost g t reach old.evidence k else 0) + (if q k then x else 0)) (again k l) ∙ either_cost (p k) (q k) (p' k) (restored_cost g t reach old.evidence k) (both k))
  where
    again : (k : ℕ) → k < length g.meters → restored_cost g t reach mid.evidence k ≡ (if p k then 0 else restored_cost g t reach old.evidence k)
    again k l =
        ap (λ x. repair_if (pulls_differ (pull_by g k x) (pull_by g k (restored_if true t x))) (meter_length g reach k)) (first.each k l)
        ∙ cost_again g t reach k (kept_of old.evidence k) (p k)

-- the same meters by another test
pub restores_same : (g : Parts) (t : ℕ) (reach : ℕ → ℕ) (p q : ℕ → Bool) (f : Fielded) → ((k : ℕ) → k < length g.meters → p k ≡ q k)
    → restores_cost g t reach f.evidence p ≡ restores_cost g t reach f.evidence q
restores_same g t reach p q f same =
    total_same (length g.meters) (λ k. if p k then restored_cost g t reach f.evidence k else 0) (λ k. if q k then restored_cost g t reach f.evidence k else 0)
    (λ k l. ap (λ b. if b then restored_cost g t reach f.evidence k else 0) (same k l))

-- one meter
pub restores_one : (g : Parts) (t : ℕ) (reach : ℕ → ℕ) (m : ℕ) (f : Fielded) → m < length g.meters
    → restored_cost g t reach f.evidence m ≤ restores_cost g t reach f.evidence (λ k. k == m)
restores_one g t reach m f l =
    let term = total_term (length g.meters) (λ k. if k == m then restored_cost g t reach f.evidence k else 0) m l in
    let here = ap (λ b. if b then restored_cost g t reach f.evidence m else 0) (eq-eqb m m refl) in omega arith

-- and none
pub restores_none : (g : Parts) (t : ℕ) (reach : ℕ → ℕ) (f : Fielded) → restores_cost g t reach f.evidence (λ k. false) ≡ 0
restores_none g t reach f = none (length g.meters)
  where
    none : (n : ℕ) → total n (λ k. 0) ≡ 0
    none zero = refl
    none (suc n) = let rest = none n in omega arith
