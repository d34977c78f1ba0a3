-- The verdict on all conditions, from those on their parts.
use Rattle.std.proofs.Common.{◌≡◌, ℕ, List, ◌++◌, sym, subst, ◌∙◌}
use Rattle.std.specs.Prelude.{Bool, Result, Ok, Err, IfOk}
use Rattle.std.specs.declared.alloc.AllocError.{AllocError}
use Rattle.outage_rules.specs.Network.{Problem, Cut}
use Rattle.outage_rules.specs.Certificate.{Table, IsCertified}
use Rattle.grid_model.specs.Parts.{Parts}
use Rattle.grid_model.specs.Sound.{IsSoundParts}
use Rattle.grid_model.specs.declared.history.Mark.{Mark}
use Rattle.bound_checker.specs.declared.rules.Verdict.{Verdict}
use Rattle.bound_checker.specs.declared.rules.Verdict.TheVariants.{Valid}
use Rattle.grid_model.specs.Problem.{problem_of}
use Rattle.bound_checker.specs.Verdict.{cut_trials, forest_trials, row_trials, cost_trials, first_failed, verdict_of}
use Rattle.bound_checker.proofs.Trials.{before, behind}
use Rattle.bound_checker.proofs.Passed.{valid_certifies}

module _ (p : Problem) (t : Table) (cut : Cut) (c : ℕ) where
  pub by_cut : (v : Verdict) → v ≡ first_failed (cut_trials p cut) → (v ≡ Valid → ⊥) → v ≡ verdict_of p t cut c
  unfolding verdict_of
  by_cut v e not_valid = e ∙ before (cut_trials p cut) (forest_trials p.net t ++ (row_trials p t ++ cost_trials p t cut c)) (λ f. not_valid (e ∙ f))

  pub by_forest : (v : Verdict) → first_failed (cut_trials p cut) ≡ Valid → v ≡ first_failed (forest_trials p.net t) → (v ≡ Valid → ⊥) → v ≡ verdict_of p t cut c
  unfolding verdict_of
  by_forest v a e not_valid =
      e ∙ before (forest_trials p.net t) (row_trials p t ++ cost_trials p t cut c) (λ f. not_valid (e ∙ f))
      ∙ sym (behind (cut_trials p cut) (forest_trials p.net t ++ (row_trials p t ++ cost_trials p t cut c)) a)

  pub by_rows : (v : Verdict) → first_failed (cut_trials p cut) ≡ Valid → first_failed (forest_trials p.net t) ≡ Valid → v ≡ first_failed (row_trials p t) → (v ≡ Valid → ⊥) → v ≡ verdict_of p t cut c
  unfolding verdict_of
  by_rows v a b e not_valid =
      e ∙ before (row_trials p t) (cost_trials p t cut c) (λ f. not_valid (e ∙ f))
      ∙ sym (behind (forest_trials p.net t) (row_trials p t ++ cost_trials p t cut c) b)
      ∙ sym (behind (cut_trials p cut) (forest_trials p.net t ++ (row_trials p t ++ cost_trials p t cut c)) a)

  by_costs : (v : Verdict) → first_failed (cut_trials p cut) ≡ Valid → first_failed (forest_trials p.net t) ≡ Valid → first_failed (row_trials p t) ≡ Valid → v ≡ first_failed (cost_trials p t cut c) → v ≡ verdict_of p t cut c
  unfolding verdict_of
  by_costs v a b d e =
      e ∙ sym (behind (row_trials p t) (cost_trials p t cut c) d)
      ∙ sym (behind (forest_trials p.net t) (row_trials p t ++ cost_trials p t cut c) b)
      ∙ sym (behind (cut_trials p cut) (forest_trials p.net t ++ (row_trials p t ++ cost_trials p t cut c)) a)

  pub costs_answer : (r : Result Verdict AllocError) → first_failed (cut_trials p cut) ≡ Valid → first_failed (forest_trials p.net t) ≡ Valid → first_failed (row_trials p t) ≡ Valid →
      IfOk r (λ v. v ≡ first_failed (cost_trials p t cut c)) → IfOk r (λ v. v ≡ verdict_of p t cut c)
  costs_answer (Ok v) a b d e = by_costs v a b d e
  costs_answer (Err x) a b d e = tt

-- equal tables, cuts and costs have one verdict
pub same_claims : (r : Result Verdict AllocError) (p : Problem) (t u : Table) (cut other : Cut) (c d : ℕ) → t ≡ u → cut ≡ other → c ≡ d →
    IfOk r (λ v. v ≡ verdict_of p t cut c) → IfOk r (λ v. v ≡ verdict_of p u other d)
same_claims r p t u cut other c d e f h v =
    subst (λ x. IfOk r (λ v. v ≡ verdict_of p x other d)) e (subst (λ x. IfOk r (λ v. v ≡ verdict_of p t x d)) f (subst (λ x. IfOk r (λ v. v ≡ verdict_of p t cut x)) h v))

-- a valid answer is a certificate
pub answer_certifies : (r : Result Verdict AllocError) (g : Parts) (closed : List Bool) (marks : List Mark) (dark live : List ℕ) (t : Table) (cut : Cut) (c : ℕ) → IsSoundParts g →
    IfOk r (λ v. v ≡ verdict_of (problem_of g closed marks dark live) t cut c) → IfOk r (λ v. v ≡ Valid → IsCertified (problem_of g closed marks dark live) cut c)
answer_certifies (Ok v) g closed marks dark live t cut c s e = λ valid. valid_certifies g closed marks dark live t cut c s (sym e ∙ valid)
answer_certifies (Err x) g closed marks dark live t cut c s e = tt
