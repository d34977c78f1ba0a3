-- The table and the cut that tight bounds claim are the computed ones, so they are valid.
use Rattle.std.proofs.Common.{◌≡◌, ℕ, zero, suc, ◌+◌, ◌<◌, ◌≤◌, Bool, true, false, cond, refl, sym, ap, ◌∙◌, subst, ⊎_elim, arith, List, ◌∷◌, map, None, Some}
use Rattle.std.specs.Prelude.{◌||◌, not, ◌==◌}
use Rattle.std.specs.List.{filter, range_with_len}
use Rattle.std.proofs.lemmas.Bool.{and_parts, cases_eq, eq-eqb, ne_eqb, not-true, or_left}
use Rattle.outage_rules.specs.Network.{Problem, Cut, IsSound}
use Rattle.outage_rules.specs.Certificate.{PassesCheck}
use Rattle.outage_rules.specs.Agreement.{AgreeAt}
use Rattle.outage_rules.specs.Reference as reference
use Rattle.outage_rules.specs.Reference.{reference_cut, least_cost}
use Rattle.grid_model.specs.declared.parts.DeviceId.{DeviceId}
use Rattle.bound_table.specs.declared.bounds.BoundRow.{BoundRow}
use Rattle.bound_table.specs.Tight.{row_at, cuts_of, rows_of, tight_bounds}
use Rattle.bound_checker.specs.declared.claims.Claim.{Claim}
use Rattle.bound_checker.specs.declared.rules.Verdict.TheVariants.{Valid}
use Rattle.bound_checker.specs.Claimed.{cut_of, no_claim, parent_number, claim_of, claim_at, table_of}
use Rattle.bound_checker.specs.Verdict.{verdict_of}
use Rattle.bound_checker.proofs.NothingFails.{valid}
use Rattle.bound_checker.proofs.Agreeing.{passes_too}

-- the rows of the numbers from a on that are listed
abbrev listed_rows : (ℕ → Bool) → (ℕ → BoundRow) → ℕ → ℕ → List BoundRow
listed_rows listed row a n = map row (filter listed (range_with_len a n))

module _ (devices : ℕ) (listed : ℕ → Bool) (row : ℕ → BoundRow) (numbered : (k : ℕ) → (row k).node.0 ≡ k) where
  -- a row of another node is passed over
  passed_over : (b : Bool) (a n : ℕ) (rest : List ℕ) → (a ≡ n → ⊥) → claim_at devices (map row (cond b (a ∷ rest) rest)) n ≡ claim_at devices (map row rest) n
  passed_over true a n rest ne = ap (λ x. cond x (claim_of devices (row a)) (claim_at devices (map row rest) n)) (ne_eqb (row a).node.0 n (λ e. ne (sym (numbered a) ∙ e)))
  passed_over false a n rest ne = refl

  -- the node's own row is taken, where it is listed
  taken : (b : Bool) (a : ℕ) (rest : List ℕ) → claim_at devices (map row rest) a ≡ no_claim → claim_at devices (map row (cond b (a ∷ rest) rest)) a ≡ cond b (claim_of devices (row a)) no_claim
  taken true a rest none = ap (λ x. cond x (claim_of devices (row a)) (claim_at devices (map row rest) a)) (eq-eqb (row a).node.0 a (numbered a))
  taken false a rest none = none

  no_claim_before : (a k n : ℕ) → n < a → claim_at devices (listed_rows listed row a k) n ≡ no_claim
  no_claim_before a zero n l = refl
  no_claim_before a (suc k) n l =
      passed_over (listed a) a n (filter listed (range_with_len (a + 1) k)) (λ e. let e' : a ≡ n = e in omega arith) ∙ no_claim_before (a + 1) k n (omega arith)

  claim_is : (a k n : ℕ) → a ≤ n → n < a + k → claim_at devices (listed_rows listed row a k) n ≡ cond (listed n) (claim_of devices (row n)) no_claim
  claim_is a zero n l m = absurd (omega arith)
  claim_is a (suc k) n l m =
      let rest = filter listed (range_with_len (a + 1) k) in
      ⊎_elim
      (λ e. subst (λ x. claim_at devices (listed_rows listed row a (suc k)) x ≡ cond (listed x) (claim_of devices (row x)) no_claim) e (taken (listed a) a rest (no_claim_before (a + 1) k a (omega arith))))
      (λ ne. let ne' : a ≡ n → ⊥ = ne in passed_over (listed a) a n rest ne ∙ claim_is (a + 1) k n (omega arith) (omega arith))
      (cases_eq a n)

abbrev device : ℕ → DeviceId
device d = record { 0 = d }

module _ (cut : Cut) where
  other_cut : (b : Bool) (a d : ℕ) (rest : List ℕ) → (a ≡ d → ⊥) → cut_of (map device (cond b (a ∷ rest) rest)) d ≡ cut_of (map device rest) d
  other_cut true a d rest ne = ap (λ x. x || cut_of (map device rest) d) (ne_eqb a d ne)
  other_cut false a d rest ne = refl

  own_cut : (b : Bool) (a : ℕ) (rest : List ℕ) → cut_of (map device rest) a ≡ false → cut_of (map device (cond b (a ∷ rest) rest)) a ≡ b
  own_cut true a rest none = or_left (a == a) (cut_of (map device rest) a) (eq-eqb a a refl)
  own_cut false a rest none = none

  no_cut_before : (a k d : ℕ) → d < a → cut_of (map device (filter cut (range_with_len a k))) d ≡ false
  no_cut_before a zero d l = refl
  no_cut_before a (suc k) d l =
      other_cut (cut a) a d (filter cut (range_with_len (a + 1) k)) (λ e. let e' : a ≡ d = e in omega arith) ∙ no_cut_before (a + 1) k d (omega arith)

  cut_is : (a k d : ℕ) → a ≤ d → d < a + k → cut_of (map device (filter cut (range_with_len a k))) d ≡ cut d
  cut_is a zero d l m = absurd (omega arith)
  cut_is a (suc k) d l m =
      let rest = filter cut (range_with_len (a + 1) k) in
      ⊎_elim
      (λ e. subst (λ x. cut_of (map device (filter cut (range_with_len a (suc k)))) x ≡ cut x) e (own_cut (cut a) a rest (no_cut_before (a + 1) k a (omega arith))))
      (λ ne. let ne' : a ≡ d → ⊥ = ne in other_cut (cut a) a d rest ne ∙ cut_is (a + 1) k d (omega arith) (omega arith))
      (cases_eq a d)

-- whether a claim is listed
claimed : (b : Bool) (x : Claim) → x.is_listed ≡ true → b ≡ (cond b x no_claim).is_listed
claimed true x h = sym h
claimed false x h = refl

module _ (p : Problem) where
  claim : (n : ℕ) → n < p.nodes → claim_at p.devices (rows_of p (reference.table_of p)) n ≡ cond ((reference.table_of p).is_listed n) (claim_of p.devices (row_at p (reference.table_of p) n)) no_claim
  claim n l = claim_is p.devices (reference.table_of p).is_listed (row_at p (reference.table_of p)) (λ k. refl) 0 p.nodes n (omega arith) (omega arith)

  -- of a listed node the row is claimed
  shown : (n : ℕ) → n < p.nodes → (reference.table_of p).is_listed n ≡ true → claim_at p.devices (rows_of p (reference.table_of p)) n ≡ claim_of p.devices (row_at p (reference.table_of p) n)
  shown n l e = claim n l ∙ ap (λ b. cond b (claim_of p.devices (row_at p (reference.table_of p) n)) no_claim) e

  -- a source has no parent, and another node the computed one
  parent_is : (n : ℕ) (b : Bool) → n < p.nodes → (reference.table_of p).is_listed n ≡ true → p.is_source n ≡ b
      → (claim_at p.devices (rows_of p (reference.table_of p)) n).parent ≡ parent_number p.devices (cond b None (Some (device ((reference.table_of p).parent n))))
  parent_is n b l e s = ap (λ x. x.parent) (shown n l e) ∙ ap (λ x. parent_number p.devices (cond x None (Some (device ((reference.table_of p).parent n))))) s

  agree : (n : ℕ) → n < p.nodes → AgreeAt p.net (reference.table_of p) (table_of p.devices (rows_of p (reference.table_of p))) n
  agree n l = record {
    listed = claimed ((reference.table_of p).is_listed n) (claim_of p.devices (row_at p (reference.table_of p) n)) refl ∙ sym (ap (λ x. x.is_listed) (claim n l));
    parent = λ h. let both = and_parts ((reference.table_of p).is_listed n) (not (p.is_source n)) h in sym (parent_is n false l both.0 (not-true (p.is_source n) both.1));
    depth = λ e. sym (ap (λ x. x.depth) (shown n l e));
    live = λ e. sym (ap (λ x. x.live) (shown n l e));
    dark = λ e. sym (ap (λ x. x.dark) (shown n l e));
  }

  -- so they are valid, since the computed ones pass
  pub tight_valid : IsSound p → PassesCheck p (reference.table_of p) (reference_cut p) (least_cost p)
      → verdict_of p (table_of p.devices (tight_bounds p).rows) (cut_of (tight_bounds p).cuts) (tight_bounds p).cost ≡ Valid
  unfolding tight_bounds
  tight_valid sound passes =
      valid p (table_of p.devices (rows_of p (reference.table_of p))) (cut_of (cuts_of p)) (least_cost p)
      (passes_too p (reference.table_of p) (table_of p.devices (rows_of p (reference.table_of p))) (reference_cut p) (cut_of (cuts_of p)) (least_cost p) sound.net agree
      (λ d l. sym (cut_is (reference_cut p) 0 p.devices d (omega arith) (omega arith))) passes)
      (λ n l e. parent_is n true l (passes.forest.source n l e).0 e)
