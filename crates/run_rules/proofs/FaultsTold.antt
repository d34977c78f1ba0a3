-- What calls tell of their faults one after the other.
use Rattle.std.proofs.Common.{◌≡◌, ◌<◌, ◌≤◌, ◌∙◌, ℕ, refl, sym, ap, subst, arith, le_refl}
use Rattle.std.specs.Prelude.{Result, Ok, Err, IsErrOf, is_ok}
use Rattle.std.proofs.lemmas.Bool.{false≢true}
use Rattle.run_rules.specs.Faults.{TellsFaults}

-- a call that didn't fail left the count
pub left_count : (a b : ℕ) (failed : Type 0) → TellsFaults a b failed → (failed → ⊥) → b ≡ a
left_count a b failed tells fine = let later = tells.later in let rose : a < b → ⊥ = λ l. fine (tells.told l) in omega arith

-- no call failed
pub no_fault : (a b : ℕ) (failed : Type 0) → b ≡ a → (failed → ⊥) → TellsFaults a b failed
no_fault a b failed same fine = record {
  later = omega arith;
  rose = λ f. absurd (fine f);
  told = λ l. absurd (omega arith);
}

-- the first call didn't fail, so the second tells of both
pub tells_last : (a b c : ℕ) (failed : Type 0) → b ≡ a → TellsFaults b c failed → TellsFaults a c failed
tells_last a b c failed same tells = subst (λ n. TellsFaults n c failed) same tells

-- the second call didn't fail, so the first tells of both
pub tells_first : (a b c : ℕ) (failed : Type 0) → TellsFaults a b failed → c ≡ b → TellsFaults a c failed
tells_first a b c failed tells same = subst (λ n. TellsFaults a n failed) (sym same) tells

-- a failure told in other words
pub tells_as : (a b : ℕ) (failed named : Type 0) → (failed → named) → (named → failed) → TellsFaults a b failed → TellsFaults a b named
tells_as a b failed named into from tells = record {
  later = tells.later;
  rose = λ n. tells.rose (from n);
  told = λ l. into (tells.told l);
}

-- what went well is no error
pub no_error : {X E : Type 0} (r : Result X E) (x : X) (e : E) → r ≡ Ok x → IsErrOf r e → ⊥
no_error r x e is err = false≢true (ap is_ok (sym err) ∙ ap is_ok is)

-- so it left the count
pub left_by : {X E : Type 0} (r : Result X E) (x : X) (e : E) (a b : ℕ) → r ≡ Ok x → TellsFaults a b (IsErrOf r e) → b ≡ a
left_by r x e a b is tells = left_count a b (IsErrOf r e) tells (no_error r x e is)

-- an error is handed on
error_is : {X E : Type 0} (r : Result X E) (s e : E) → r ≡ Err s → IsErrOf r e → s ≡ e
error_is r s e is err = cc

pub tells_status : {X E : Type 0} (r : Result X E) (s e : E) (a b : ℕ) → r ≡ Err s → TellsFaults a b (IsErrOf r e) → TellsFaults a b (s ≡ e)
tells_status r s e a b is tells = tells_as a b (IsErrOf r e) (s ≡ e) (error_is r s e is) (λ same. is ∙ ap Err same) tells

pub tells_error : {X Y E : Type 0} (r : Result X E) (q : Result Y E) (s e : E) (a b : ℕ) → r ≡ Err s → q ≡ Err s → TellsFaults a b (IsErrOf r e) → TellsFaults a b (IsErrOf q e)
tells_error r q s e a b is also tells =
    tells_as a b (IsErrOf r e) (IsErrOf q e) (λ err. also ∙ ap Err (error_is r s e is err)) (λ err. is ∙ ap Err (error_is q s e also err)) tells
