-- Flags that agree with exact rows are those of the diagnosis.
use Rattle.std.proofs.Common.{◌≡◌, ℕ, zero, suc, ◌<◌, Bool, true, false, refl, sym, ap, ◌∙◌, ⊎_elim, arith}
use Rattle.std.specs.Prelude.{◌||◌, ◌&&◌, not}
use Rattle.std.proofs.lemmas.Bool.{cases_Bool, and_from, not_from_false}
use Rattle.outage_rules.specs.Network.{Problem, Cut, IsSound, is_live}
use Rattle.outage_rules.specs.Diagnosis.{IsDiagnosis}
use Rattle.outage_rules.specs.Certificate.{Table, upper, lit, is_cheaper_open, IsForest, HasExactRows, AreDarkFlags, AgreeWithRows}
use Rattle.outage_rules.proofs.Balance.{lit_source, lit_unlisted, lit_child}
use Rattle.outage_rules.proofs.Rooted.{up_within}
use Rattle.outage_rules.proofs.Checked.{live_is_lit}
use Rattle.outage_rules.proofs.Cautious.{is_diagnosis}

not_or : (a b : Bool) → (not a && not b) ≡ not (a || b)
not_or true b = refl
not_or false b = refl

module _ (p : Problem) (t : Table) (cut : Cut) (is_dark : ℕ → Bool) (sound : IsSound p) (forest : IsForest p.net t) where
  lit_is : AreDarkFlags p t cut is_dark → (k n : ℕ) → n < p.nodes → t.is_listed n ≡ true → t.depth n ≡ k → lit p.net t cut n ≡ not (is_dark n)
  lit_is flags zero n l in_table e =
      ⊎_elim
      (λ s. lit_source p t cut sound forest n l s ∙ sym (ap not (flags.source n l s)))
      (λ s. let x = (forest.parent n l (and_from (t.is_listed n) (not (p.is_source n)) in_table (not_from_false (p.is_source n) s))).deeper in absurd (omega arith))
      (cases_Bool (p.is_source n))
  lit_is flags (suc k) n l in_table e =
      ⊎_elim
      (λ s. lit_source p t cut sound forest n l s ∙ sym (ap not (flags.source n l s)))
      (λ s. let hp = and_from (t.is_listed n) (not (p.is_source n)) in_table (not_from_false (p.is_source n) s) in
      let h = forest.parent n l hp in
      let x = h.deeper in
      lit_child p t cut sound forest n l hp
      ∙ ap (λ b. b && not (cut (t.parent n))) (lit_is flags k (upper p.net t n) (up_within p.net t cut sound.net forest.rooted n h) h.listed (omega arith))
      ∙ not_or (is_dark (upper p.net t n)) (cut (t.parent n))
      ∙ sym (ap not (flags.below n l hp)))
      (cases_Bool (p.is_source n))

  lit_is_flag : AreDarkFlags p t cut is_dark → (n : ℕ) → n < p.nodes → lit p.net t cut n ≡ not (is_dark n)
  lit_is_flag flags n l =
      ⊎_elim
      (λ e. lit_is flags (t.depth n) n l e refl)
      (λ e. lit_unlisted p t cut sound forest n e ∙ sym (ap not (flags.unlisted n l e)))
      (cases_Bool (t.is_listed n))

  -- the flags tell which nodes are live
  pub live_is_flag : AreDarkFlags p t cut is_dark → (n : ℕ) → n < p.nodes → is_live p.net cut n ≡ not (is_dark n)
  live_is_flag flags n l = live_is_lit p t cut sound forest n l ∙ lit_is_flag flags n l

  pub flags_are_diagnosis : HasExactRows p t → AgreeWithRows p t cut is_dark → IsDiagnosis p cut
  flags_are_diagnosis rows agree = is_diagnosis p t sound forest rows cut (record {
    below = λ n l hp. agree.below n l hp ∙ ap (λ b. p.marked_open (t.parent n) || (b && is_cheaper_open p t n)) (sym (lit_is_flag agree.flags (upper p.net t n) (up_within p.net t cut sound.net forest.rooted n (forest.parent n l hp))));
    apart = agree.apart;
    open_ones = agree.open_ones;
  })
