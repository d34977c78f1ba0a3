-- Where the closed devices are radial, what a traversal from the sources lists is a forest.
use Rattle.std.proofs.Common.{◌≡◌, ℕ, zero, suc, ◌<◌, Bool, true, false, refl, sym, ap, ◌∙◌, inl, inr, ⊎_elim}
use Rattle.std.specs.Prelude.{◌||◌, ◌&&◌, not, ◌==◌}
use Rattle.std.proofs.lemmas.Bool.{cases_Bool, and_from, and_parts, or_from, false≢true, eqb-true, not_from_false, false_from_ne_true}
use Rattle.outage_rules.specs.Network.{Network, IsLive, IsSoundNetwork, IsRadial, only}
use Rattle.outage_rules.specs.Certificate.{Table, has_parent, upper, cut_above, IsRooted, IsForest, IsWhole}
use Rattle.outage_rules.proofs.Sums.{some_below_true, some_below_at}
use Rattle.outage_rules.specs.Sum.{some_below}
use Rattle.outage_rules.proofs.Rooted.{live_from_lit, up_within}

-- whether the device is the parent device of the node
abbrev is_parent_at : Network → Table → ℕ → ℕ → Bool
is_parent_at p t d n = has_parent p t n && (t.parent n == d)

module _ (p : Network) (t : Table) (sound : IsSoundNetwork p) (rooted : IsRooted p t) where
  -- a device that is no parent device is above no node
  not_above : (d : ℕ) → ((n : ℕ) → n < p.nodes → is_parent_at p t d n ≡ false) → (k n : ℕ) → n < p.nodes → cut_above p t (only d) k n ≡ false
  not_above d none zero n l = refl
  not_above d none (suc k) n l =
      ⊎_elim
      (λ hp. ap (λ b. b && (only d (t.parent n) || cut_above p t (only d) k (upper p t n))) hp
      ∙ or_from (only d (t.parent n)) (cut_above p t (only d) k (upper p t n))
      (sym (ap (λ b. b && (t.parent n == d)) hp) ∙ none n l)
      (not_above d none k (upper p t n) (up_within p t (only d) sound rooted n (rooted.parent n l hp))))
      (λ hp. ap (λ b. b && (only d (t.parent n) || cut_above p t (only d) k (upper p t n))) hp)
      (cases_Bool (has_parent p t n))

  live_without : (d : ℕ) → ((n : ℕ) → n < p.nodes → is_parent_at p t d n ≡ false) → (n : ℕ) → n < p.nodes → t.is_listed n ≡ true → IsLive p (only d) n
  live_without d none n l in_table =
      live_from_lit p t (only d) sound rooted n l
      (and_from (t.is_listed n) (not (cut_above p t (only d) (t.depth n) n)) in_table (not_from_false (cut_above p t (only d) (t.depth n) n) (not_above d none (t.depth n) n l)))

  pub forest_from_radial : IsWhole p t → IsRadial p → IsForest p t
  forest_from_radial whole radial = record {
    rooted = rooted;
    stray = λ d l c. ⊎_elim
        (λ e. inl (let s = some_below_true p.nodes (is_parent_at p t d) e in
        let a = and_parts (has_parent p t s.0) (t.parent s.0 == d) s.2 in (s.0, s.1, a.0, eqb-true (t.parent s.0) d a.1)))
        (λ e. inr (outside d l c (λ n ln. false_from_ne_true (is_parent_at p t d n) (λ b. false≢true (sym e ∙ some_below_at p.nodes (is_parent_at p t d) n ln b)))))
        (cases_Bool (some_below p.nodes (is_parent_at p t d)));
  }
    where
      outside : (d : ℕ) → d < p.devices → p.is_closed d ≡ true → ((n : ℕ) → n < p.nodes → is_parent_at p t d n ≡ false) → (t.is_listed (p.from d) ≡ false) × (t.is_listed (p.to d) ≡ false)
      outside d l c none =
          ⊎_elim
          (λ e. absurd ((radial d l c).1 (live_without d none (p.from d) (sound.from d l) e) (live_without d none (p.to d) (sound.to d l) (sym (whole d l c) ∙ e))))
          (λ e. (e, sym (whole d l c) ∙ e))
          (cases_Bool (t.is_listed (p.from d)))
