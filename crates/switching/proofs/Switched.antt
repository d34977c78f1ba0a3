-- The network after an order stays radial.
use Rattle.std.proofs.Common.{◌≡◌, ◌≢◌, ℕ, ◌<◌, Bool, true, false, sym, ap, ◌∙◌, subst, inl, inr, ⊎_elim, List, length, get_or, set}
use Rattle.std.specs.Prelude.{◌||◌, ◌==◌}
use Rattle.std.proofs.Math.Path.{fun_ext}
use Rattle.std.proofs.lemmas.Bool.{cases_eq, eq-eqb, ne_eqb, false≢true}
use Rattle.std.proofs.lemmas.List.{get_or-set_same, get_or-set_other}
use Rattle.outage_rules.specs.Network.{Network, IsSoundNetwork, IsRadial}
use Rattle.outage_rules.specs.Laws.{RadialStays}
use Rattle.outage_rules.specs.Loops.{would_loop, LoopIsAWalk}
use Rattle.outage_rules.proofs.Closing.{radial_with_fewer}
use Rattle.grid_model.specs.Parts.{Parts}
use Rattle.grid_model.specs.Network.{network_in}

-- the network where the flagged devices are closed
abbrev pub flagged : Parts → List Bool → Network
flagged g closed = network_in g (λ d. get_or closed d false)

module _ (g : Parts) (closed : List Bool) (d : ℕ) (each : length closed ≡ length g.devices) (ld : d < length g.devices) (radial : IsRadial (flagged g closed)) where
  here : (b : Bool) → get_or (set closed d b) d false ≡ b
  here b = get_or-set_same closed d b false (subst (λ n. d < n) (sym each) ld)

  other : (b : Bool) (e : ℕ) → e ≢ d → get_or (set closed d b) e false ≡ get_or closed e false
  other b e ne = get_or-set_other closed d e b false ne

  -- with the device open
  pub opened_is_radial : IsRadial (flagged g (set closed d false))
  opened_is_radial = radial_with_fewer (flagged g closed) (λ e. get_or (set closed d false) e false) less radial
    where
      less : (e : ℕ) → e < length g.devices → get_or (set closed d false) e false ≡ true → get_or closed e false ≡ true
      less e l c =
          ⊎_elim
          (λ q. absurd (false≢true (sym (ap (λ x. get_or (set closed d false) x false) q ∙ here false) ∙ c)))
          (λ q. sym (other false e q) ∙ c)
          (cases_eq e d)

  -- with the device closed, where that closes no loop
  pub closed_is_radial : IsSoundNetwork (flagged g closed) → LoopIsAWalk → RadialStays → would_loop (flagged g closed) d ≡ false → IsRadial (flagged g (set closed d true))
  closed_is_radial sound law stays none =
      subst IsRadial (ap (network_in g) (fun_ext same))
      (stays (flagged g closed) d radial ld
      (λ k w. false≢true (sym none ∙ (law (flagged g closed) d sound ld).1 (inl (k, w))))
      (λ a b. false≢true (sym none ∙ (law (flagged g closed) d sound ld).1 (inr (a, b)))))
    where
      same : (e : ℕ) → ((e == d) || get_or closed e false) ≡ get_or (set closed d true) e false
      same e =
          ⊎_elim
          (λ q. ap (λ b. b || get_or closed e false) (eq-eqb e d q) ∙ sym (ap (λ x. get_or (set closed d true) x false) q ∙ here true))
          (λ q. ap (λ b. b || get_or closed e false) (ne_eqb e d q) ∙ sym (other true e q))
          (cases_eq e d)
