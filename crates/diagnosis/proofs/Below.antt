-- What hangs from a node: the other ends of some of its devices.
use Rattle.std.proofs.Common.{◌≡◌, ℕ, ◌+◌, ◌<◌, below_more, cond, sym, ap, ◌∙◌, subst, inl, inr, ⊎_elim, List, length, Some}
use Rattle.std.specs.Prelude.{◌⊎◌, ◌==◌}
use Rattle.std.proofs.lemmas.Bool.{cases_Bool}
use Rattle.outage_rules.specs.Network.{Network}
use Rattle.outage_rules.specs.Certificate.{other_end}
use Rattle.grid_model.specs.declared.parts.DeviceId.{DeviceId}
use Rattle.grid_model.specs.Parts.{Parts}
use Rattle.grid_model.specs.Places.{device_id}
use Rattle.grid_model.specs.Network.{network_of}
use Rattle.radial_forest.specs.Traversed.{parent_in}
use Rattle.radial_forest.specs.Spreading.{switched}
use Rattle.radial_forest.proofs.Incident.{number_at}
use Rattle.radial_forest.proofs.LowerSide.{other_again}
use Rattle.subtree_costs.specs.Costed.{Costed, IsCosted}
use Rattle.diagnosis.specs.Judging.{Aim, Judging, IsRight, Leads}
use Rattle.diagnosis.proofs.Turning.{right_still}

-- the other end is an end
pub other_is_end : (net : Network) (d m n : ℕ) → other_end net d m ≡ n → (net.from d ≡ n) ⊎ (net.to d ≡ n)
other_is_end net d m n e =
    ⊎_elim
    (λ t. inl (sym (ap (λ b. cond b (net.from d) (net.to d)) t) ∙ e))
    (λ f. inr (sym (ap (λ b. cond b (net.from d) (net.to d)) f) ∙ e))
    (cases_Bool (net.to d == m))

-- what hangs from a node is the other end of the device
pub child_is : (g : Parts) (c : Costed) → IsCosted g c → (n m : ℕ) (x : DeviceId) → m < length g.nodes → parent_in c.forest.parents m ≡ Some x → other_end (network_of g) x.0 m ≡ n
    → other_end (network_of g) x.0 n ≡ m
child_is g c costed n m x l e above =
    let h = costed.posed.forest.rooted.parent m x l e in
    ap (other_end (network_of g) x.0) (sym above) ∙ other_again (switched g c.forest.closed) x.0 m costed.posed.forest.sound h.within h.ends

-- what hangs from the node by one of the first devices of a list is right
abbrev pub AreRightBelow : Parts → Costed → Aim → Judging → List DeviceId → ℕ → ℕ → Type 0
AreRightBelow g c w s xs i n = (j : ℕ) → j < i → (m : ℕ) (x : DeviceId) → m < length g.nodes → parent_in c.forest.parents m ≡ Some x → x.0 ≡ number_at xs j → other_end (network_of g) x.0 m ≡ n → IsRight c w s m

module _ (g : Parts) (c : Costed) (costed : IsCosted g c) (w : Aim) (s s' : Judging) (xs : List DeviceId) (i n : ℕ) (before : AreRightBelow g c w s xs i n) where
  -- nothing hangs from it by the next device
  pub right_passed : (y : DeviceId) → y.0 ≡ number_at xs i → (parent_in c.forest.parents (other_end (network_of g) y.0 n) ≡ Some y → ⊥) → AreRightBelow g c w s xs (i + 1) n
  right_passed y is none =
      below_more (λ j. (m : ℕ) (x : DeviceId) → m < length g.nodes → parent_in c.forest.parents m ≡ Some x → x.0 ≡ number_at xs j → other_end (network_of g) x.0 m ≡ n → IsRight c w s m) i before
      (λ m x l e at above.
      let same : x ≡ y = ap device_id (at ∙ sym is) in
      absurd (none (ap (parent_in c.forest.parents) (ap (λ (z : DeviceId). other_end (network_of g) z.0 n) (sym same) ∙ child_is g c costed n m x l e above) ∙ e ∙ ap (λ z. Some z) same)))

  -- what hangs from it by the next device is judged
  pub right_more : Leads g c w s s' → IsRight c w s' (other_end (network_of g) (number_at xs i) n) → AreRightBelow g c w s' xs (i + 1) n
  right_more leads here =
      below_more (λ j. (m : ℕ) (x : DeviceId) → m < length g.nodes → parent_in c.forest.parents m ≡ Some x → x.0 ≡ number_at xs j → other_end (network_of g) x.0 m ≡ n → IsRight c w s' m) i
      (λ j l m x lm e at above. right_still g c w s s' m leads (before j l m x lm e at above))
      (λ m x l e at above. subst (IsRight c w s') (ap (λ k. other_end (network_of g) k n) (sym at) ∙ child_is g c costed n m x l e above) here)
