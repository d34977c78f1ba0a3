-- The first device that closes a loop lies between a radial prefix and one that isn't.
use Rattle.std.proofs.Common.{◌≡◌, ℕ, suc, ◌<◌, ◌≤◌, Bool, true, false, nat_lt, sym, ap, ◌∙◌, ⊎_elim, arith, List, length, get_or, Some}
use Rattle.std.specs.Prelude.{◌&&◌}
use Rattle.std.proofs.Math.Path.{fun_ext}
use Rattle.std.proofs.lemmas.Bool.{cases_eq, cases_lt, lt-ltb, and_right, true_from_ne_false}
use Rattle.std.proofs.lemmas.List.{get_or_past}
use Rattle.outage_rules.specs.Network.{Network, IsSoundNetwork, IsRadial}
use Rattle.outage_rules.specs.Loops.{before, loops, first_loop, RadialBefore}
use Rattle.outage_rules.proofs.FirstBelow.{first_at}
use Rattle.grid_model.specs.Parts.{Parts}
use Rattle.grid_model.specs.Network.{network_in}
use Rattle.radial_forest.specs.Spreading.{switched, first_flags}

-- past the end no flag is set
pub past_end : (closed kept : List Bool) (k : ℕ) → length kept ≡ length closed → ((d : ℕ) → d < length kept → get_or kept d false ≡ first_flags closed k d) → (d : ℕ) → get_or kept d false ≡ first_flags closed k d
past_end closed kept k same h d =
    ⊎_elim
    (h d)
    (λ l. get_or_past kept d false l ∙ sym (and_right (nat_lt d k) (get_or closed d false) (get_or_past closed d false (omega arith))))
    (cases_lt d (length kept))

-- the network of the flags that are kept
pub kept_is : (g : Parts) (closed kept : List Bool) (k : ℕ) → ((d : ℕ) → get_or kept d false ≡ first_flags closed k d) → switched g kept ≡ before (switched g closed) k
kept_is g closed kept k h = ap (network_in g) (fun_ext h)

-- all flags are kept
pub all_is : (g : Parts) (closed : List Bool) (k : ℕ) → length closed ≤ k → before (switched g closed) k ≡ switched g closed
all_is g closed k l = ap (network_in g) (fun_ext same)
  where
    same : (d : ℕ) → first_flags closed k d ≡ get_or closed d false
    same d =
        ⊎_elim
        (λ a. ap (λ b. b && get_or closed d false) (lt-ltb d k (omega arith)))
        (λ a. let none = get_or_past closed d false a in and_right (nat_lt d k) (get_or closed d false) none ∙ sym none)
        (cases_lt d (length closed))

module _ (g : Network) (sound : IsSoundNetwork g) (radial_before : RadialBefore) where
  -- no device at all closes no loop
  pub none_radial : IsRadial (before g 0)
  none_radial = (radial_before g 0 sound (omega arith)).1 (λ d l. absurd (omega arith))

  -- the first device after a radial prefix, where it makes one that isn't
  pub first_is : (low high : ℕ) → low < high → high ≤ suc low → high ≤ g.devices → IsRadial (before g low) → (IsRadial (before g high) → ⊥) → first_loop g ≡ Some low
  unfolding first_loop
  first_is low high l h le radial looped = first_at g.devices low (loops g) (omega arith) here before'
    where
      before' : (d : ℕ) → d < low → loops g d ≡ false
      before' = (radial_before g low sound (omega arith)).0 radial

      here : loops g low ≡ true
      here = true_from_ne_false (loops g low) (λ none. looped ((radial_before g high sound le).1 (λ d ld. ⊎_elim (λ e. ap (loops g) e ∙ none) (λ ne. before' d (omega arith)) (cases_eq d low))))
