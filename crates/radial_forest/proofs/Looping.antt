-- Closing a device closes a loop exactly where its ends have one root, or are both fed.
use Rattle.std.proofs.Common.{◌≡◌, ℕ, ◌<◌, Bool, ap, ◌∙◌, List, Option, inl, inr, ⊎_elim}
use Rattle.std.specs.Prelude.{◌&&◌, ◌||◌, ◌==◌}
use Rattle.std.proofs.lemmas.Bool.{and_from, and_parts, or_cases, or_left, or_right, eq-eqb, eqb-true}
use Rattle.outage_rules.specs.Network.{Network, IsSoundNetwork, nothing, is_live}
use Rattle.outage_rules.specs.Laws.{LiveIsAWalk}
use Rattle.outage_rules.specs.Loops.{would_loop, LoopIsAWalk}
use Rattle.grid_model.specs.declared.parts.NodeId.{NodeId}
use Rattle.grid_model.specs.declared.parts.DeviceId.{DeviceId}
use Rattle.radial_forest.specs.Forested.{root_in, HasRoots}
use Rattle.radial_forest.proofs.Alike.{same_test}

-- the ends of the device have one root
abbrev have_one_root : Network → List NodeId → ℕ → Bool
have_one_root net roots d = root_in roots (net.from d) == root_in roots (net.to d)

-- both ends are fed
abbrev are_fed : Network → ℕ → Bool
are_fed net d = is_live net nothing (net.from d) && is_live net nothing (net.to d)

module _ (net : Network) (parents : List (Option DeviceId)) (roots : List NodeId) (sound : IsSoundNetwork net) (has : HasRoots net parents roots) (live : LiveIsAWalk) (loop : LoopIsAWalk)
    (d : ℕ) (l : d < net.devices) where
  loop_by_roots : (have_one_root net roots d || are_fed net d) ≡ would_loop net d
  loop_by_roots =
      same_test (have_one_root net roots d || are_fed net d) (would_loop net d)
      (λ e. (loop net d sound l).1 (⊎_elim
      (λ a. inl ((has.same_root (net.from d) (net.to d) (sound.from d l) (sound.to d l)).0 (eqb-true (root_in roots (net.from d)) (root_in roots (net.to d)) a)))
      (λ a. let b = and_parts (is_live net nothing (net.from d)) (is_live net nothing (net.to d)) a in
      inr ((live net nothing (net.from d) sound (sound.from d l)).0 b.0, (live net nothing (net.to d) sound (sound.to d l)).0 b.1))
      (or_cases (have_one_root net roots d) (are_fed net d) e)))
      (λ e. ⊎_elim
      (λ p. or_left (have_one_root net roots d) (are_fed net d)
      (eq-eqb (root_in roots (net.from d)) (root_in roots (net.to d)) ((has.same_root (net.from d) (net.to d) (sound.from d l) (sound.to d l)).1 p)))
      (λ b. or_right (have_one_root net roots d) (are_fed net d) (and_from (is_live net nothing (net.from d)) (is_live net nothing (net.to d))
      ((live net nothing (net.from d) sound (sound.from d l)).1 b.0) ((live net nothing (net.to d) sound (sound.to d l)).1 b.1)))
      ((loop net d sound l).0 e))

  -- by the roots of the ends and three tests
  pub loop_by_tests : (f t a b : ℕ) (same from to : Bool) → f ≡ net.from d → t ≡ net.to d → a ≡ root_in roots f → b ≡ root_in roots t
      → same ≡ (a == b) → from ≡ is_live net nothing f → to ≡ is_live net nothing t → (same || (from && to)) ≡ would_loop net d
  loop_by_tests f t a b same from to is_f is_t is_a is_b s lf lt =
      ap (λ x. x || (from && to)) (s ∙ ap (λ x. x == b) (is_a ∙ ap (root_in roots) is_f) ∙ ap (λ x. root_in roots (net.from d) == x) (is_b ∙ ap (root_in roots) is_t))
      ∙ ap (λ x. have_one_root net roots d || (x && to)) (lf ∙ ap (is_live net nothing) is_f)
      ∙ ap (λ x. have_one_root net roots d || (is_live net nothing (net.from d) && x)) (lt ∙ ap (is_live net nothing) is_t) ∙ loop_by_roots
