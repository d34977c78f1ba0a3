-- Nodes of walks are judged, each after the node from which it hangs.
use Rattle.std.proofs.Common.{◌≡◌, ℕ, ◌+◌, ◌<◌, sym, subst, ⊎_elim, arith, List, length, Some}
use Rattle.std.proofs.lemmas.Bool.{cases_eq}
use Rattle.outage_rules.specs.Certificate.{other_end}
use Rattle.grid_model.specs.declared.parts.NodeId.{NodeId}
use Rattle.grid_model.specs.declared.parts.DeviceId.{DeviceId}
use Rattle.grid_model.specs.Parts.{Parts}
use Rattle.grid_model.specs.Network.{network_of}
use Rattle.radial_forest.specs.Traversed.{parent_in, node_at}
use Rattle.subtree_costs.specs.Costed.{Costed, IsCosted}
use Rattle.diagnosis.specs.Judgement.{flag_in}
use Rattle.diagnosis.specs.Judging.{Judging, Aim, IsJudgedOn, IsUnderWay, IsRight, IsWalkUp, Leads}
use Rattle.diagnosis.proofs.Flagged.{none_some}
use Rattle.diagnosis.proofs.Climbing.{hung_within}
use Rattle.diagnosis.proofs.Turning.{few_turned, judged_leads, judged_right}

-- there is room for one more node in a list of one place more than there are nodes
pub room_for_one : (g : Parts) (c : Costed) (w : Aim) (a s : Judging) → Leads g c w a s → length a.turned ≡ length g.nodes + 1 → s.count < length s.turned
room_for_one g c w a s f all = let few = few_turned g c w s f.on in let same = f.room in omega arith

module _ (g : Parts) (c : Costed) (costed : IsCosted g c) (w : Aim) (s s' : Judging) where
  -- a node is judged where the node above it is right
  module _ (n : ℕ) (on : IsUnderWay g c w s) (ln : n < length g.nodes) (room : s.count < length s.turned) (judged : IsJudgedOn g c n s s')
      (above : (x : DeviceId) → parent_in c.forest.parents n ≡ Some x → flag_in s.dark (other_end (network_of g) x.0 n) ≡ w.goal (other_end (network_of g) x.0 n)) where
    pub step_leads : Leads g c w s s'
    step_leads = judged_leads g c n s s' ln room judged (λ x e. hung_within g c costed n ln x e) w on above

    pub step_right : IsRight c w s' n
    step_right = judged_right g c n s s' ln room judged (λ x e. hung_within g c costed n ln x e) w on above

  -- the node above one of a walk is right, where the later ones are
  pub walk_above : (walk : List NodeId) → IsWalkUp g c walk → (j : ℕ) → j < length walk → ((i : ℕ) → j < i → i < length walk → IsRight c w s (node_at walk i))
      → (x : DeviceId) → parent_in c.forest.parents (node_at walk j) ≡ Some x → flag_in s.dark (other_end (network_of g) x.0 (node_at walk j)) ≡ w.goal (other_end (network_of g) x.0 (node_at walk j))
  walk_above walk up j l right x e =
      ⊎_elim
      (λ end. absurd (none_some (parent_in c.forest.parents (node_at walk j)) x (up.top j end) e))
      (λ more. let lj : j + 1 < length walk = omega arith in
      subst (λ v. flag_in s.dark v ≡ w.goal v) (sym (up.up j x lj e)) (right (j + 1) (omega arith) lj).dark)
      (cases_eq (j + 1) (length walk))
