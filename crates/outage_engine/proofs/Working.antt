-- The work of an event is that of its repairs, its walks and its flips.
use Rattle.std.proofs.Common.{◌≡◌, ℕ, ◌+◌, ◌<◌, ◌≤◌, not, List, ◌∷◌, length, cond, sym, ap, ◌∙◌, subst, arith}
use Rattle.std.proofs.Math.Path.{fun_ext}
use Rattle.outage_rules.specs.Network.{is_live}
use Rattle.outage_rules.proofs.Sums.{total_same}
use Rattle.grid_model.specs.Parts.{Parts}
use Rattle.grid_model.specs.Places.{devices_at}
use Rattle.grid_model.specs.Network.{network_in}
use Rattle.grid_model.specs.declared.history.Event.{Event}
use Rattle.radial_forest.specs.Forested.{Forested}
use Rattle.radial_forest.specs.Spreading.{switched}
use Rattle.subtree_costs.specs.Reach.{IsReach}
use Rattle.subtree_costs.specs.Walks.{walks_work}
use Rattle.history_rules.specs.State.{network_after}
use Rattle.history_rules.specs.Posed.{problem_after, diagnosis_after}
use Rattle.diagnosis.specs.Judgement.{Judgement, TellsDark, opened_by, is_dark_by, differ}
use Rattle.diagnosis.specs.Settling.{flips_work}
use Rattle.field_state.specs.Fielded.{Fielded, IsFieldAfter}
use Rattle.field_state.specs.Repairs.{AreReaches, repairs_work}
use Rattle.outage_engine.specs.Settled.{settle_work}
use Rattle.outage_engine.specs.Work.{AreReachesAfter, is_node_dark, flips_work_after, event_work}

-- the network of a field is that after its events
switched_is : (g : Parts) (h : List Event) (f : Fielded) → IsFieldAfter g h f → network_after g h ≡ switched g f.forest.closed
switched_is g h f after = sym (ap (network_in g) (fun_ext after.closed))

-- and so are the reaches of its nodes
pub reaches_are : (g : Parts) (h : List Event) (f : Fielded) (reach : ℕ → ℕ) → IsFieldAfter g h f → AreReachesAfter g h reach → AreReaches g f.forest.closed reach
reaches_are g h f reach after reaches n within = subst (λ net. IsReach net n (reach n)) (switched_is g h f after) (reaches n within)

-- a node is flagged dark where it is dark after the events
flag_is : (g : Parts) (h : List Event) (j : Judgement) → TellsDark (problem_after g h) j → opened_by j ≡ diagnosis_after g h
    → (n : ℕ) → n < length g.nodes → is_dark_by j n ≡ is_node_dark g h n
unfolding problem_after
flag_is g h j tells opened n within = tells n within ∙ ap (λ cut. not (is_live (network_after g h) cut n)) opened

-- the flips of the flags are those between the events
pub flips_are : (g : Parts) (h h' : List Event) (j j' : Judgement)
    → TellsDark (problem_after g h) j → opened_by j ≡ diagnosis_after g h → TellsDark (problem_after g h') j' → opened_by j' ≡ diagnosis_after g h'
    → flips_work g j.dark j'.dark ≡ flips_work_after g h h'
flips_are g h h' j j' tells opened tells' opened' =
    total_same (length g.nodes)
    (λ n. cond (differ (is_dark_by j n) (is_dark_by j' n)) (length (devices_at g n)) 0)
    (λ n. cond (differ (is_node_dark g h n) (is_node_dark g h' n)) (length (devices_at g n)) 0)
    (λ n within.
    ap (λ b. cond (differ b (is_dark_by j' n)) (length (devices_at g n)) 0) (flag_is g h j tells opened n within)
    ∙ ap (λ b. cond (differ (is_node_dark g h n) b) (length (devices_at g n)) 0) (flag_is g h' j' tells' opened' n within))

-- the repairs with the walks, and then the walks with the flips
sums_to : (walks walks' repairs flips flips' before applied after : ℕ) → walks' ≡ walks → walks + applied ≤ before + repairs → after ≤ applied + (walks' + flips) → flips ≡ flips'
    → after ≤ before + (repairs + flips')
sums_to walks walks' repairs flips flips' before applied after same repaired settled is = omega arith

-- what is applied and then settled takes no more than the work of the event
pub event_takes : (g : Parts) (h : List Event) (e : Event) (reach : ℕ → ℕ) (old : Forested) (f : Fielded) (j j' : Judgement) (before applied after : ℕ)
    → f.forest ≡ old
    → walks_work (switched g old.closed) old f.places + applied ≤ before + repairs_work g h e reach
    → after ≤ applied + settle_work g f j j'
    → flips_work g j.dark j'.dark ≡ flips_work_after g h (e ∷ h)
    → after ≤ before + event_work g h e reach
event_takes g h e reach old f j j' before applied after same repaired settled flips =
    sums_to (walks_work (switched g old.closed) old f.places) (walks_work (switched g f.forest.closed) f.forest f.places) (repairs_work g h e reach)
    (flips_work g j.dark j'.dark) (flips_work_after g h (e ∷ h)) before applied after
    (ap (λ (k : Forested). walks_work (switched g k.closed) k f.places) same) repaired settled flips
