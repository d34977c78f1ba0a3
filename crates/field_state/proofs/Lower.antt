-- The list of the nodes below a device has those that it feeds.
use Rattle.std.proofs.Common.{◌≡◌, ℕ, ◌<◌, ◌≤◌, Bool, true, false, refl, sym, ap, ◌∙◌, arith, List, length, take}
use Rattle.std.specs.Prelude.{◌==◌, ◌&&◌, ◌↔◌, not}
use Rattle.std.proofs.lemmas.Bool.{eqb-true, eq-eqb}
use Rattle.std.proofs.lemmas.List.{length-take-le, get_or-take}
use Rattle.grid_model.specs.declared.parts.NodeId.{NodeId}
use Rattle.radial_forest.specs.Traversed.{node_at}
use Rattle.radial_forest.specs.Lower.{IsAmong}
use Rattle.outage_rules.specs.Network.{Network, is_live, only}
use Rattle.history_rules.specs.State.{is_fed, is_below}
use Rattle.field_state.specs.Acted.{is_listed}
use Rattle.field_state.proofs.Standing.{passing_below, some_passes}

both : (listed fed : Bool) (lit : Bool) → (fed ≡ true → (listed ≡ true) ↔ (lit ≡ false)) → (listed && fed) ≡ (fed && not lit)
both true false lit h = refl
both false false lit h = refl
both true true false h = refl
both true true true h = absurd (let q = (h refl).0 refl in cc)
both false true true h = refl
both false true false h = absurd (let q = (h refl).1 refl in cc)

module _ (net : Network) (d n count : ℕ) (nodes into : List NodeId) (long : length nodes ≡ count)
    (same : (k : ℕ) → k < count → node_at nodes k ≡ node_at into k)
    (below : is_fed net n ≡ true → IsAmong n into count ↔ (is_live net (only d) n ≡ false)) where
  listed_among : is_listed nodes (length nodes) n ≡ true → IsAmong n into count
  listed_among e =
      let found = passing_below (length nodes) (λ i. node_at nodes i == n) e in
      let l : found.0 < count = let lf = found.1 in omega arith in
      (found.0, l, sym (same found.0 l) ∙ eqb-true (node_at nodes found.0) n found.2)

  among_listed : IsAmong n into count → is_listed nodes (length nodes) n ≡ true
  among_listed (k, l, e) =
      some_passes (length nodes) (λ i. node_at nodes i == n) k (omega arith) (eq-eqb (node_at nodes k) n (same k l ∙ e))

  pub listed_below : (is_listed nodes (length nodes) n && is_fed net n) ≡ is_below net d n
  listed_below =
      both (is_listed nodes (length nodes) n) (is_fed net n) (is_live net (only d) n)
      (λ fed. (λ e. (below fed).0 (listed_among e), λ e. among_listed ((below fed).1 e)))

-- the first nodes of a list, as a slice of it has them
pub front_long : (count : ℕ) (into : List NodeId) → count ≤ length into → length (take count into) ≡ count
front_long count into le = length-take-le count into le

pub front_same : (count : ℕ) (into : List NodeId) (k : ℕ) → k < count → node_at (take count into) k ≡ node_at into k
front_same count into k l = ap (λ n. n.0) (get_or-take count into k (record { 0 = 0 }) l)
