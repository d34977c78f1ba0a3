-- Notes of the last opened devices, from the first node of an order to the last.
use Rattle.std.proofs.Common.{◌≡◌, ℕ, zero, suc, ◌+◌, ◌<◌, Bool, true, false, cond, refl, sym, ap, ◌∙◌, subst, ⊎_elim, inl, inr, arith, below_more, List, length, set, Option, Some, None, length-set}
use Rattle.std.specs.Prelude.{option_map, is_some, IfSome, ◌&&◌, not, ◌⊎◌}
use Rattle.std.proofs.lemmas.Bool.{cases_Bool, and_from}
use Rattle.std.proofs.lemmas.List.{get_or-set_same, get_or-set_other}
use Rattle.outage_rules.specs.Network.{Network, Cut, nothing, is_live}
use Rattle.outage_rules.specs.Certificate.{Table, has_parent, upper, other_end}
use Rattle.grid_model.specs.Parts.{Parts}
use Rattle.grid_model.specs.Places.{device_id, is_source}
use Rattle.grid_model.specs.Network.{network_of}
use Rattle.grid_model.specs.declared.parts.DeviceId.{DeviceId}
use Rattle.radial_forest.specs.Traversed.{parent_in, node_at, number_of_device}
use Rattle.radial_forest.specs.Spreading.{switched}
use Rattle.subtree_costs.specs.Costed.{Costed, IsCosted}
use Rattle.subtree_costs.specs.Laws.{fed_rows, AreFedRows}
use Rattle.diagnosis.specs.Judgement.{Judgement, opened_by}
use Rattle.nested_faults.specs.LastCuts.{last_above, last_opened, noted_at, noted_below, fed_parent, AreLastCuts}

-- the nodes below place k of the order are noted
pub record AreNoted (g : Parts) (c : Costed) (j : Judgement) (k : ℕ) (last : List (Option DeviceId)) : Type 0 where
  pub each : length last ≡ length g.nodes
  pub noted : (i : ℕ) → i < k → noted_at last (node_at c.order i) ≡ option_map device_id (last_opened g c j (node_at c.order i))

-- no device is above a node without a parent
pub nothing_above : (g : Network) (t : Table) (cut : Cut) (k n : ℕ) → has_parent g t n ≡ false → last_above g t cut k n ≡ None
nothing_above g t cut zero n e = refl
nothing_above g t cut (suc k) n e = ap (λ b. cond b (cond (cut (t.parent n)) (Some (t.parent n)) (last_above g t cut k (upper g t n))) None) e

-- the last device above a node with a parent
pub last_below : (g : Network) (t : Table) (cut : Cut) (n : ℕ) → has_parent g t n ≡ true → t.depth n ≡ suc (t.depth (upper g t n))
    → last_above g t cut (t.depth n) n ≡ cond (cut (t.parent n)) (Some (t.parent n)) (last_above g t cut (t.depth (upper g t n)) (upper g t n))
last_below g t cut n hp deeper =
    ap (λ k. last_above g t cut k n) deeper
    ∙ ap (λ b. cond b (cond (cut (t.parent n)) (Some (t.parent n)) (last_above g t cut (t.depth (upper g t n)) (upper g t n))) None) hp

chosen : (b : Bool) (d : DeviceId) (x : Option DeviceId) (y : Option ℕ) → x ≡ option_map device_id y → cond b (Some d) x ≡ option_map device_id (cond b (Some d.0) y)
chosen true d x y e = refl
chosen false d x y e = e

either_parent : (o : Option DeviceId) → (o ≡ None) ⊎ ((d : DeviceId) × (o ≡ Some d))
either_parent None = inl refl
either_parent (Some d) = inr (d, refl)

module _ (g : Parts) (c : Costed) (j : Judgement) (costed : IsCosted g c) (fed : AreFedRows g c) where
  module _ (k : ℕ) (l : k < length c.order) (last : List (Option DeviceId)) (before : AreNoted g c j k last) where
    abbrev here : ℕ
    here = node_at c.order k

    within : here < length g.nodes
    within = costed.order.within k l

    -- nothing is above
    none_above : fed_parent g c here ≡ None → has_parent (network_of g) (fed_rows g c) here ≡ false → noted_below g j last here (fed_parent g c here) ≡ option_map device_id (last_opened g c j here)
    none_above e hp =
        ap (noted_below g j last here) e
        ∙ sym (ap (option_map device_id) (nothing_above (network_of g) (fed_rows g c) (opened_by j) ((fed_rows g c).depth here) here hp))

    -- a device is
    some_above : (d : DeviceId) → is_live (switched g c.forest.closed) nothing here ≡ true → parent_in c.forest.parents here ≡ Some d
        → noted_below g j last here (fed_parent g c here) ≡ option_map device_id (last_opened g c j here)
    some_above d live e =
        let hp : has_parent (network_of g) (fed_rows g c) here ≡ true = and_from (is_live (switched g c.forest.closed) nothing here) (not (is_source g here)) live (sym (fed.parents here within live) ∙ ap is_some e) in
        let h = fed.forest.parent here within hp in
        let a = costed.order.behind k d l e in
        let above = ap (noted_at last) (sym a.2) ∙ before.noted a.0 a.1 ∙ ap (λ n. option_map device_id (last_opened g c j n)) a.2 in
        let up = ap (λ x. other_end (network_of g) x here) (sym (ap number_of_device e)) in
        ap (noted_below g j last here) (ap (λ b. cond b (parent_in c.forest.parents here) None) live ∙ e)
        ∙ ap (λ n. cond (opened_by j d.0) (Some d) (noted_at last n)) up
        ∙ chosen (opened_by j d.0) d (noted_at last (upper (network_of g) (fed_rows g c) here)) (last_opened g c j (upper (network_of g) (fed_rows g c) here))
        (ap (noted_at last) (sym up) ∙ above ∙ ap (λ n. option_map device_id (last_opened g c j n)) up)
        ∙ ap (λ x. option_map device_id (cond (opened_by j x) (Some x) (last_opened g c j (upper (network_of g) (fed_rows g c) here)))) (sym (ap number_of_device e))
        ∙ sym (ap (option_map device_id) (last_below (network_of g) (fed_rows g c) (opened_by j) here hp h.deeper))

    noted_here : noted_below g j last here (fed_parent g c here) ≡ option_map device_id (last_opened g c j here)
    noted_here =
        ⊎_elim
        (λ live. ⊎_elim
        (λ none. none_above (ap (λ b. cond b (parent_in c.forest.parents here) None) live ∙ none)
        (ap (λ b. b && not (is_source g here)) live ∙ sym (fed.parents here within live) ∙ ap is_some none))
        (λ s. some_above s.0 live s.1)
        (either_parent (parent_in c.forest.parents here)))
        (λ dead. none_above (ap (λ b. cond b (parent_in c.forest.parents here) None) dead) (ap (λ b. b && not (is_source g here)) dead))
        (cases_Bool (is_live (switched g c.forest.closed) nothing here))

    pub noted_more : (x : Option DeviceId) → x ≡ noted_below g j last here (fed_parent g c here) → AreNoted g c j (k + 1) (set last here x)
    noted_more x is = record {
      each = length-set last here x ∙ before.each;
      noted = below_more _ _
          (λ i li. get_or-set_other last here (node_at c.order i) x None (costed.order.once i k li l) ∙ before.noted i li)
          (get_or-set_same last here x None (let a = before.each in let b = within in omega arith) ∙ is ∙ noted_here);
    }

  pub noted_none : (last : List (Option DeviceId)) → length last ≡ length g.nodes → AreNoted g c j 0 last
  noted_none last each = record { each = each; noted = λ i l. absurd (omega arith) }

  pub noted_all : (last : List (Option DeviceId)) → AreNoted g c j (length c.order) last → AreLastCuts g c j last
  noted_all last all = record {
    each = all.each;
    noted = λ n l. let a = costed.order.all n l in subst (λ x. noted_at last x ≡ option_map device_id (last_opened g c j x)) a.2 (all.noted a.0 a.1);
  }

-- the device from which a fed node hangs is one of the network
pub parent_within : (g : Parts) (c : Costed) (n : ℕ) → IsCosted g c → n < length g.nodes → (fed : Bool) (o : Option DeviceId) → o ≡ cond fed (parent_in c.forest.parents n) None
    → IfSome o (λ d. d.0 < length g.devices)
parent_within g c n costed l fed None e = tt
parent_within g c n costed l true (Some d) e = (costed.posed.forest.rooted.parent n d l (sym e)).within
parent_within g c n costed l false (Some d) e = absurd (some_none d e)
  where
    some_none : (d : DeviceId) → ◌≡◌ {A = Option DeviceId} (Some d) None → ⊥
    some_none d e = cc
