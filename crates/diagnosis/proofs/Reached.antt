-- Flags that agree everywhere: there are some, and flags that are settled have become them.
use Rattle.std.proofs.Common.{◌≡◌, ◌≢◌, ℕ, zero, suc, ◌+◌, ◌<◌, ◌≤◌, Bool, true, false, refl, sym, ap, ◌∙◌, subst, inl, inr, ⊎_elim, arith, add-one, below_more, List, length, set, replicate, Some, None}
use Rattle.std.specs.Prelude.{◌||◌, ◌⊎◌, not}
use Rattle.std.proofs.lemmas.Bool.{cases_Bool, cases_lt, false≢true}
use Rattle.std.proofs.lemmas.List.{get_or-replicate, get_or_past, length-replicate}
use Rattle.outage_rules.specs.Certificate.{other_end}
use Rattle.grid_model.specs.declared.parts.NodeId.{NodeId}
use Rattle.grid_model.specs.declared.parts.DeviceId.{DeviceId}
use Rattle.grid_model.specs.Parts.{Parts}
use Rattle.grid_model.specs.Places.{is_source, device_at}
use Rattle.grid_model.specs.Network.{network_of}
use Rattle.grid_model.specs.Problem.{mark_at}
use Rattle.radial_forest.specs.Traversed.{parent_in, node_at}
use Rattle.radial_forest.specs.Spreading.{switched}
use Rattle.subtree_costs.specs.Shares.{row_at}
use Rattle.subtree_costs.specs.Costed.{Costed, IsCosted}
use Rattle.diagnosis.specs.Judgement.{Agree, AgreeAt, flag_in, opens}
use Rattle.diagnosis.specs.Watched.{differ_at}
use Rattle.subtree_costs.specs.Walks.{IsOnWalks}
use Rattle.diagnosis.specs.Settling.{DisagreeOnWalks}
use Rattle.diagnosis.specs.Judging.{IsNext, Judging, Aim, IsUnderWay, IsRight}
use Rattle.diagnosis.proofs.Flagged.{AreFlagged, none_some, same_some, either_parent, agree_still, flagged_none, flagged_next, flagged_all}
use Rattle.diagnosis.proofs.Climbing.{above_within}
use Rattle.diagnosis.proofs.Watching.{same_flags, no_difference}

none_set : (n k : ℕ) → flag_in (replicate n false) k ≡ false
none_set n k = ⊎_elim (λ l. get_or-replicate n k false false l) (λ l. get_or_past (replicate n false) k false (let e = length-replicate n false in omega arith)) (cases_lt k n)

-- one node after the other can be flagged
module _ (g : Parts) (c : Costed) (n : ℕ) (o d : List Bool) where
  abbrev CanGoOn : Type 0
  CanGoOn = (o' : List Bool) × (d' : List Bool) × IsNext g c n o d o' d'

  next_at_top : parent_in c.forest.parents n ≡ None → CanGoOn
  next_at_top e = (
    o,
    set d n (not (is_source g n)),
    record {
      top = λ t. (refl, refl);
      opened = λ x s. absurd (none_some (parent_in c.forest.parents n) x e s);
      dark = λ x s. absurd (none_some (parent_in c.forest.parents n) x e s);
    },
  )

  module _ (x : DeviceId) (e : parent_in c.forest.parents n ≡ Some x) where
    opened_next : DeviceId → List Bool
    opened_next y = set o y.0 (opens (mark_at c.marks y.0) (flag_in d (other_end (network_of g) y.0 n)) ((device_at g y.0).weight + (row_at c.rows n).dark) (row_at c.rows n).live)

    dark_next : DeviceId → List Bool
    dark_next y = set d n (flag_in d (other_end (network_of g) y.0 n) || flag_in (opened_next x) y.0)

    next_at_device : CanGoOn
    unfolding opened_next dark_next
    next_at_device = (
      opened_next x,
      dark_next x,
      record {
        top = λ t. absurd (none_some (parent_in c.forest.parents n) x t e);
        opened = λ y s. ap opened_next (same_some x y (sym e ∙ s));
        dark = λ y s. ap dark_next (same_some x y (sym e ∙ s));
      },
    )

  can_go_on : CanGoOn
  can_go_on = ⊎_elim next_at_top (λ x. next_at_device x.0 x.1) (either_parent (parent_in c.forest.parents n))

module _ (g : Parts) (c : Costed) (costed : IsCosted g c) where
  flagged_so_far : (k : ℕ) → k ≤ length c.order → (o : List Bool) × (d : List Bool) × AreFlagged g c k o d
  flagged_so_far zero le = (
    replicate (length g.devices) false,
    replicate (length g.nodes) false,
    flagged_none g c costed (replicate (length g.devices) false) (replicate (length g.nodes) false) (length-replicate (length g.devices) false) (length-replicate (length g.nodes) false) (none_set (length g.devices)),
  )
  flagged_so_far (suc k) le =
      let b = flagged_so_far k (omega arith) in
      let s = can_go_on g c (node_at c.order k) b.0 b.1 in
      (s.0, s.1, subst (λ x. AreFlagged g c x s.0 s.1) (add-one k) (flagged_next g c costed k (omega arith) b.0 b.1 s.0 s.1 b.2 s.2))

  -- some flags agree everywhere
  pub some_agree : (o : List Bool) × (d : List Bool) × Agree g c (flag_in o) (flag_in d)
  some_agree = let a = flagged_so_far (length c.order) (omega arith) in (a.0, a.1, flagged_all g c costed a.0 a.1 a.2)

  -- at the start nothing has flipped
  pub starts : (w : Aim) (turned : List NodeId) → Agree g c w.cut w.goal → length w.opened ≡ length g.devices → length w.dark ≡ length g.nodes
      → IsUnderWay g c w (record { opened = w.opened; dark = w.dark; turned = turned; count = 0 })
  starts w turned agree opened_each dark_each = record {
    agree = agree;
    start_each = dark_each;
    opened_each = opened_each;
    dark_each = dark_each;
    opened = λ x. inl refl;
    dark = λ n. inl refl;
    turned = record {
      each = λ i l. absurd (omega arith);
      all = λ k t. absurd (false≢true (sym (no_difference (flag_in w.dark k)) ∙ t));
      once = λ i j l lj e. absurd (omega arith);
    };
  }

  same_or : (a b : Bool) → (a ≡ b) ⊎ (a ≢ b)
  same_or true true = inl refl
  same_or true false = inr (λ e. false≢true (sym e))
  same_or false true = inr (λ e. false≢true e)
  same_or false false = inl refl

  -- flags agree at a node or not
  agree_or : (cut dark : ℕ → Bool) (n : ℕ) → AgreeAt g c cut dark n ⊎ (AgreeAt g c cut dark n → ⊥)
  agree_or cut dark n =
      ⊎_elim
      (λ e. ⊎_elim
      (λ s. inl (record {
        top = λ t. s;
        opened = λ x i. absurd (none_some (parent_in c.forest.parents n) x e i);
        below = λ x i. absurd (none_some (parent_in c.forest.parents n) x e i);
      }))
      (λ s. inr (λ a. s (a.top e)))
      (same_or (dark n) (not (is_source g n))))
      (λ x. ⊎_elim
      (λ s. ⊎_elim
      (λ t. inl (record {
        top = λ e. absurd (none_some (parent_in c.forest.parents n) x.0 e x.1);
        opened = λ y i. subst (λ (z : DeviceId). cut z.0 ≡ opens (mark_at c.marks z.0) (dark (other_end (network_of g) z.0 n)) ((device_at g z.0).weight + (row_at c.rows n).dark) (row_at c.rows n).live) (same_some x.0 y (sym x.1 ∙ i)) s;
        below = λ y i. subst (λ (z : DeviceId). dark n ≡ (dark (other_end (network_of g) z.0 n) || cut z.0)) (same_some x.0 y (sym x.1 ∙ i)) t;
      }))
      (λ t. inr (λ a. t (a.below x.0 x.1)))
      (same_or (dark n) (dark (other_end (network_of g) x.0.0 n) || cut x.0.0)))
      (λ s. inr (λ a. s (a.opened x.0 x.1)))
      (same_or (cut x.0.0) (opens (mark_at c.marks x.0.0) (dark (other_end (network_of g) x.0.0 n)) ((device_at g x.0.0).weight + (row_at c.rows n).dark) (row_at c.rows n).live)))
      (either_parent (parent_in c.forest.parents n))

  -- a node at which the flags don't agree lies on a walk
  pub disagree_at : (cut dark : ℕ → Bool) (places : List NodeId) → DisagreeOnWalks g c cut dark places → (n : ℕ) → n < length g.nodes → (AgreeAt g c cut dark n → ⊥)
      → IsOnWalks (switched g c.forest.closed) c.forest places n
  disagree_at cut dark places d n l differs =
      ⊎_elim
      (λ e. d.roots n l e (λ a. differs (record {
        top = λ t. a;
        opened = λ x i. absurd (none_some (parent_in c.forest.parents n) x e i);
        below = λ x i. absurd (none_some (parent_in c.forest.parents n) x e i);
      })))
      (λ x. d.devices x.0 n l x.1 (λ a. differs (record {
        top = λ e. absurd (none_some (parent_in c.forest.parents n) x.0 e x.1);
        opened = λ y i. subst (λ (z : DeviceId). cut z.0 ≡ opens (mark_at c.marks z.0) (dark (other_end (network_of g) z.0 n)) ((device_at g z.0).weight + (row_at c.rows n).dark) (row_at c.rows n).live) (same_some x.0 y (sym x.1 ∙ i)) a.opened;
        below = λ y i. subst (λ (z : DeviceId). dark n ≡ (dark (other_end (network_of g) z.0 n) || cut z.0)) (same_some x.0 y (sym x.1 ∙ i)) a.below;
      })))
      (either_parent (parent_in c.forest.parents n))

  module _ (w : Aim) (s : Judging) (on : IsUnderWay g c w s)
      (elsewhere : (n : ℕ) → n < length g.nodes → (AgreeAt g c (flag_in w.opened) (flag_in w.dark) n → ⊥) → IsRight c w s n)
      (below : (u : ℕ) → differ_at w.dark s.dark u ≡ true → (m : ℕ) (x : DeviceId) → m < length g.nodes → parent_in c.forest.parents m ≡ Some x → other_end (network_of g) x.0 m ≡ u → IsRight c w s m) where
    -- a root that agreed at the start
    right_top : (n : ℕ) → n < length g.nodes → parent_in c.forest.parents n ≡ None → AgreeAt g c (flag_in w.opened) (flag_in w.dark) n → IsRight c w s n
    right_top n l e a = record {
      dark = ⊎_elim (λ i. i ∙ a.top e ∙ sym ((on.agree.at n l).top e)) (λ i. i) (on.dark n);
      opened = λ x i. absurd (none_some (parent_in c.forest.parents n) x e i);
    }

    -- a node that agreed at the start, below one that didn't flip
    right_hung : (n : ℕ) (x : DeviceId) → n < length g.nodes → parent_in c.forest.parents n ≡ Some x → AgreeAt g c (flag_in w.opened) (flag_in w.dark) n
        → flag_in w.dark (other_end (network_of g) x.0 n) ≡ w.goal (other_end (network_of g) x.0 n) → IsRight c w s n
    right_hung n x l e a same =
        let at = on.agree.at n l in
        let device : flag_in w.opened x.0 ≡ w.cut x.0 =
        a.opened x e
        ∙ ap (λ b. opens (mark_at c.marks x.0) b ((device_at g x.0).weight + (row_at c.rows n).dark) (row_at c.rows n).live) same
        ∙ sym (at.opened x e) in
        let node : flag_in w.dark n ≡ w.goal n =
        a.below x e
        ∙ ap (λ b. b || flag_in w.opened x.0) same
        ∙ ap (λ b. w.goal (other_end (network_of g) x.0 n) || b) device
        ∙ sym (at.below x e) in
        record {
          dark = ⊎_elim (λ i. i ∙ node) (λ i. i) (on.dark n);
          opened = λ y i. subst (λ (z : DeviceId). flag_in s.opened z.0 ≡ w.cut z.0) (same_some x y (sym e ∙ i)) (⊎_elim (λ j. j ∙ device) (λ j. j) (on.opened x.0));
        }

    right_at : (k : ℕ) → k < length c.order → ((j : ℕ) → j < k → IsRight c w s (node_at c.order j)) → IsRight c w s (node_at c.order k)
    right_at k l before =
        let n = node_at c.order k in
        let ln = costed.order.within k l in
        ⊎_elim
        (λ a. ⊎_elim
        (λ e. right_top n ln e a)
        (λ x.
        let u = other_end (network_of g) x.0.0 n in
        let b = costed.order.behind k x.0 l x.1 in
        let up : flag_in s.dark u ≡ w.goal u = subst (λ v. flag_in s.dark v ≡ w.goal v) b.2 (before b.0 b.1).dark in
        ⊎_elim
        (λ t. below u t n x.0 ln x.1 refl)
        (λ f. right_hung n x.0 ln x.1 a (same_flags (flag_in w.dark u) (flag_in s.dark u) f ∙ up))
        (cases_Bool (differ_at w.dark s.dark u)))
        (either_parent (parent_in c.forest.parents n)))
        (λ no. elsewhere n ln no)
        (agree_or (flag_in w.opened) (flag_in w.dark) n)

    right_below : (k : ℕ) → k ≤ length c.order → (j : ℕ) → j < k → IsRight c w s (node_at c.order j)
    right_below zero le j l = absurd (omega arith)
    right_below (suc k) le j l = below_more (λ j. IsRight c w s (node_at c.order j)) k (right_below k (omega arith)) (right_at k (omega arith) (right_below k (omega arith))) j (omega arith)

    all_right : (n : ℕ) → n < length g.nodes → IsRight c w s n
    all_right n l = let a = costed.order.all n l in subst (IsRight c w s) a.2 (right_below (length c.order) (omega arith) a.0 a.1)

    -- so the flags agree everywhere
    pub settled : ((d : ℕ) → d < length g.devices → flag_in c.forest.closed d ≡ false → flag_in w.opened d ≡ false) → Agree g c (flag_in s.opened) (flag_in s.dark)
    settled open_ones = record {
      at = λ n l.
          let r = all_right n l in
          agree_still g c w.cut (flag_in s.opened) w.goal (flag_in s.dark) n (on.agree.at n l) r.dark
          (λ x e. (r.opened x e, (all_right (other_end (network_of g) x.0 n) (above_within g c costed n l x e)).dark));
      open_ones = λ d l o. ⊎_elim (λ e. e ∙ open_ones d l o) (λ e. e ∙ on.agree.open_ones d l o) (on.opened d);
    }
