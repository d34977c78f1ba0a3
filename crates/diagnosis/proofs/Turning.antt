-- A node is judged on the way to flags that agree everywhere: what is reached stays, and each node flips once.
use Rattle.std.proofs.Common.{◌≡◌, ◌≢◌, ℕ, ◌+◌, ◌<◌, ◌≤◌, Bool, true, false, cond, refl, sym, ap, ◌∙◌, subst, inl, inr, ⊎_elim, arith, below_more, List, length, set, Some}
use Rattle.std.specs.Prelude.{◌||◌, ◌⊎◌}
use Rattle.std.proofs.lemmas.Bool.{cases_Bool, cases_eq, false≢true}
use Rattle.std.proofs.lemmas.List.{get_or-set_same, get_or-set_other, length-set}
use Rattle.outage_rules.specs.Certificate.{other_end}
use Rattle.grid_model.specs.declared.parts.DeviceId.{DeviceId}
use Rattle.grid_model.specs.Parts.{Parts}
use Rattle.grid_model.specs.Places.{device_at}
use Rattle.grid_model.specs.Network.{network_of}
use Rattle.grid_model.specs.Problem.{mark_at}
use Rattle.radial_forest.specs.Traversed.{parent_in, node_at}
use Rattle.radial_forest.proofs.Fitting.{at_most}
use Rattle.subtree_costs.specs.Shares.{row_at}
use Rattle.subtree_costs.specs.Costed.{Costed}
use Rattle.diagnosis.specs.Judgement.{AgreeAt, flag_in, differ, opens}
use Rattle.diagnosis.specs.Watched.{differ_at, AreDifferences}
use Rattle.diagnosis.specs.Judging.{IsNext, Judging, IsJudgedOn, Aim, IsUnderWay, IsRight, Leads}
use Rattle.diagnosis.proofs.Flagged.{either_parent}
use Rattle.diagnosis.proofs.Watching.{same_flags, no_difference, differs_within}

-- one more number differs, and stands behind the others
pub differences_more : (before now now' : List Bool) (k count : ℕ) (number number' : ℕ → ℕ) → AreDifferences before now count number
    → differ_at before now k ≡ false → differ_at before now' k ≡ true → ((m : ℕ) → m ≢ k → flag_in now' m ≡ flag_in now m)
    → number' count ≡ k → ((i : ℕ) → i < count → number' i ≡ number i) → AreDifferences before now' (count + 1) number'
differences_more before now now' k count number number' d was is other last rest = record {
  each = below_more (λ i. differ_at before now' (number' i) ≡ true) count
      (λ i l. ap (differ_at before now') (rest i l) ∙ ap (differ (flag_in before (number i))) (other (number i) (apart i l)) ∙ d.each i l)
      (ap (differ_at before now') last ∙ is);
  all = λ m t. ⊎_elim
      (λ e. (count, omega arith, last ∙ sym e))
      (λ ne. let a = d.all m (sym (ap (differ (flag_in before m)) (other m ne)) ∙ t) in let la = a.1 in (a.0, omega arith, rest a.0 la ∙ a.2))
      (cases_eq m k);
  once = λ i j l lj. below_more (λ j. i < j → number' i ≢ number' j) count
      (λ j lj l e. d.once i j l lj (sym (rest i (omega arith)) ∙ e ∙ rest j lj))
      (λ l e. apart i l (sym (rest i l) ∙ e ∙ last))
      j lj l;
}
  where
    apart : (i : ℕ) → i < count → number i ≢ k
    apart i l e = false≢true (sym was ∙ ap (differ_at before now) (sym e) ∙ d.each i l)

-- none differs where nothing is written
pub differences_same : (before now now' : List Bool) (count : ℕ) (number number' : ℕ → ℕ) → AreDifferences before now count number
    → ((m : ℕ) → flag_in now' m ≡ flag_in now m) → ((i : ℕ) → number' i ≡ number i) → AreDifferences before now' count number'
differences_same before now now' count number number' d same rest = record {
  each = λ i l. ap (differ_at before now') (rest i) ∙ ap (differ (flag_in before (number i))) (same (number i)) ∙ d.each i l;
  all = λ m t. let a = d.all m (sym (ap (differ (flag_in before m)) (same m)) ∙ t) in (a.0, a.1, rest a.0 ∙ a.2);
  once = λ i j l lj e. d.once i j l lj (sym (rest i) ∙ e ∙ rest j);
}

-- no more nodes flip than there are
pub few_turned : (g : Parts) (c : Costed) (w : Aim) (s : Judging) → IsUnderWay g c w s → s.count ≤ length g.nodes
few_turned g c w s on =
    at_most (node_at s.turned) s.count (length g.nodes)
    (λ k l. subst (λ x. node_at s.turned k < x) on.dark_each (differs_within w.dark s.dark (node_at s.turned k) (on.start_each ∙ sym on.dark_each) (on.turned.each k l)))
    on.turned.once

-- a listed node is one of the network, and its flag is right
module _ (g : Parts) (c : Costed) (w : Aim) (s : Judging) (on : IsUnderWay g c w s) (k : ℕ) (l : k < s.count) where
  pub turned_within : node_at s.turned k < length g.nodes
  turned_within = subst (λ x. node_at s.turned k < x) on.dark_each (differs_within w.dark s.dark (node_at s.turned k) (on.start_each ∙ sym on.dark_each) (on.turned.each k l))

  pub turned_right : flag_in s.dark (node_at s.turned k) ≡ w.goal (node_at s.turned k)
  turned_right =
      ⊎_elim
      (λ e. absurd (false≢true (sym (ap (differ (flag_in w.dark (node_at s.turned k))) e ∙ no_difference (flag_in w.dark (node_at s.turned k))) ∙ on.turned.each k l)))
      (λ e. e)
      (on.dark (node_at s.turned k))

-- nothing is done
pub leads_none : (g : Parts) (c : Costed) (w : Aim) (s : Judging) → IsUnderWay g c w s → Leads g c w s s
leads_none g c w s on = record { on = on; opened = λ x e. e; dark = λ n e. e; longer = omega arith; places = λ k l. refl; room = refl }

-- one thing after the other
pub leads_on : (g : Parts) (c : Costed) (w : Aim) (a b d : Judging) → Leads g c w a b → Leads g c w b d → Leads g c w a d
leads_on g c w a b d f s = record {
  on = s.on;
  opened = λ x e. s.opened x (f.opened x e);
  dark = λ n e. s.dark n (f.dark n e);
  longer = (let x = f.longer in let y = s.longer in omega arith);
  places = λ k l. s.places k (let x = f.longer in omega arith) ∙ f.places k l;
  room = s.room ∙ f.room;
}

-- what is right stays so
pub right_still : (g : Parts) (c : Costed) (w : Aim) (a b : Judging) (n : ℕ) → Leads g c w a b → IsRight c w a n → IsRight c w b n
right_still g c w a b n f r = record { dark = f.dark n r.dark; opened = λ x e. f.opened x.0 (r.opened x e) }

module _ (g : Parts) (c : Costed) (n : ℕ) (s s' : Judging) (ln : n < length g.nodes) (room : s.count < length s.turned) (judged : IsJudgedOn g c n s s')
    (within : (x : DeviceId) → parent_in c.forest.parents n ≡ Some x → x.0 < length g.devices) where
  module _ (w : Aim) (on : IsUnderWay g c w s)
      (above : (x : DeviceId) → parent_in c.forest.parents n ≡ Some x → flag_in s.dark (other_end (network_of g) x.0 n) ≡ w.goal (other_end (network_of g) x.0 n)) where
    abbrev next : IsNext g c n s.opened s.dark s'.opened s'.dark
    next = judged.next

    agree : AgreeAt g c w.cut w.goal n
    agree = on.agree.at n ln

    -- the device
    opened_now : (x : DeviceId) → parent_in c.forest.parents n ≡ Some x → flag_in s'.opened x.0 ≡ w.cut x.0
    opened_now x e =
        ap (λ xs. flag_in xs x.0) (next.opened x e)
        ∙ get_or-set_same s.opened x.0 _ false (let a = within x e in let b = on.opened_each in omega arith)
        ∙ ap (λ b. opens (mark_at c.marks x.0) b ((device_at g x.0).weight + (row_at c.rows n).dark) (row_at c.rows n).live) (above x e)
        ∙ sym (agree.opened x e)

    -- the node
    dark_now : flag_in s'.dark n ≡ w.goal n
    dark_now =
        ⊎_elim
        (λ e. ap (λ xs. flag_in xs n) (next.top e).1 ∙ get_or-set_same s.dark n _ false l ∙ sym (agree.top e))
        (λ x. ap (λ xs. flag_in xs n) (next.dark x.0 x.1) ∙ get_or-set_same s.dark n _ false l
        ∙ ap (λ b. b || flag_in s'.opened x.0.0) (above x.0 x.1)
        ∙ ap (λ b. w.goal (other_end (network_of g) x.0.0 n) || b) (opened_now x.0 x.1)
        ∙ sym (agree.below x.0 x.1))
        (either_parent (parent_in c.forest.parents n))
      where
        l : n < length s.dark
        l = let b = on.dark_each in omega arith

    pub judged_right : IsRight c w s' n
    judged_right = record { dark = dark_now; opened = opened_now }

    -- all others stay
    dark_other : (m : ℕ) → m ≢ n → flag_in s'.dark m ≡ flag_in s.dark m
    dark_other m ne =
        ⊎_elim
        (λ e. ap (λ xs. flag_in xs m) (next.top e).1 ∙ get_or-set_other s.dark n m _ false ne)
        (λ x. ap (λ xs. flag_in xs m) (next.dark x.0 x.1) ∙ get_or-set_other s.dark n m _ false ne)
        (either_parent (parent_in c.forest.parents n))

    -- each device is as before, or as it is to be
    opened_kept : (x : ℕ) → (flag_in s'.opened x ≡ flag_in s.opened x) ⊎ (flag_in s'.opened x ≡ w.cut x)
    opened_kept x =
        ⊎_elim
        (λ e. inl (ap (λ xs. flag_in xs x) (next.top e).0))
        (λ y. ⊎_elim
        (λ e. inr (subst (λ k. flag_in s'.opened k ≡ w.cut k) (sym e) (opened_now y.0 y.1)))
        (λ ne. inl (ap (λ xs. flag_in xs x) (next.opened y.0 y.1) ∙ get_or-set_other s.opened y.0.0 x _ false ne))
        (cases_eq x y.0.0))
        (either_parent (parent_in c.forest.parents n))

    dark_kept : (m : ℕ) → (flag_in s'.dark m ≡ flag_in s.dark m) ⊎ (flag_in s'.dark m ≡ w.goal m)
    dark_kept m = ⊎_elim (λ e. inr (subst (λ k. flag_in s'.dark k ≡ w.goal k) (sym e) dark_now)) (λ ne. inl (dark_other m ne)) (cases_eq m n)

    opened_each : length s'.opened ≡ length g.devices
    opened_each =
        ⊎_elim
        (λ e. ap length (next.top e).0 ∙ on.opened_each)
        (λ x. ap length (next.opened x.0 x.1) ∙ length-set s.opened x.0.0 _ ∙ on.opened_each)
        (either_parent (parent_in c.forest.parents n))

    dark_each : length s'.dark ≡ length g.nodes
    dark_each =
        ⊎_elim
        (λ e. ap length (next.top e).1 ∙ length-set s.dark n _ ∙ on.dark_each)
        (λ x. ap length (next.dark x.0 x.1) ∙ length-set s.dark n _ ∙ on.dark_each)
        (either_parent (parent_in c.forest.parents n))

    turned_now : AreDifferences w.dark s'.dark s'.count (node_at s'.turned)
    turned_now =
        ⊎_elim
        (λ t.
        let start : flag_in s.dark n ≡ flag_in w.dark n = ⊎_elim
        (λ e. e)
        (λ e. absurd (false≢true (sym (ap (differ (flag_in s.dark n)) (dark_now ∙ sym e) ∙ no_difference (flag_in s.dark n)) ∙ t)))
        (on.dark n) in
        let is_turned = judged.turned ∙ ap (λ b. cond b (set s.turned s.count (record { 0 = n })) s.turned) t in
        let is_count = judged.count ∙ ap (λ b. cond b (s.count + 1) s.count) t in
        subst (λ k. AreDifferences w.dark s'.dark k (node_at s'.turned)) (sym is_count)
        (differences_more w.dark s.dark s'.dark n s.count (node_at s.turned) (node_at s'.turned) on.turned
        (ap (differ (flag_in w.dark n)) start ∙ no_difference (flag_in w.dark n))
        (ap (λ b. differ b (flag_in s'.dark n)) (sym start) ∙ t)
        dark_other
        (ap (λ xs. node_at xs s.count) is_turned ∙ ap (λ x. x.0) (get_or-set_same s.turned s.count (record { 0 = n }) (record { 0 = 0 }) room))
        (λ i l. ap (λ xs. node_at xs i) is_turned ∙ ap (λ x. x.0) (get_or-set_other s.turned s.count i (record { 0 = n }) (record { 0 = 0 }) (λ e. absurd (omega arith))))))
        (λ f.
        let is_turned = judged.turned ∙ ap (λ b. cond b (set s.turned s.count (record { 0 = n })) s.turned) f in
        let is_count = judged.count ∙ ap (λ b. cond b (s.count + 1) s.count) f in
        subst (λ k. AreDifferences w.dark s'.dark k (node_at s'.turned)) (sym is_count)
        (differences_same w.dark s.dark s'.dark s.count (node_at s.turned) (node_at s'.turned) on.turned
        (λ m. ⊎_elim (λ e. ap (flag_in s'.dark) e ∙ sym (same_flags (flag_in s.dark n) (flag_in s'.dark n) f) ∙ ap (flag_in s.dark) (sym e)) (λ ne. dark_other m ne) (cases_eq m n))
        (λ i. ap (λ xs. node_at xs i) is_turned)))
        (cases_Bool (differ_at s.dark s'.dark n))

    on_still : IsUnderWay g c w s'
    on_still = record {
      agree = on.agree;
      start_each = on.start_each;
      opened_each = opened_each;
      dark_each = dark_each;
      opened = λ x. ⊎_elim (λ e. ⊎_elim (λ f. inl (e ∙ f)) (λ f. inr (e ∙ f)) (on.opened x)) (λ e. inr e) (opened_kept x);
      dark = λ m. ⊎_elim (λ e. ⊎_elim (λ f. inl (e ∙ f)) (λ f. inr (e ∙ f)) (on.dark m)) (λ e. inr e) (dark_kept m);
      turned = turned_now;
    }

    pub judged_leads : Leads g c w s s'
    judged_leads = record {
      on = on_still;
      opened = λ x e. ⊎_elim (λ f. f ∙ e) (λ f. f) (opened_kept x);
      dark = λ m e. ⊎_elim (λ f. f ∙ e) (λ f. f) (dark_kept m);
      longer = ⊎_elim
          (λ t. let e = judged.count ∙ ap (λ b. cond b (s.count + 1) s.count) t in omega arith)
          (λ f. let e = judged.count ∙ ap (λ b. cond b (s.count + 1) s.count) f in omega arith)
          (cases_Bool (differ_at s.dark s'.dark n));
      places = λ k l. ⊎_elim
          (λ t. ap (λ xs. node_at xs k) (judged.turned ∙ ap (λ b. cond b (set s.turned s.count (record { 0 = n })) s.turned) t)
          ∙ ap (λ x. x.0) (get_or-set_other s.turned s.count k (record { 0 = n }) (record { 0 = 0 }) (λ e. absurd (omega arith))))
          (λ f. ap (λ xs. node_at xs k) (judged.turned ∙ ap (λ b. cond b (set s.turned s.count (record { 0 = n })) s.turned) f))
          (cases_Bool (differ_at s.dark s'.dark n));
      room = ⊎_elim
          (λ t. ap length (judged.turned ∙ ap (λ b. cond b (set s.turned s.count (record { 0 = n })) s.turned) t) ∙ length-set s.turned s.count (record { 0 = n }))
          (λ f. ap length (judged.turned ∙ ap (λ b. cond b (set s.turned s.count (record { 0 = n })) s.turned) f))
          (cases_Bool (differ_at s.dark s'.dark n));
    }
