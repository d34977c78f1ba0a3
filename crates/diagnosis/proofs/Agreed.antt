-- Flags that agree with the rows of all trees agree with those of the fed nodes, and tell the diagnosis.
use Rattle.std.proofs.Common.{◌≡◌, ℕ, suc, zero, ◌+◌, ◌<◌, ◌≤◌, Bool, true, false, cond, refl, sym, ap, ◌∙◌, subst, inl, inr, ⊎_elim, arith, below_more, length, Option, Some, None, is_some, get_or}
use Rattle.std.specs.Prelude.{◌||◌, ◌==◌, not, ◌⊎◌}
use Rattle.std.proofs.lemmas.Bool.{cases_Bool, and_parts, false≢true}
use Rattle.std.proofs.lemmas.List.{get_or_past}
use Rattle.outage_rules.specs.Network.{Cut, IsSound, nothing, is_live}
use Rattle.outage_rules.specs.Certificate.{has_parent, other_end, AgreeWithRows}
use Rattle.outage_rules.proofs.Flags.{flags_are_diagnosis, live_is_flag}
use Rattle.grid_model.specs.declared.parts.DeviceId.{DeviceId}
use Rattle.grid_model.specs.declared.history.Mark.{Mark}
use Rattle.grid_model.specs.declared.history.Mark.TheVariants.{Nothing, Opened, Fine}
use Rattle.grid_model.specs.Parts.{Parts}
use Rattle.grid_model.specs.Places.{is_source, device_at}
use Rattle.grid_model.specs.Problem.{says_opened, says_fine, mark_at}
use Rattle.radial_forest.specs.Traversed.{parent_in, number_of_device, node_at}
use Rattle.radial_forest.specs.Forested.{HasRoots}
use Rattle.subtree_costs.specs.Shares.{row_at}
use Rattle.subtree_costs.specs.Trees.{hanger}
use Rattle.subtree_costs.specs.Costed.{Costed, IsCosted, problem_in}
use Rattle.subtree_costs.specs.Laws.{fed_rows, AreFedRows, FedRowsAreExact}
use Rattle.diagnosis.specs.Judgement.{Agree, JudgedTellsDiagnosis, opens, opened_by, is_dark_by}
use Rattle.diagnosis.proofs.Passing.{sound_network_in}

either_parent : (o : Option DeviceId) → (o ≡ None) ⊎ ((d : DeviceId) × (o ≡ Some d))
either_parent None = inl refl
either_parent (Some d) = inr (d, refl)

not_both : (m : Mark) → says_opened m ≡ true → says_fine m ≡ false
not_both Nothing e = cc
not_both Opened e = cc
not_both Fine e = cc

-- below a dark node a device opens where it is marked open
opens_dark : (m : Mark) (x y : ℕ) → opens m true x y ≡ says_opened m
opens_dark Nothing x y = refl
opens_dark Opened x y = refl
opens_dark Fine x y = refl

no_parent : (o : Option DeviceId) → is_some o ≡ false → o ≡ None
no_parent None e = refl
no_parent (Some d) e = absurd (false≢true (sym e))

some_parent : (o : Option DeviceId) → is_some o ≡ true → (d : DeviceId) × (o ≡ Some d)
some_parent None e = absurd (false≢true e)
some_parent (Some d) e = (d, refl)

module _ (g : Parts) (c : Costed) (costed : IsCosted g c) (fed : AreFedRows g c) where
  abbrev rooted : HasRoots (problem_in g c).net c.forest.parents c.forest.roots
  rooted = costed.posed.forest.rooted

  pub sound : IsSound (problem_in g c)
  sound = record {
    net = sound_network_in g (λ d. get_or c.forest.closed d false) costed.posed.sound;
    weights = λ d l. (costed.posed.sound.devices d l).weight;
    marks = λ d l o. (
      ⊎_elim
          (λ s. s)
          (λ s. absurd (false≢true (sym (ap says_opened (costed.posed.marked d s)) ∙ o)))
          (cases_Bool (get_or c.forest.closed d false)),
      not_both (mark_at c.marks d) o,
    );
  }

  -- the other end of a device is a node
  end_is_node : (d n : ℕ) → d < length g.devices → other_end (problem_in g c).net d n < length g.nodes
  end_is_node d n l = ⊎_elim
      (λ x. subst (λ b. cond b ((problem_in g c).net.from d) ((problem_in g c).net.to d) < length g.nodes) (sym x) (sound.from d l))
      (λ x. subst (λ b. cond b ((problem_in g c).net.from d) ((problem_in g c).net.to d) < length g.nodes) (sym x) (sound.to d l))
      (cases_Bool ((problem_in g c).net.to d == n))

  -- a source is a root
  source_top : (n : ℕ) → n < length g.nodes → is_source g n ≡ true → parent_in c.forest.parents n ≡ None
  source_top n l s = no_parent (parent_in c.forest.parents n) (fed.parents n l (fed.forest.source n l s).0 ∙ ap not s)

  -- a node is fed where the one is that it hangs from
  pub fed_alike : (n : ℕ) (d : DeviceId) → n < length g.nodes → parent_in c.forest.parents n ≡ Some d
      → is_live (problem_in g c).net nothing (other_end (problem_in g c).net d.0 n) ≡ is_live (problem_in g c).net nothing n
  fed_alike n d l e =
      let h = rooted.parent n d l e in
      sym (rooted.fed (other_end (problem_in g c).net d.0 n) (end_is_node d.0 n h.within))
      ∙ ap (problem_in g c).net.is_source h.same_root
      ∙ rooted.fed n l

  module _ (cut : Cut) (dark : ℕ → Bool) (agree : Agree g c cut dark) where
    -- a node that isn't fed is dark, in the order of the nodes
    dark_at : (k : ℕ) → k < length c.order → ((j : ℕ) → j < k → is_live (problem_in g c).net nothing (node_at c.order j) ≡ false → dark (node_at c.order j) ≡ true)
        → is_live (problem_in g c).net nothing (node_at c.order k) ≡ false → dark (node_at c.order k) ≡ true
    dark_at k l before unfed =
        let n = node_at c.order k in
        let ln = costed.order.within k l in
        ⊎_elim
        (λ e. (agree.at n ln).top e ∙ ap not (ap (is_source g) (sym ((rooted.top n ln).0 e)) ∙ rooted.fed n ln ∙ unfed))
        (λ s. let b = costed.order.behind k s.0 l s.1 in
        (agree.at n ln).below s.0 s.1
        ∙ ap (λ x. x || cut s.0.0) (ap dark (sym b.2) ∙ before b.0 b.1 (ap (is_live (problem_in g c).net nothing) b.2 ∙ fed_alike n s.0 ln s.1 ∙ unfed)))
        (either_parent (parent_in c.forest.parents n))

    dark_below : (k : ℕ) → k ≤ length c.order → (j : ℕ) → j < k → is_live (problem_in g c).net nothing (node_at c.order j) ≡ false → dark (node_at c.order j) ≡ true
    dark_below zero le j l unfed = absurd (omega arith)
    dark_below (suc k) le j l unfed = below_more _ _ (dark_below k (omega arith)) (dark_at k (omega arith) (dark_below k (omega arith))) j (omega arith) unfed

    unfed_dark : (n : ℕ) → n < length g.nodes → is_live (problem_in g c).net nothing n ≡ false → dark n ≡ true
    unfed_dark n l unfed =
        let a = costed.order.all n l in
        ap dark (sym a.2) ∙ dark_below (length c.order) (omega arith) a.0 a.1 (ap (is_live (problem_in g c).net nothing) a.2 ∙ unfed)

    -- a fed node that is no source hangs from a device
    hangs_by : (n : ℕ) → n < length g.nodes → has_parent (problem_in g c).net (fed_rows g c) n ≡ true
        → (d : DeviceId) × (parent_in c.forest.parents n ≡ Some d) × (hanger c.forest.parents n ≡ d.0)
    hangs_by n l hp =
        let both = and_parts (is_live (problem_in g c).net nothing n) (not (is_source g n)) hp in
        let some = some_parent (parent_in c.forest.parents n) (fed.parents n l both.0 ∙ both.1) in
        (some.0, some.1, ap number_of_device some.1)

    -- a marked device between nodes that aren't fed
    cut_apart : (d n : ℕ) → d < length g.devices → n < length g.nodes → parent_in c.forest.parents n ≡ Some (record { 0 = d })
        → is_live (problem_in g c).net nothing n ≡ false → cut d ≡ says_opened (mark_at c.marks d)
    cut_apart d n ld l e unfed =
        let h = rooted.parent n (record { 0 = d }) l e in
        (agree.at n l).opened (record { 0 = d }) e
        ∙ ap (λ b. opens (mark_at c.marks d) b ((device_at g d).weight + (row_at c.rows n).dark) (row_at c.rows n).live)
        (unfed_dark (other_end (problem_in g c).net d n) (end_is_node d n ld) (fed_alike n (record { 0 = d }) l e ∙ unfed))
        ∙ opens_dark (mark_at c.marks d) ((device_at g d).weight + (row_at c.rows n).dark) (row_at c.rows n).live

    pub agree_fed : AgreeWithRows (problem_in g c) (fed_rows g c) cut dark
    agree_fed = record {
      flags = record {
        source = λ n l s. (agree.at n l).top (source_top n l s) ∙ ap not s;
        below = λ n l hp. let h = hangs_by n l hp in
            subst (λ x. dark n ≡ (dark (other_end (problem_in g c).net x n) || cut x)) (sym h.2) ((agree.at n l).below h.0 h.1);
        unlisted = unfed_dark;
      };
      below = λ n l hp. let h = hangs_by n l hp in
          subst (λ x. cut x ≡ opens (mark_at c.marks x) (dark (other_end (problem_in g c).net x n)) ((device_at g x).weight + (row_at c.rows n).dark) (row_at c.rows n).live)
          (sym h.2) ((agree.at n l).opened h.0 h.1);
      apart = λ d l closed u v. ⊎_elim
          (λ e. cut_apart d ((problem_in g c).net.from d) l (sound.from d l) e u)
          (λ e. cut_apart d ((problem_in g c).net.to d) l (sound.to d l) e v)
          (rooted.closed d l closed);
      open_ones = agree.open_ones;
    }

-- the flags of a judgement
pub judged_tells : FedRowsAreExact → JudgedTellsDiagnosis
judged_tells exact g c j costed judged =
    let fed = exact g c costed in
    let agree = agree_fed g c costed fed (opened_by j) (is_dark_by j) judged.agree in
    let whole = sound g c costed fed in
    record {
      diagnosis = flags_are_diagnosis (problem_in g c) (fed_rows g c) (opened_by j) (is_dark_by j) whole fed.forest fed.rows agree;
      within = λ d l. get_or_past j.opened d false (let e = judged.sized.opened in omega arith);
      dark = λ n l. sym (ap not (live_is_flag (problem_in g c) (fed_rows g c) (opened_by j) (is_dark_by j) whole fed.forest agree.flags n l) ∙ twice (is_dark_by j n));
    }
  where
    twice : (b : Bool) → not (not b) ≡ b
    twice true = refl
    twice false = refl
