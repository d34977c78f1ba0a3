-- Which nodes of the trees are fed, and what the roots come to.
use Rattle.std.proofs.Common.{◌≡◌, ℕ, ◌<◌, Bool, cond, arith, true, false, refl, sym, ap, ◌∙◌, subst, ⊎_elim, length, Option, Some, None, is_some}
use Rattle.std.specs.Prelude.{◌&&◌, not}
use Rattle.std.proofs.lemmas.Bool.{cases_Bool, false≢true, not-true, not_from_false}
use Rattle.outage_rules.specs.Network.{Network, Problem, IsSound, IsLive, IsSoundNetwork, IsRadial, only, nothing, is_live}
use Rattle.outage_rules.specs.Diagnosis.{IsLeastCost}
use Rattle.outage_rules.specs.Laws.{LiveIsAWalk, LeastCostIsLeast}
use Rattle.outage_rules.specs.Agreement.{AgreeAt, ExactTableIsReference}
use Rattle.outage_rules.specs.TightLaws.{TightPasses}
use Rattle.outage_rules.proofs.Sums.{total_same}
use Rattle.outage_rules.specs.Certificate.{Table, upper, other_end, IsForest, HasExactRows, bound_of}
use Rattle.outage_rules.specs.Reference.{table_of}
use Rattle.outage_rules.proofs.Closing.{back}
use Rattle.outage_rules.proofs.Rooted.{up_within}
use Rattle.grid_model.specs.declared.parts.DeviceId.{DeviceId}
use Rattle.grid_model.specs.Parts.{Parts}
use Rattle.radial_forest.specs.Traversed.{parent_in}
use Rattle.radial_forest.specs.Forested.{Forested, root_in, HasRoots}
use Rattle.radial_forest.specs.Spreading.{switched}
use Rattle.radial_forest.proofs.LowerSide.{joins_up}
use Rattle.subtree_costs.specs.Trees.{hangs, is_top, hanger}
use Rattle.subtree_costs.specs.Laws.{fed_rows, AreFedRows}
use Rattle.subtree_costs.specs.Costed.{Costed, IsCosted, TellsTotal, problem_in, tree_problem, rows_table}
use Rattle.subtree_costs.proofs.Hung.{top_is}
use Rattle.subtree_costs.proofs.Chains.{some_from, none_from}
use Rattle.subtree_costs.proofs.Unfed
use Rattle.subtree_costs.proofs.Unfed.{fed_forest, roots_are_bound}
use Rattle.subtree_costs.proofs.Kept.{posed_sound, rooted_sound, kept_forest}

module _ (net : Network) (f : Forested) (sound : IsSoundNetwork net) (radial : IsRadial net) (rooted : HasRoots net f.parents f.roots) (live : LiveIsAWalk) where
  -- a source hangs from none
  pub source_unhung : (s : ℕ) → net.is_source s ≡ true → hangs f.parents s ≡ false
  source_unhung s source = go (parent_in f.parents s) refl
    where
      l : s < net.nodes
      l = sound.sources s source

      root_source : net.is_source (root_in f.roots s) ≡ true
      root_source = rooted.fed s l ∙ (live net nothing s sound l).1 (s, 0, source, refl)

      go : (o : Option DeviceId) → parent_in f.parents s ≡ o → is_some o ≡ false
      go None e = refl
      go (Some e) is =
          let p = rooted.parent s e l is in
          let j = joins_up net f sound rooted s e.0 l is in
          let up = back net (only e.0) p.upper.0 (other_end net e.0 s) (root_in f.roots s) p.upper.1 in
          let here : IsLive net (only e.0) s = (s, 0, source, refl) in
          let above : IsLive net (only e.0) (other_end net e.0 s) = (root_in f.roots s, up.0, root_source, up.1) in
          let apart = (radial e.0 p.within p.closed).1 in
          absurd (⊎_elim
          (λ x. apart (subst (IsLive net (only e.0)) (sym x.0) here) (subst (IsLive net (only e.0)) (sym x.1) above))
          (λ x. apart (subst (IsLive net (only e.0)) (sym x.0) above) (subst (IsLive net (only e.0)) (sym x.1) here))
          j.ends)

  -- a node that hangs from none is fed where it is a source
  pub unhung_fed : (n : ℕ) → n < net.nodes → hangs f.parents n ≡ false → is_live net nothing n ≡ net.is_source n
  unhung_fed n l e = sym (rooted.fed n l) ∙ ap net.is_source ((rooted.top n l).0 (none_from (parent_in f.parents n) e))

  -- and another one where the node above it is
  pub hung_fed : (n : ℕ) → n < net.nodes → other_end net (hanger f.parents n) n < net.nodes → hangs f.parents n ≡ true → is_live net nothing n ≡ is_live net nothing (other_end net (hanger f.parents n) n)
  hung_fed n l lu e =
      let p = rooted.parent n (record { 0 = hanger f.parents n }) l (some_from (parent_in f.parents n) e) in
      sym (rooted.fed n l) ∙ (ap net.is_source (sym p.same_root) ∙ rooted.fed (other_end net (hanger f.parents n) n) lu)

module _ (g : Parts) (c : Costed) (costed : IsCosted g c) (live_walks : LiveIsAWalk) where
  abbrev net : Network
  net = switched g c.forest.closed

  abbrev table : Table
  table = rows_table g c.forest c.rows

  abbrev fed : ℕ → Bool
  fed n = is_live net nothing n

  within : (n : ℕ) → n < length g.nodes → n < length c.forest.parents
  within n l = subst (λ k. n < k) (sym costed.posed.forest.parents_each) l

  top_within : (n : ℕ) → is_top c.forest n ≡ true → n < length g.nodes
  top_within n t = (rooted_sound g c.forest c.marks c.dark c.live costed.posed).net.sources n t

  top_unhung : (n : ℕ) → is_top c.forest n ≡ true → hangs c.forest.parents n ≡ false
  top_unhung n t = not-true (hangs c.forest.parents n) (sym (top_is c.forest n (within n (top_within n t))) ∙ t)

  source_top : (n : ℕ) → net.is_source n ≡ true → is_top c.forest n ≡ true
  source_top n s =
      top_is c.forest n (within n (costed.posed.forest.sound.sources n s))
      ∙ ap not (source_unhung net c.forest costed.posed.forest.sound costed.posed.forest.radial costed.posed.forest.rooted live_walks n s)

  top_fed : (n : ℕ) → is_top c.forest n ≡ true → fed n ≡ net.is_source n
  top_fed n t = unhung_fed net c.forest costed.posed.forest.sound costed.posed.forest.radial costed.posed.forest.rooted live_walks n (top_within n t) (top_unhung n t)

  fed_above : (n : ℕ) → n < length g.nodes → is_top c.forest n ≡ false → fed n ≡ fed (upper net table n)
  fed_above n l t =
      let hung = ⊎_elim (λ h. h) (λ h. absurd (false≢true (sym t ∙ (top_is c.forest n (within n l) ∙ ap not h)))) (cases_Bool (hangs c.forest.parents n)) in
      let p = (kept_forest g c costed).parent n l (not_from_false (is_top c.forest n) t) in
      hung_fed net c.forest costed.posed.forest.sound costed.posed.forest.radial costed.posed.forest.rooted live_walks n l
      (up_within (tree_problem g c).net table nothing (rooted_sound g c.forest c.marks c.dark c.live costed.posed).net (kept_forest g c costed).rooted n p) hung

  -- a fed node hangs from a device where it is no source
  fed_parents : (n : ℕ) → n < length g.nodes → fed n ≡ true → hangs c.forest.parents n ≡ not (net.is_source n)
  fed_parents n l e =
      ⊎_elim
      (λ hung. ⊎_elim
      (λ source. absurd (false≢true (sym (source_unhung net c.forest costed.posed.forest.sound costed.posed.forest.radial costed.posed.forest.rooted live_walks n source) ∙ hung)))
      (λ other. hung ∙ sym (ap not other))
      (cases_Bool (net.is_source n)))
      (λ free. free ∙ sym (ap not (sym (unhung_fed net c.forest costed.posed.forest.sound costed.posed.forest.radial costed.posed.forest.rooted live_walks n l free) ∙ e)))
      (cases_Bool (hangs c.forest.parents n))

  module _ (reference : ExactTableIsReference) where
    sound : IsSound (problem_in g c)
    sound = posed_sound g c.forest c.marks c.dark c.live costed.posed

    rooted : IsSound (tree_problem g c)
    rooted = rooted_sound g c.forest c.marks c.dark c.live costed.posed

    forest : IsForest (problem_in g c).net (fed_rows g c)
    forest = fed_forest (problem_in g c) (is_top c.forest) fed table sound rooted (λ n. refl) (kept_forest g c costed) costed.exact source_top top_fed fed_above

    rows : HasExactRows (problem_in g c) (fed_rows g c)
    rows = Unfed.fed_rows (problem_in g c) (is_top c.forest) fed table sound rooted (λ n. refl) (kept_forest g c costed) costed.exact source_top top_fed fed_above

    -- over the fed nodes the rows are an exact table of what is posed
    pub are_fed_rows : AreFedRows g c
    are_fed_rows = record {
      sound = sound;
      forest = forest;
      rows = rows;
      depth = λ n l e. (reference (problem_in g c) (fed_rows g c) sound costed.posed.forest.radial forest rows n l).depth e;
      parents = fed_parents;
      bound = costed.total ∙ roots_are_bound (problem_in g c) (is_top c.forest) fed table sound rooted (λ n. refl) (kept_forest g c costed) costed.exact source_top top_fed fed_above;
    }

-- the bound of a table is that of another which agrees with it
bound_same : (p : Problem) (t u : Table) → IsSound p → IsForest p.net t → ((n : ℕ) → n < p.nodes → AgreeAt p.net t u n) → bound_of p t ≡ bound_of p u
bound_same p t u sound forest agree =
    let sources = total_same p.nodes (λ n. cond (p.is_source n) (t.live_cost n) 0) (λ n. cond (p.is_source n) (u.live_cost n) 0) (λ n l. source_row n l) in
    let unlisted = total_same p.nodes (λ n. cond (t.is_listed n) 0 (p.live_weight n)) (λ n. cond (u.is_listed n) 0 (p.live_weight n)) (λ n l. ap (λ b. cond b 0 (p.live_weight n)) (agree n l).listed) in
    let apart = total_same p.devices (λ d. cond (p.marked_open d && (not (t.is_listed (p.from d)) && not (t.is_listed (p.to d)))) (p.weight d) 0) (λ d. cond (p.marked_open d && (not (u.is_listed (p.from d)) && not (u.is_listed (p.to d)))) (p.weight d) 0)
    (λ d l. ap (λ b. cond (p.marked_open d && (not b && not (t.is_listed (p.to d)))) (p.weight d) 0) (agree (p.from d) (sound.net.from d l)).listed
    ∙ ap (λ b. cond (p.marked_open d && (not (u.is_listed (p.from d)) && not b)) (p.weight d) 0) (agree (p.to d) (sound.net.to d l)).listed) in
    omega arith
  where
    source_row : (n : ℕ) → n < p.nodes → cond (p.is_source n) (t.live_cost n) 0 ≡ cond (p.is_source n) (u.live_cost n) 0
    source_row n l =
        ⊎_elim
        (λ s. ap (λ x. cond (p.is_source n) x 0) ((agree n l).live (forest.source n l s).0))
        (λ s. ap (λ b. cond b (t.live_cost n) 0) s ∙ sym (ap (λ b. cond b (u.live_cost n) 0) s))
        (cases_Bool (p.is_source n))

-- what the roots come to is the least cost
pub total_least : (g : Parts) (c : Costed) → IsCosted g c → AreFedRows g c → ExactTableIsReference → TightPasses → LeastCostIsLeast → TellsTotal g c
total_least g c costed fed reference tight least =
    let p = problem_in g c in
    let radial = costed.posed.forest.radial in
    subst (IsLeastCost p)
    (sym (fed.bound ∙ (bound_same p (fed_rows g c) (table_of p) fed.sound fed.forest (reference p (fed_rows g c) fed.sound radial fed.forest fed.rows) ∙ sym (tight p fed.sound radial).total_cost)))
    (least p fed.sound radial)
