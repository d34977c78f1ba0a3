-- What kept costs show of their trees: the problem is sound, and no row grows large.
use Rattle.std.proofs.Common.{◌≡◌, ℕ, ◌<◌, ◌≤◌, Bool, true, false, cond, refl, sym, ap, ◌∙◌, arith, List, length, get_or}
use Rattle.std.specs.Prelude.{sum}
use Rattle.std.proofs.lemmas.Bool.{false≢true, true_from_ne_false}
use Rattle.outage_rules.specs.Sum.{total}
use Rattle.outage_rules.specs.Network.{Network, IsSound}
use Rattle.outage_rules.specs.Certificate.{IsForest}
use Rattle.outage_rules.specs.TightLaws.{RowsAreBounded}
use Rattle.outage_rules.proofs.Lists.{total_list}
use Rattle.outage_rules.proofs.Sums.{total_add, total_le_times}
use Rattle.grid_model.specs.declared.history.Mark.{Mark}
use Rattle.grid_model.specs.declared.history.Mark.TheVariants.{Nothing, Opened, Fine}
use Rattle.grid_model.specs.Parts.{Parts}
use Rattle.grid_model.specs.Places.{device_at}
use Rattle.grid_model.specs.Problem.{says_opened, says_fine, mark_at, problem_of}
use Rattle.radial_forest.specs.Forested.{Forested}
use Rattle.radial_forest.specs.Spreading.{switched}
use Rattle.subtree_costs.specs.Shares.{row_at}
use Rattle.subtree_costs.specs.Trees.{from_roots, rooted_problem, tree_table}
use Rattle.subtree_costs.specs.Costed.{Costed, IsPosed, IsCosted, tree_problem, rows_table}
use Rattle.subtree_costs.specs.Repairs.{IsSmall}
use Rattle.subtree_costs.proofs.Hung.{sound_from_roots}

-- a forest is one whatever its rows say
pub forest_with : (net : Network) (f : Forested) → IsForest (from_roots net f) (tree_table net f (λ n. 0) (λ n. 0)) → (live dark : ℕ → ℕ) → IsForest (from_roots net f) (tree_table net f live dark)
forest_with net f forest live dark = record {
  rooted = record {
    source = forest.source;
    parent = λ n l hp. let h = forest.parent n l hp in record { within = h.within; closed = h.closed; ends = h.ends; listed = h.listed; deeper = h.deeper };
  };
  stray = forest.stray;
}

-- the sum over the places of a list
pub total_is_sum : (n : ℕ) (xs : List ℕ) → length xs ≡ n → total n (λ k. get_or xs k 0) ≡ sum xs
total_is_sum n xs e = ap (λ m. total m (λ k. get_or xs k 0)) (sym e) ∙ total_list (λ x. x) xs 0

-- a mark says one thing at most
not_fine : (mark : Mark) → says_opened mark ≡ true → says_fine mark ≡ false
not_fine Nothing e = absurd (false≢true e)
not_fine Opened e = refl
not_fine Fine e = absurd (false≢true e)

module _ (g : Parts) (f : Forested) (marks : List Mark) (dark live : List ℕ) (posed : IsPosed g f marks dark live) where
  closed_when : (d : ℕ) → says_opened (mark_at marks d) ≡ true → get_or f.closed d false ≡ true
  closed_when d o = true_from_ne_false (get_or f.closed d false) (λ e. false≢true (sym (ap says_opened (posed.marked d e)) ∙ o))

  -- what is posed is sound
  pub posed_sound : IsSound (problem_of g f.closed marks dark live)
  posed_sound = record {
    net = posed.forest.sound;
    weights = λ d l. (posed.sound.devices d l).weight;
    marks = λ d l o. (closed_when d o, not_fine (mark_at marks d) o);
  }

  -- also where the walks begin at the roots
  pub rooted_sound : IsSound (rooted_problem (problem_of g f.closed marks dark live) f)
  rooted_sound = record {
    net = sound_from_roots g f posed.forest.sound posed.forest.parents_each;
    weights = λ d l. (posed.sound.devices d l).weight;
    marks = λ d l o. (closed_when d o, not_fine (mark_at marks d) o);
  }

  pub dark_small : total (length g.nodes) (λ n. get_or dark n 0) ≤ 1000000000000
  dark_small = let a = total_is_sum (length g.nodes) dark posed.dark_each in let b = posed.dark_bound in omega arith

  pub live_small : total (length g.nodes) (λ n. get_or live n 0) ≤ 1000000000000
  live_small = let a = total_is_sum (length g.nodes) live posed.live_each in let b = posed.live_bound in omega arith

module _ (g : Parts) (c : Costed) (costed : IsCosted g c) where
  pub kept_forest : IsForest (tree_problem g c).net (rows_table g c.forest c.rows)
  kept_forest = forest_with (switched g c.forest.closed) c.forest costed.posed.trees (λ n. (row_at c.rows n).live) (λ n. (row_at c.rows n).dark)

  -- no row grows large
  pub rows_small : RowsAreBounded → (n : ℕ) → n < length g.nodes → IsSmall (row_at c.rows n)
  rows_small bounded n l =
      let bound = bounded (tree_problem g c) (rows_table g c.forest c.rows) (rooted_sound g c.forest c.marks c.dark c.live costed.posed) kept_forest costed.exact n l refl in
      let sums = total_add (length g.nodes) (λ k. get_or c.dark k 0) (λ k. get_or c.live k 0) in
      let dark = dark_small g c.forest c.marks c.dark c.live costed.posed in
      let live = live_small g c.forest c.marks c.dark c.live costed.posed in
      let marks = total_le_times (length g.devices) (λ d. cond (says_opened (mark_at c.marks d)) (device_at g d).weight 0) 1000000 (λ d ld. at (says_opened (mark_at c.marks d)) (device_at g d).weight (costed.posed.sound.devices d ld).most_weight) in
      let few = costed.posed.sound.few_devices in
      record { live = let b = bound.0 in omega arith; dark = let b = bound.1 in omega arith }
    where
      at : (b : Bool) (x : ℕ) → x ≤ 1000000 → cond b x 0 ≤ 1000000
      at true x l = l
      at false x l = omega arith
