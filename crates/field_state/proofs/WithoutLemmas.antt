-- The least cost without a device is the least cost where it is marked fine.
use Rattle.std.proofs.Common.{◌≡◌, ◌<◌, ℕ, Bool, true, false, List, length, refl, sym, ap, ◌∙◌, subst, inl, inr, get_or-set_same, get_or-set_other}
use Rattle.std.specs.Prelude.{◌⊎◌, ◌==◌, ◌&&◌, ◌||◌, ◌+◌, zero, suc, slice_set, if◌then◌else◌}
use Rattle.std.proofs.Math.Path.{fun_ext}
use Rattle.std.proofs.lemmas.Bool.{cases_eq, false≢true}
use Rattle.std.proofs.lemmas.List.{set-set, set-get_or, ext_get_or}
use Rattle.outage_rules.specs.Sum.{total}
use Rattle.outage_rules.specs.Network.{Network, Problem, Cut}
use Rattle.outage_rules.specs.Certificate.{Table, has_parent, upper, is_below, in_part, part_of, dark_cost_of}
use Rattle.outage_rules.specs.Diagnosis.{IsFeasible, IsLeastCost}
use Rattle.outage_rules.specs.Laws.{OneLeastCost}
use Rattle.grid_model.specs.Parts.{Parts}
use Rattle.grid_model.specs.Problem.{says_opened, says_fine, mark_at, problem_of}
use Rattle.grid_model.specs.declared.history.Mark.{Mark}
use Rattle.grid_model.specs.declared.history.Mark.TheVariants.{Nothing, Fine}
use Rattle.subtree_costs.specs.declared.rows.Row.{Row}
use Rattle.grid_model.specs.declared.parts.NodeId.{NodeId}
use Rattle.radial_forest.specs.Forested.{Forested}
use Rattle.subtree_costs.specs.Costed.{Costed, IsCosted, TellsTotal, problem_in, tree_problem, rows_table}
use Rattle.subtree_costs.specs.Shares.{no_row, row_at}
use Rattle.subtree_costs.specs.Laws.{RowsAreLeast, TotalIsLeast}
use Rattle.field_state.specs.Without.{IsLeastWithout}

module _ (g : Parts) (closed : List Bool) (marks : List Mark) (dark live : List ℕ) (d : ℕ) (small : d < length marks) (known : d < length g.devices) (unmarked : mark_at marks d ≡ Nothing) where
  -- the device is fine, and the others are marked as before
  here : mark_at (slice_set marks d Fine) d ≡ Fine
  here = get_or-set_same marks d Fine Nothing small

  there : (e : ℕ) → (e ≡ d → ⊥) → mark_at (slice_set marks d Fine) e ≡ mark_at marks e
  there e ne = get_or-set_other marks d e Fine Nothing ne

  feasible_with : (cut : Cut) → IsFeasible (problem_of g closed (slice_set marks d Fine) dark live) cut → IsFeasible (problem_of g closed marks dark live) cut
  feasible_with cut is = record {
    closed = is.closed;
    opened = λ e l m. opened e l m (cases_eq e d);
    fine = λ e l m. fine e l m (cases_eq e d);
  } where
    opened : (e : ℕ) → e < length g.devices → says_opened (mark_at marks e) ≡ true → (e ≡ d) ⊎ (e ≡ d → ⊥) → cut e ≡ true
    opened e l m (inl same) = absurd (false≢true (sym (ap says_opened (ap (mark_at marks) same ∙ unmarked)) ∙ m))
    opened e l m (inr ne) = is.opened e l (ap says_opened (there e ne) ∙ m)

    fine : (e : ℕ) → e < length g.devices → says_fine (mark_at marks e) ≡ true → (e ≡ d) ⊎ (e ≡ d → ⊥) → cut e ≡ false
    fine e l m (inl same) = absurd (false≢true (sym (ap says_fine (ap (mark_at marks) same ∙ unmarked)) ∙ m))
    fine e l m (inr ne) = is.fine e l (ap says_fine (there e ne) ∙ m)

  left_out : (cut : Cut) → IsFeasible (problem_of g closed (slice_set marks d Fine) dark live) cut → cut d ≡ false
  left_out cut is = is.fine d known (ap says_fine here)

  feasible_without : (cut : Cut) → IsFeasible (problem_of g closed marks dark live) cut → cut d ≡ false → IsFeasible (problem_of g closed (slice_set marks d Fine) dark live) cut
  feasible_without cut is out = record {
    closed = is.closed;
    opened = λ e l m. opened e l m (cases_eq e d);
    fine = λ e l m. fine e l m (cases_eq e d);
  } where
    opened : (e : ℕ) → e < length g.devices → says_opened (mark_at (slice_set marks d Fine) e) ≡ true → (e ≡ d) ⊎ (e ≡ d → ⊥) → cut e ≡ true
    opened e l m (inl same) = absurd (false≢true (sym (ap says_opened (ap (mark_at (slice_set marks d Fine)) same ∙ here)) ∙ m))
    opened e l m (inr ne) = is.opened e l (ap says_opened (sym (there e ne)) ∙ m)

    fine : (e : ℕ) → e < length g.devices → says_fine (mark_at (slice_set marks d Fine) e) ≡ true → (e ≡ d) ⊎ (e ≡ d → ⊥) → cut e ≡ false
    fine e l m (inl same) = ap cut same ∙ out
    fine e l m (inr ne) = is.fine e l (ap says_fine (sym (there e ne)) ∙ m)

  least_without : (c : ℕ) → IsLeastCost (problem_of g closed (slice_set marks d Fine) dark live) c → IsLeastWithout (problem_of g closed marks dark live) d c
  least_without c is = record {
    attained = (is.attained.0, feasible_with is.attained.0 is.attained.1, left_out is.attained.0 is.attained.1, is.attained.2);
    least = λ cut feasible out. is.least cut (feasible_without cut feasible out);
  }

-- a mark that is put and taken back
pub mark_back : (marks : List Mark) (d : ℕ) → mark_at marks d ≡ Nothing → slice_set (slice_set marks d Fine) d Nothing ≡ marks
mark_back marks d unmarked = set-set marks d Fine Nothing ∙ ap (slice_set marks d) (sym unmarked) ∙ set-get_or marks d Nothing

-- a row with another cost
abbrev with_live : Row → ℕ → Row
with_live row live = record { live = live; dark = row.dark }

abbrev with_dark : Row → ℕ → Row
with_dark row dark = record { live = row.live; dark = dark }

-- a table with other costs
abbrev with_costs : Table → (ℕ → ℕ) → (ℕ → ℕ) → Table
with_costs t live dark = record t { live_cost = live; dark_cost = dark }

-- the parts of a table don't depend on its costs
below_same : (net : Network) (t : Table) (live dark : ℕ → ℕ) (r k n : ℕ) → is_below net (with_costs t live dark) r k n ≡ is_below net t r k n
below_same net t live dark r zero n = refl
below_same net t live dark r (suc k) n = ap (λ b. (n == r) || (has_parent net t n && b)) (below_same net t live dark r k (upper net t n))

part_same : (net : Network) (t : Table) (live dark : ℕ → ℕ) (r : ℕ) → in_part net (with_costs t live dark) r ≡ in_part net t r
part_same net t live dark r = fun_ext (λ n. ap (λ b. t.is_listed n && b) (below_same net t live dark r (t.depth n) n))

-- a part, by which nodes are in it
abbrev part_by : Problem → ℕ → (ℕ → Bool) → Problem
part_by p r within = record p {
  net = record p.net { is_source = λ n. n == r; is_closed = λ d. p.is_closed d && (within (p.from d) && within (p.to d)) };
  marked_open = λ d. (p.is_closed d && (within (p.from d) && within (p.to d))) && p.marked_open d;
  dark_weight = λ n. if within n then p.dark_weight n else 0;
  live_weight = λ n. if within n then p.live_weight n else 0;
}

abbrev dark_by : Problem → (ℕ → Bool) → ℕ
dark_by p within =
    total p.nodes (λ n. if within n then p.live_weight n else 0)
    + total p.devices (λ d. if (p.is_closed d && (within (p.from d) && within (p.to d))) && p.marked_open d then p.weight d else 0)

problem_same : (p : Problem) (t : Table) (live dark : ℕ → ℕ) (r : ℕ) → part_of p (with_costs t live dark) r ≡ part_of p t r
problem_same p t live dark r = ap (part_by p r) (part_same p.net t live dark r)

dark_same : (p : Problem) (t : Table) (live dark : ℕ → ℕ) (r : ℕ) → dark_cost_of p (with_costs t live dark) r ≡ dark_cost_of p t r
dark_same p t live dark r = ap (dark_by p) (part_same p.net t live dark r)

-- what the trees, the marks and the weights pose has one table of rows and one total
module _ (rows : RowsAreLeast) (totals : TotalIsLeast) (one : OneLeastCost) (g : Parts) (a : Costed) (others : List Row) (t : ℕ) (costed : IsCosted g a) (other : IsCosted g (record a { rows = others; total = t })) where
  row_is : (n : ℕ) → n < length g.nodes → row_at a.rows n ≡ row_at others n
  row_is n l =
      let mine = rows g a costed n l in
      let its = rows g (record a { rows = others; total = t }) other n l in
      let table = rows_table g a.forest a.rows in
      let its_live : IsLeastCost (part_of (tree_problem g a) table n) (row_at others n).live =
      subst (λ (p : Problem). IsLeastCost p (row_at others n).live) (problem_same (tree_problem g a) table (λ k. (row_at others k).live) (λ k. (row_at others k).dark) n) its.0 in
      let live : (row_at a.rows n).live ≡ (row_at others n).live = one (part_of (tree_problem g a) table n) (row_at a.rows n).live (row_at others n).live mine.0 its_live in
      let dark : (row_at a.rows n).dark ≡ (row_at others n).dark = mine.1 ∙ sym (its.1 ∙ dark_same (tree_problem g a) table (λ k. (row_at others k).live) (λ k. (row_at others k).dark) n) in
      ap (λ (k : ℕ). with_live (row_at a.rows n) k) live ∙ ap (λ (k : ℕ). with_dark (row_at others n) k) dark

  rows_are : a.rows ≡ others
  rows_are = ext_get_or no_row a.rows others (costed.rows_each ∙ sym other.rows_each) (λ n l. row_is n (subst (λ (k : ℕ). n < k) costed.rows_each l))

  total_is : a.total ≡ t
  total_is = one (problem_in g a) a.total t (totals g a costed) (totals g (record a { rows = others; total = t }) other)

  all_is : a ≡ record a { rows = others; total = t }
  all_is = ap (λ (rs : List Row). record a { rows = rs }) rows_are ∙ ap (λ (k : ℕ). record a { rows = others; total = k }) total_is

pub costs_are_one : RowsAreLeast → TotalIsLeast → OneLeastCost → (g : Parts) (a b : Costed) → IsCosted g a → IsCosted g b →
    b.forest ≡ a.forest → b.marks ≡ a.marks → b.dark ≡ a.dark → b.live ≡ a.live → b.order ≡ a.order → b ≡ a
costs_are_one rows total one g a b costed other forest marks dark live order =
    let same : b ≡ record a { rows = b.rows; total = b.total } =
    ap (λ (f : Forested). record b { forest = f }) forest
    ∙ ap (λ (xs : List Mark). record b { forest = a.forest; marks = xs }) marks
    ∙ ap (λ (xs : List ℕ). record b { forest = a.forest; marks = a.marks; dark = xs }) dark
    ∙ ap (λ (xs : List ℕ). record b { forest = a.forest; marks = a.marks; dark = a.dark; live = xs }) live
    ∙ ap (λ (xs : List NodeId). record b { forest = a.forest; marks = a.marks; dark = a.dark; live = a.live; order = xs }) order in
    same ∙ sym (all_is rows total one g a b.rows b.total costed (subst (IsCosted g) same other))

-- the total, where the device is marked fine, is what the others come to without it
pub least_out : (g : Parts) (a b : Costed) (d c : ℕ) → IsCosted g a → d < length g.devices → mark_at a.marks d ≡ Nothing →
    b.forest ≡ a.forest → b.marks ≡ slice_set a.marks d Fine → b.dark ≡ a.dark → b.live ≡ a.live → c ≡ b.total → TellsTotal g b → IsLeastWithout (problem_in g a) d c
least_out g a b d c costed known unmarked forest marks dark live is total =
    let small : d < length a.marks = subst (λ (k : ℕ). d < k) (sym costed.posed.marks_each) known in
    let posed : problem_in g b ≡ problem_of g a.forest.closed (slice_set a.marks d Fine) a.dark a.live =
    ap (λ (f : Forested). problem_of g f.closed b.marks b.dark b.live) forest
    ∙ ap (λ (xs : List Mark). problem_of g a.forest.closed xs b.dark b.live) marks
    ∙ ap (λ (xs : List ℕ). problem_of g a.forest.closed (slice_set a.marks d Fine) xs b.live) dark
    ∙ ap (λ (xs : List ℕ). problem_of g a.forest.closed (slice_set a.marks d Fine) a.dark xs) live in
    least_without g a.forest.closed a.marks a.dark a.live d small known unmarked c
    (subst (λ (p : Problem). IsLeastCost p c) posed (subst (IsLeastCost (problem_in g b)) (sym is) total))
