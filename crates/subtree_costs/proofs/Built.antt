-- The trees after a switching, and the costs where nothing is reported and nothing marked.
use Rattle.std.proofs.Common.{◌≡◌, ℕ, ◌+◌, Bool, true, false, cond, min, refl, sym, ap, ◌∙◌, ⊎_elim, arith, List, length, get_or, set, replicate}
use Rattle.std.proofs.Math.Path.{fun_ext}
use Rattle.std.specs.Prelude.{sum}
use Rattle.std.proofs.lemmas.Bool.{cases_eq, cases_lt}
use Rattle.std.proofs.lemmas.List.{get_or-set_other, get_or-replicate, get_or_past, length-replicate}
use Rattle.outage_rules.specs.Sum.{total}
use Rattle.outage_rules.specs.Network.{Problem}
use Rattle.outage_rules.specs.Certificate.{Table, is_child, choice, dark_share}
use Rattle.outage_rules.proofs.Sums.{total_zero}
use Rattle.outage_rules.proofs.Balance.{cond_zero}
use Rattle.grid_model.specs.declared.parts.NodeId.{NodeId}
use Rattle.grid_model.specs.declared.history.Mark.{Mark}
use Rattle.grid_model.specs.declared.history.Mark.TheVariants.{Nothing}
use Rattle.grid_model.specs.Parts.{Parts}
use Rattle.grid_model.specs.Places.{is_source, device_at}
use Rattle.grid_model.specs.Network.{network_in, network_of}
use Rattle.grid_model.specs.Sound.{IsSoundParts}
use Rattle.grid_model.specs.Problem.{mark_at}
use Rattle.radial_forest.specs.Forested.{Forested, IsForestOf}
use Rattle.radial_forest.specs.Spreading.{switched}
use Rattle.subtree_costs.specs.declared.rows.Row.{Row}
use Rattle.subtree_costs.specs.Shares.{no_row, row_at, share_of}
use Rattle.subtree_costs.specs.Trees.{is_top, hanger}
use Rattle.subtree_costs.specs.Listing.{IsOrder}
use Rattle.subtree_costs.specs.Costed.{Costed, IsWeighed, IsPosed, IsCosted, tree_problem, rows_table, root_cost}
use Rattle.subtree_costs.proofs.Chains.{trees_are_forest}
use Rattle.subtree_costs.proofs.Kept.{total_is_sum}

-- what an order shows of the trees
pub posed_by_order : (g : Parts) (f : Forested) (marks : List Mark) (dark live : List ℕ) (list : List NodeId) → IsWeighed g f marks dark live
    → IsOrder (switched g f.closed) f.parents list (length list) → IsPosed g f marks dark live
posed_by_order g f marks dark live list weighed order = record { weighed = weighed; trees = trees_are_forest g f weighed.forest list (length list) order }

-- where each device is closed that starts closed, the network is in its starting state
pub starts : (g : Parts) (closed : List Bool) → ((d : ℕ) → get_or closed d false ≡ (device_at g d).starts_closed) → switched g closed ≡ network_of g
starts g closed states = ap (network_in g) (fun_ext states)

-- after a switching of a device without a mark
pub weighed_again : (g : Parts) (c : Costed) (d : ℕ) (closed : Bool) (f : Forested) → IsCosted g c → mark_at c.marks d ≡ Nothing
    → f.closed ≡ set c.forest.closed d closed → IsForestOf g f.closed f → IsWeighed g f c.marks c.dark c.live
weighed_again g c d closed f costed unmarked is forest = record {
  sound = costed.posed.sound;
  forest = forest;
  marks_each = costed.posed.marks_each;
  marked = λ e off. ⊎_elim
      (λ same. ap (mark_at c.marks) same ∙ unmarked)
      (λ ne. costed.posed.marked e (sym (get_or-set_other c.forest.closed d e closed false ne) ∙ (ap (λ xs. get_or xs e false) (sym is) ∙ off)))
      (cases_eq e d);
  dark_each = costed.posed.dark_each;
  live_each = costed.posed.live_each;
  dark_bound = costed.posed.dark_bound;
  live_bound = costed.posed.live_bound;
}

-- what stands everywhere in a list stands at each place, where it is also what stands outside
everywhere : {X : Type 0} (n : ℕ) (x : X) (k : ℕ) → get_or (replicate n x) k x ≡ x
everywhere n x k =
    ⊎_elim
    (λ l. get_or-replicate n k x x l)
    (λ l. get_or_past (replicate n x) k x (let e = length-replicate n x in omega arith))
    (cases_lt k n)

no_sum : (n : ℕ) → sum (replicate n 0) ≡ 0
no_sum n =
    sym (total_is_sum n (replicate n 0) (length-replicate n 0))
    ∙ total_zero n (λ k. get_or (replicate n 0) k 0) (λ k l. everywhere n 0 k)

-- no marks, no weights and no costs over these trees
abbrev pub nothing_kept : Parts → Forested → List NodeId → Costed
nothing_kept g f list = record {
  forest = f;
  marks = replicate (length g.devices) Nothing;
  dark = replicate (length g.nodes) 0;
  live = replicate (length g.nodes) 0;
  rows = replicate (length g.nodes) no_row;
  total = 0;
  order = list;
}

module _ (g : Parts) (f : Forested) (list : List NodeId) (sound : IsSoundParts g) (forest : IsForestOf g f.closed f) (each : length list ≡ length g.nodes)
    (order : IsOrder (switched g f.closed) f.parents list (length list)) where
  abbrev p : Problem
  p = tree_problem g (nothing_kept g f list)

  abbrev t : Table
  t = rows_table g f (replicate (length g.nodes) no_row)

  weighed : IsWeighed g f (replicate (length g.devices) Nothing) (replicate (length g.nodes) 0) (replicate (length g.nodes) 0)
  weighed = record {
    sound = sound;
    forest = forest;
    marks_each = length-replicate (length g.devices) Nothing;
    marked = λ d off. everywhere (length g.devices) Nothing d;
    dark_each = length-replicate (length g.nodes) 0;
    live_each = length-replicate (length g.nodes) 0;
    dark_bound = let a = no_sum (length g.nodes) in omega arith;
    live_bound = let a = no_sum (length g.nodes) in omega arith;
  }

  row : (n : ℕ) → row_at (replicate (length g.nodes) no_row) n ≡ no_row
  row n = everywhere (length g.nodes) no_row n

  share : (m : ℕ) → share_of (mark_at (replicate (length g.devices) Nothing) (hanger f.parents m)) (device_at g (hanger f.parents m)).weight (row_at (replicate (length g.nodes) no_row) m)
      ≡ share_of Nothing (device_at g (hanger f.parents m)).weight no_row
  share m =
      ap (λ k. share_of k (device_at g (hanger f.parents m)).weight (row_at (replicate (length g.nodes) no_row) m)) (everywhere (length g.devices) Nothing (hanger f.parents m))
      ∙ ap (share_of Nothing (device_at g (hanger f.parents m)).weight) (row m)

  no_choice : (m : ℕ) → choice p t m ≡ 0
  no_choice m = let a = ap (λ r. r.live) (share m) in at (device_at g (hanger f.parents m)).weight a
    where
      at : (w : ℕ) → choice p t m ≡ min (w + 0) 0 → choice p t m ≡ 0
      at w e = omega arith

  no_dark_share : (m : ℕ) → dark_share p t m ≡ 0
  no_dark_share m = let a : dark_share p t m ≡ 0 + 0 = ap (λ r. r.dark) (share m) in omega arith

  none : (n : ℕ) (add : ℕ → ℕ) → ((m : ℕ) → add m ≡ 0) → get_or (replicate (length g.nodes) 0) n 0 + total (length g.nodes) (λ m. cond (is_child p.net t n m) (add m) 0) ≡ 0
  none n add zero =
      let own = everywhere {X = ℕ} (length g.nodes) 0 n in
      let rest = total_zero (length g.nodes) (λ m. cond (is_child p.net t n m) (add m) 0) (λ m l. ap (λ x. cond (is_child p.net t n m) x 0) (zero m) ∙ cond_zero (is_child p.net t n m)) in
      omega arith

  part : (top source : Bool) (r : Row) → r ≡ no_row → ◌≡◌ {A = ℕ} (cond top (cond source r.live r.dark) 0) 0
  part true true r e = ap (λ x. x.live) e
  part true false r e = ap (λ x. x.dark) e
  part false source r e = refl

  -- nothing costs nothing
  pub costed_nothing : IsCosted g (nothing_kept g f list)
  costed_nothing = record {
    posed = posed_by_order g f (replicate (length g.devices) Nothing) (replicate (length g.nodes) 0) (replicate (length g.nodes) 0) list weighed order;
    rows_each = length-replicate (length g.nodes) no_row;
    exact = record {
      live = λ n l e. ap (λ r. r.live) (row n) ∙ sym (none n (choice p t) no_choice);
      dark = λ n l e. ap (λ r. r.dark) (row n) ∙ sym (none n (dark_share p t) no_dark_share);
    };
    total = sym (total_zero (length g.nodes) (root_cost g f (replicate (length g.nodes) no_row)) (λ n l. part (is_top f n) (is_source g n) (row_at (replicate (length g.nodes) no_row) n) (row n)));
    order_each = each;
    order = order;
  }
