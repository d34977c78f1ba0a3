-- What is judged is the tight bounds.
use Rattle.std.proofs.Common.{◌≡◌, ℕ, ◌<◌, Bool, true, false, cond, refl, sym, ap, ◌∙◌, arith, List, [], ◌∷◌, map, Option, Some, None, is_some, length}
use Rattle.std.specs.Prelude.{◌&&◌, not}
use Rattle.std.specs.List.{filter, range_with_len}
use Rattle.std.proofs.lemmas.Bool.{false≢true}
use Rattle.outage_rules.specs.Network.{Problem, IsSound, IsRadial}
use Rattle.outage_rules.specs.Diagnosis.{IsLeastCost}
use Rattle.outage_rules.specs.Certificate.{has_parent}
use Rattle.outage_rules.specs.Agreement.{AgreeAt}
use Rattle.outage_rules.specs.Reference as reference
use Rattle.outage_rules.specs.Reference.{greedy, reference_cut, least_cost}
use Rattle.outage_rules.proofs.Agreement.{agree_at}
use Rattle.outage_rules.proofs.Cautious.{only_one}
use Rattle.outage_rules.proofs.Computed.{exact_table, computed}
use Rattle.outage_rules.proofs.Exists.{greedy_opens}
use Rattle.outage_rules.proofs.Least.{one_least, least_is_least}
use Rattle.grid_model.specs.declared.parts.NodeId.{NodeId}
use Rattle.grid_model.specs.declared.parts.DeviceId.{DeviceId}
use Rattle.radial_forest.specs.Traversed.{parent_in, number_of_device}
use Rattle.grid_model.specs.Parts.{Parts}
use Rattle.subtree_costs.specs.Costed.{Costed, IsCosted, problem_in}
use Rattle.subtree_costs.specs.Laws.{fed_rows, AreFedRows}
use Rattle.diagnosis.specs.Judgement.{Judgement, IsJudged, TellsDiagnosis, opened_by, flagged}
use Rattle.bound_table.specs.declared.bounds.BoundRow.{BoundRow}
use Rattle.bound_table.specs.Table.{Table}
use Rattle.bound_table.specs.Tight.{row_at, cuts_of, rows_of, tight_bounds}
use Rattle.outage_engine.specs.Bounding.{is_fed, AreDepths, kept_row, kept_rows}
use Rattle.outage_engine.proofs.BoundingLists.{same_listed}

-- a device by its number
abbrev device : ℕ → DeviceId
device d = record { 0 = d }

by_number : (xs : List DeviceId) → map device (map (λ d. d.0) xs) ≡ xs
by_number [] = refl
by_number (x ∷ xs) = ap (λ ys. x ∷ ys) (by_number xs)

-- none at a source, and else the device of a number
parent_is : (o : Option DeviceId) (source : Bool) (d : ℕ) → is_some o ≡ (true && not source) → ((true && not source) ≡ true → number_of_device o ≡ d) → o ≡ cond source None (Some (device d))
parent_is None true d e h = refl
parent_is None false d e h = absurd (false≢true e)
parent_is (Some x) true d e h = absurd (false≢true (sym e))
parent_is (Some x) false d e h = ap (λ k. Some (device k)) (h refl)

abbrev pub row_by : NodeId → Option DeviceId → ℕ → ℕ → ℕ → BoundRow
row_by node parent depth live dark = record { node = node; parent = parent; depth = depth; live = live; dark = dark }

pub same_row : (node : NodeId) (o o' : Option DeviceId) (x x' l l' d d' : ℕ) → o ≡ o' → x ≡ x' → l ≡ l' → d ≡ d' → row_by node o x l d ≡ row_by node o' x' l' d'
same_row node o o' x x' l l' d d' eo ex el ed =
    ap (λ v. row_by node v x l d) eo
    ∙ ap (λ v. row_by node o' v l d) ex
    ∙ ap (λ v. row_by node o' x' v d) el
    ∙ ap (λ v. row_by node o' x' l' v) ed

-- a row is that of a fed node
pub some_row : (fed : Bool) (row given : BoundRow) → Some given ≡ cond fed (Some row) None → (fed ≡ true) × (given ≡ row)
some_row true row given e = (refl, cc)
some_row false row given e = absurd (cc)

-- and where there is none, the node isn't fed
pub no_row : (fed : Bool) (row : BoundRow) → None ≡ cond fed (Some row) None → fed ≡ false
no_row true row e = absurd (cc)
no_row false row e = refl

module _ (g : Parts) (c : Costed) (j : Judgement) (depths : List ℕ) (costed : IsCosted g c) (sound : IsSound (problem_in g c)) (fed : AreFedRows g c)
    (judged : IsJudged g c j) (tells : TellsDiagnosis (problem_in g c) j) (deep : AreDepths g c depths) where
  abbrev p : Problem
  p = problem_in g c

  radial : IsRadial p.net
  radial = costed.posed.forest.radial

  agree : (n : ℕ) → n < p.nodes → AgreeAt p.net (fed_rows g c) (reference.table_of p) n
  agree = let exact = exact_table p sound radial in
      agree_at p (fed_rows g c) (reference.table_of p) sound radial fed.forest exact.0 fed.rows exact.1

  -- the row of a fed node
  row_is : (n : ℕ) → n < p.nodes → is_fed g c n ≡ true → kept_row c depths n ≡ row_at p (reference.table_of p) n
  row_is n l is =
      let same = agree n l in
      let hangs : has_parent p.net (fed_rows g c) n ≡ (true && not (p.is_source n)) = ap (λ b. b && not (p.is_source n)) is in
      same_row _ _ _ _ _ _ _ _ _
      (parent_is (parent_in c.forest.parents n) (p.is_source n) ((reference.table_of p).parent n) (fed.parents n l is) (λ e. same.parent (hangs ∙ e)))
      (deep.depth n l ∙ same.depth is) (same.live is) (same.dark is)

  rows_are : kept_rows g c depths p.nodes ≡ rows_of p (reference.table_of p)
  rows_are = same_listed (is_fed g c) (reference.table_of p).is_listed (kept_row c depths) (row_at p (reference.table_of p)) 0 p.nodes
      (λ n l. (agree n (omega arith)).listed) (λ n l is. row_is n (omega arith) is)

  opened_is : (d : ℕ) → d < p.devices → opened_by j d ≡ reference_cut p d
  opened_is d l =
      let t = reference.table_of p in
      let exact = exact_table p sound radial in
      only_one p t sound exact.0 exact.1 (greedy p t) (greedy_opens p t sound exact.0) (opened_by j) (reference_cut p) tells.diagnosis (computed p sound radial) d l

  cuts_are : (cuts : List DeviceId) → map (λ d. d.0) cuts ≡ flagged j.opened → cuts ≡ cuts_of p
  cuts_are cuts listed =
      sym (by_number cuts)
      ∙ ap (map device) listed
      ∙ ap (λ n. map device (filter (opened_by j) (range_with_len 0 n))) judged.sized.opened
      ∙ same_listed (opened_by j) (reference_cut p) device device 0 p.devices (λ d l. opened_is d (omega arith)) (λ d l e. refl)

  -- the least cost, the devices and the rows
  pub tight_is : (cost : ℕ) (cuts : List DeviceId) (rows : List BoundRow) → cost ≡ c.total → IsLeastCost p c.total → map (λ d. d.0) cuts ≡ flagged j.opened
      → rows ≡ kept_rows g c depths (length g.nodes) → ◌≡◌ {A = Table} (record { cost = cost; cuts = cuts; rows = rows }) (tight_bounds p)
  unfolding tight_bounds
  tight_is cost cuts rows is least listed made =
      ap (table_with cost cuts) (made ∙ rows_are)
      ∙ ap (λ x. table_with cost x (rows_of p (reference.table_of p))) (cuts_are cuts listed)
      ∙ ap (λ x. table_with x (cuts_of p) (rows_of p (reference.table_of p))) (is ∙ one_least p c.total (least_cost p) least (least_is_least p sound radial))
    where
      table_with : ℕ → List DeviceId → List BoundRow → Table
      table_with cost cuts rows = record { cost = cost; cuts = cuts; rows = rows }
