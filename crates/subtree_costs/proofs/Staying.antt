-- What changes at places alone changes no row off their walks.
use Rattle.std.proofs.Common.{◌≡◌, ◌≢◌, ℕ, zero, suc, ◌+◌, ◌<◌, ◌≤◌, Bool, true, false, cond, refl, sym, ap, ◌∙◌, subst, inl, inr, ⊎_elim, arith, List, length, get_or, Option}
use Rattle.std.specs.Prelude.{◌==◌, ◌⊎◌}
use Rattle.std.proofs.lemmas.Bool.{cases_Bool, cases_eq, cases_lt, and_parts, eqb-true, false≢true}
use Rattle.outage_rules.specs.Sum.{total}
use Rattle.outage_rules.specs.Network.{Network}
use Rattle.outage_rules.specs.Certificate.{Table, has_parent, upper, other_end, is_child, HasExactRows}
use Rattle.outage_rules.proofs.Sums.{total_same}
use Rattle.grid_model.specs.declared.history.Mark.{Mark}
use Rattle.grid_model.specs.declared.history.Mark.TheVariants.{Nothing, Opened, Fine}
use Rattle.grid_model.specs.declared.parts.NodeId.{NodeId}
use Rattle.grid_model.specs.declared.parts.DeviceId.{DeviceId}
use Rattle.grid_model.specs.Parts.{Parts}
use Rattle.grid_model.specs.Places.{device_at}
use Rattle.grid_model.specs.Problem.{says_opened, says_fine, mark_at, problem_of}
use Rattle.radial_forest.specs.Traversed.{parent_in, node_at}
use Rattle.radial_forest.specs.Forested.{Forested}
use Rattle.radial_forest.specs.Spreading.{switched}
use Rattle.subtree_costs.specs.declared.rows.Row.{Row}
use Rattle.subtree_costs.specs.Shares.{share_of, row_at}
use Rattle.subtree_costs.specs.Trees.{hangs, hanger, devices_up, depth_in, rooted_problem}
use Rattle.subtree_costs.specs.Costed.{Costed, IsCosted, tree_problem, rows_table}
use Rattle.subtree_costs.specs.Walks.{node_up, IsPlace, ChangeAtPlaces, ChangeOnWalks}
use Rattle.subtree_costs.proofs.Hung.{parent_is}
use Rattle.subtree_costs.proofs.Chains.{some_from}
use Rattle.subtree_costs.proofs.Kept.{kept_forest}
use Rattle.subtree_costs.proofs.Reaching.{climbs}

-- two marks are one or differ
same_mark : (a b : Mark) → (a ≡ b) ⊎ (a ≢ b)
same_mark Nothing Nothing = inl refl
same_mark Nothing Opened = inr (λ e. false≢true (ap says_opened e))
same_mark Nothing Fine = inr (λ e. false≢true (ap says_fine e))
same_mark Opened Nothing = inr (λ e. false≢true (ap says_opened (sym e)))
same_mark Opened Opened = inl refl
same_mark Opened Fine = inr (λ e. false≢true (ap says_opened (sym e)))
same_mark Fine Nothing = inr (λ e. false≢true (ap says_fine (sym e)))
same_mark Fine Opened = inr (λ e. false≢true (ap says_opened e))
same_mark Fine Fine = inl refl

same_row : (a b : Row) → a.live ≡ b.live → a.dark ≡ b.dark → a ≡ b
same_row a b live dark = ap (λ x. record { live = x; dark = a.dark }) live ∙ ap (λ x. record { live = b.live; dark = x }) dark

same_term : (b : Bool) (x y : ℕ) → (b ≡ true → x ≡ y) → cond b x 0 ≡ cond b y 0
same_term true x y h = h refl
same_term false x y h = refl

-- no more devices lead up than are counted
one_up : (b : Bool) (x k : ℕ) → x ≤ k → cond b (suc x) 0 ≤ suc k
one_up true x k l = omega arith
one_up false x k l = omega arith

up_most : (net : Network) (parents : List (Option DeviceId)) (k n : ℕ) → devices_up net parents k n ≤ k
up_most net parents zero n = omega arith
up_most net parents (suc k) n =
    let above = other_end net (hanger parents n) n in one_up (hangs parents n) (devices_up net parents k above) k (up_most net parents k above)

-- the node lies on the walk from one of the places, which is a node
record IsAbove (net : Network) (f : Forested) (places : List NodeId) (nodes n : ℕ) : Type 0 where
  place : ℕ
  listed : place < length places
  within : node_at places place < nodes
  steps : ℕ
  few : steps ≤ depth_in net f (node_at places place)
  is : node_up net f.parents steps (node_at places place) ≡ n

module _ (g : Parts) (c c' : Costed) (places : List NodeId) (costed : IsCosted g c) (costed' : IsCosted g c') (change : ChangeAtPlaces g c c' places) where
  abbrev net : Network
  net = switched g c.forest.closed

  abbrev table : Table
  table = rows_table g c.forest c.rows

  abbrev depth : ℕ → ℕ
  depth = depth_in net c.forest

  abbrev child : ℕ → ℕ → Bool
  child n m = is_child (tree_problem g c).net table n m

  abbrev IsOn : ℕ → Type 0
  IsOn n = IsAbove net c.forest places (length g.nodes) n

  -- what a node adds to the row of the node above it
  abbrev add : Costed → ℕ → Row
  add k m = share_of (mark_at k.marks (hanger c.forest.parents m)) (device_at g (hanger c.forest.parents m)).weight (row_at k.rows m)

  exact_after : HasExactRows (rooted_problem (problem_of g c.forest.closed c'.marks c'.dark c'.live) c.forest) (rows_table g c.forest c'.rows)
  exact_after =
      subst (λ f. HasExactRows (rooted_problem (problem_of g f.closed c'.marks c'.dark c'.live) f) (rows_table g f c'.rows)) change.forest costed'.exact

  has_above : (n m : ℕ) → child n m ≡ true → has_parent (tree_problem g c).net table m ≡ true
  has_above n m e = (and_parts (has_parent (tree_problem g c).net table m) (upper net table m == n) e).0

  above_is : (n m : ℕ) → child n m ≡ true → upper net table m ≡ n
  above_is n m e = eqb-true (upper net table m) n (and_parts (has_parent (tree_problem g c).net table m) (upper net table m == n) e).1

  -- a child hangs from a device
  hung : (n m : ℕ) → m < length g.nodes → child n m ≡ true → hangs c.forest.parents m ≡ true
  hung n m l e = sym (parent_is c.forest m (subst (λ k. m < k) (sym costed.posed.forest.parents_each) l)) ∙ has_above n m e

  -- and is one device deeper
  deeper : (n m : ℕ) → m < length g.nodes → child n m ≡ true → depth m ≡ suc (depth n)
  deeper n m l e = ((kept_forest g c costed).parent m l (has_above n m e)).deeper ∙ ap (λ v. suc (depth v)) (above_is n m e)

  depth_most : (n : ℕ) → depth n ≤ length g.nodes
  depth_most n = subst (λ k. depth n ≤ k) costed.posed.forest.parents_each (up_most net c.forest.parents (length c.forest.parents) n)

  -- a place lies on its own walk
  at_place : (n : ℕ) → n < length g.nodes → IsPlace places n → IsOn n
  at_place n l a = record { place = a.0; listed = a.1; within = subst (λ v. v < length g.nodes) (sym a.2) l; steps = 0; few = omega arith; is = a.2 }

  -- the walk through a child goes on to the node above it
  above : (n m : ℕ) → m < length g.nodes → child n m ≡ true → IsOn m → IsOn n
  above n m l e a =
      let climbed = (climbs g c costed (node_at places a.place) a.within a.steps a.few).1 in
      let deep = deeper n m l e in
      let same = ap depth a.is in
      record {
        place = a.place;
        listed = a.listed;
        within = a.within;
        steps = suc a.steps;
        few = omega arith;
        is = ap (λ v. other_end net (hanger c.forest.parents v) v) a.is ∙ above_is n m e;
      }

  -- the row of a node is still the same, or the node lies on a walk
  abbrev Told : ℕ → Type 0
  Told n = (row_at c'.rows n ≡ row_at c.rows n) ⊎ IsOn n

  child_adds : (n m : ℕ) → m < length g.nodes → child n m ≡ true → Told m → (add c' m ≡ add c m) ⊎ IsOn n
  child_adds n m l e (inr a) = inr (above n m l e a)
  child_adds n m l e (inl same) =
      ⊎_elim
      (λ s. inl (ap (λ k. share_of k weight (row_at c'.rows m)) s ∙ ap (share_of (mark_at c.marks d) weight) same))
      (λ ne. inr (above n m l e (at_place m l (change.marks (record { 0 = d }) m l (some_from (parent_in c.forest.parents m) (hung n m l e)) ne))))
      (same_mark (mark_at c'.marks d) (mark_at c.marks d))
    where
      d : ℕ
      d = hanger c.forest.parents m

      weight : ℕ
      weight = (device_at g d).weight

  one_more : (n b : ℕ) → ((m : ℕ) → m < b → child n m ≡ true → add c' m ≡ add c m) → (child n b ≡ true → add c' b ≡ add c b)
      → (m : ℕ) → m < suc b → child n m ≡ true → add c' m ≡ add c m
  one_more n b before here m l =
      ⊎_elim
      (λ lt. before m lt)
      (λ ge. subst (λ v. child n v ≡ true → add c' v ≡ add c v) (let e : b ≡ m = omega arith in e) here)
      (cases_lt m b)

  -- the children below a number add the same, or the node lies on a walk
  children_add : (n b : ℕ) → b ≤ length g.nodes → ((m : ℕ) → m < length g.nodes → child n m ≡ true → Told m)
      → ((m : ℕ) → m < b → child n m ≡ true → add c' m ≡ add c m) ⊎ IsOn n
  children_add n zero le told = inl (λ m l e. absurd (omega arith))
  children_add n (suc b) le told =
      ⊎_elim
      (λ before. ⊎_elim
      (λ t. ⊎_elim (λ same. inl (one_more n b before (λ e. same))) (λ a. inr a) (child_adds n b (omega arith) t (told b (omega arith) t)))
      (λ f. inl (one_more n b before (λ e. absurd (false≢true (sym f ∙ e)))))
      (cases_Bool (child n b)))
      (λ a. inr a)
      (children_add n b (omega arith) told)

  -- where weights and children are the same, so is the row
  row_stays : (n : ℕ) → n < length g.nodes → get_or c'.dark n 0 ≡ get_or c.dark n 0 → get_or c'.live n 0 ≡ get_or c.live n 0
      → ((m : ℕ) → m < length g.nodes → child n m ≡ true → add c' m ≡ add c m) → row_at c'.rows n ≡ row_at c.rows n
  row_stays n l dark live adds =
      same_row (row_at c'.rows n) (row_at c.rows n)
      (exact_after.live n l refl ∙ (ap (λ x. x + total (length g.nodes) (λ m. cond (child n m) (add c' m).live 0)) dark
      ∙ ap (λ x. get_or c.dark n 0 + x) live_same) ∙ sym (costed.exact.live n l refl))
      (exact_after.dark n l refl ∙ (ap (λ x. x + total (length g.nodes) (λ m. cond (child n m) (add c' m).dark 0)) live
      ∙ ap (λ x. get_or c.live n 0 + x) dark_same) ∙ sym (costed.exact.dark n l refl))
    where
      live_same : total (length g.nodes) (λ m. cond (child n m) (add c' m).live 0) ≡ total (length g.nodes) (λ m. cond (child n m) (add c m).live 0)
      live_same = total_same (length g.nodes) (λ m. cond (child n m) (add c' m).live 0) (λ m. cond (child n m) (add c m).live 0)
          (λ m lm. same_term (child n m) (add c' m).live (add c m).live (λ e. ap (λ r. r.live) (adds m lm e)))

      dark_same : total (length g.nodes) (λ m. cond (child n m) (add c' m).dark 0) ≡ total (length g.nodes) (λ m. cond (child n m) (add c m).dark 0)
      dark_same = total_same (length g.nodes) (λ m. cond (child n m) (add c' m).dark 0) (λ m. cond (child n m) (add c m).dark 0)
          (λ m lm. same_term (child n m) (add c' m).dark (add c m).dark (λ e. ap (λ r. r.dark) (adds m lm e)))

  told_by : (n : ℕ) → n < length g.nodes → ((m : ℕ) → m < length g.nodes → child n m ≡ true → Told m) → Told n
  told_by n l told =
      ⊎_elim
      (λ dark. ⊎_elim
      (λ live. ⊎_elim (λ adds. inl (row_stays n l dark live adds)) (λ a. inr a) (children_add n (length g.nodes) (omega arith) told))
      (λ ne. inr (at_place n l (change.live n l ne)))
      (cases_eq (get_or c'.live n 0) (get_or c.live n 0)))
      (λ ne. inr (at_place n l (change.dark n l ne)))
      (cases_eq (get_or c'.dark n 0) (get_or c.dark n 0))

  -- from the deepest nodes up
  told_within : (b n : ℕ) → n < length g.nodes → length g.nodes ≤ depth n + b → Told n
  told_within zero n l far = told_by n l (λ m lm e. let deep = deeper n m lm e in let most = depth_most m in absurd (omega arith))
  told_within (suc b) n l far = told_by n l (λ m lm e. let deep = deeper n m lm e in told_within b m lm (omega arith))

  pub stay : ChangeOnWalks g c c' places
  stay = record {
    forest = change.forest;
    rows = λ n l ne. ⊎_elim (λ same. absurd (ne same)) (λ a. (a.place, a.listed, (a.steps, a.few, a.is))) (told_within (length g.nodes) n l (omega arith));
    marks = λ d low l hung ne. let a = change.marks d low l hung ne in (a.0, a.1, (0, omega arith, a.2));
  }
