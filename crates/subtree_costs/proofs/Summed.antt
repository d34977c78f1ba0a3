-- Rows over an order of all nodes, from the last node to the first.
use Rattle.std.proofs.Common.{◌≡◌, ◌≢◌, ℕ, suc, ◌+◌, ◌<◌, ◌≤◌, min, max, Bool, true, false, cond, refl, sym, ap, ◌∙◌, ⊎_elim, arith}
use Rattle.std.specs.Prelude.{◌==◌, ◌&&◌, nat_le}
use Rattle.std.proofs.lemmas.Bool.{cases_Bool, cases_eq, eqb-true, and_parts, and_left}
use Rattle.outage_rules.specs.Sum.{total, total_from}
use Rattle.outage_rules.specs.Network.{Problem}
use Rattle.outage_rules.specs.Certificate.{Table, has_parent, upper, is_child, choice, dark_share, HasExactRows}
use Rattle.outage_rules.proofs.Sums.{total_add, total_from_all, total_from_none, total_le_times}
use Rattle.subtree_costs.proofs.Added.{row_more, row_same, total_from_le, row_at_most}
use Rattle.subtree_costs.proofs.Placed.{IsPlaced, same_place, by_places, as_many}

-- the table with these costs
abbrev pub with_costs : Table → (ℕ → ℕ) → (ℕ → ℕ) → Table
with_costs t live dark = record t { live_cost = live; dark_cost = dark }

-- an order in which each node stands behind the node that it hangs from
pub record IsBehind (p : Problem) (t : Table) (count : ℕ) (node : ℕ → ℕ) : Type 0 where
  pub placed : IsPlaced p.nodes count node
  pub open placed use *
  pub behind : (k : ℕ) → k < count → has_parent p.net t (node k) ≡ true → (j : ℕ) × (j < k) × (node j ≡ upper p.net t (node k))

-- weights that keep all sums small
pub record IsLight (p : Problem) (t : Table) : Type 0 where
  pub weights : (n : ℕ) → n < p.nodes → has_parent p.net t n ≡ true → p.weight (t.parent n) ≤ 1000000
  pub few : p.nodes ≤ 200000
  pub dark : total p.nodes p.dark_weight ≤ 1000000000000
  pub live : total p.nodes p.live_weight ≤ 1000000000000

-- each row is its weight and what the children from place k of the order on add
pub record AreAdded (p : Problem) (t : Table) (count : ℕ) (node : ℕ → ℕ) (k : ℕ) (live dark : ℕ → ℕ) : Type 0 where
  pub live_rows : (n : ℕ) → n < p.nodes → live n ≡ p.dark_weight n
      + total_from k count (λ j. cond (is_child p.net t n (node j)) (choice p (with_costs t live dark) (node j)) 0)
  pub dark_rows : (n : ℕ) → n < p.nodes → dark n ≡ p.live_weight n
      + total_from k count (λ j. cond (is_child p.net t n (node j)) (dark_share p (with_costs t live dark) (node j)) 0)
  pub small : (n : ℕ) → n < p.nodes → (live n ≤ 2400000000000) × (dark n ≤ 2400000000000)

-- what a child adds by its device and its rows
abbrev pub choice_by : Problem → ℕ → ℕ → ℕ → ℕ
choice_by p d live dark =
    cond (p.marked_open d) (p.weight d + dark) (cond (p.marked_ok d) live (min (p.weight d + dark) live))

abbrev pub share_by : Problem → ℕ → ℕ → ℕ
share_by p d dark = dark + cond (p.marked_open d) (p.weight d) 0

-- a device adds its weight and the greater of the rows below it at most
choice_le : (o k : Bool) (w live dark : ℕ) → cond o (w + dark) (cond k live (min (w + dark) live)) ≤ w + max live dark
choice_le true k w live dark = omega arith
choice_le false true w live dark = omega arith
choice_le false false w live dark = omega arith

share_le : (o : Bool) (w live dark : ℕ) → dark + cond o w 0 ≤ w + max live dark
share_le true w live dark = omega arith
share_le false w live dark = omega arith

cond_le : (b : Bool) (x y : ℕ) → (b ≡ true → x ≤ y) → cond b x 0 ≤ cond b y 0
cond_le true x y h = h refl
cond_le false x y h = omega arith

module _ (p : Problem) (t : Table) (count : ℕ) (node : ℕ → ℕ) (order : IsBehind p t count node) (light : IsLight p t) where
  -- the weight of the device above a place
  abbrev weight_above : ℕ → ℕ
  weight_above j = cond (has_parent p.net t (node j)) (p.weight (t.parent (node j))) 0

  -- the row of a node that stands at no place from k on
  row_is_small : (live dark : ℕ → ℕ) (k : ℕ)
      → ((n : ℕ) → n < p.nodes → live n ≡ p.dark_weight n + total_from k count (λ j. cond (is_child p.net t n (node j)) (choice p (with_costs t live dark) (node j)) 0))
      → ((n : ℕ) → n < p.nodes → dark n ≡ p.live_weight n + total_from k count (λ j. cond (is_child p.net t n (node j)) (dark_share p (with_costs t live dark) (node j)) 0))
      → (f : ℕ) → f < p.nodes → ((j : ℕ) → k ≤ j → j < count → node j ≢ f)
      → (live f ≤ 2400000000000) × (dark f ≤ 2400000000000)
  row_is_small live dark k lives darks f lf free =
      let row = λ (n : ℕ). max (live n) (dark n) in
      let most = row_at_most p.nodes count k node (λ n j. is_child p.net t n (node j)) row
      order.within (same_place p.nodes count node order.placed) alone (λ n. p.dark_weight n + p.live_weight n) weight_above f lf free each in
      let split = total_add p.nodes p.dark_weight p.live_weight in
      let weights = total_le_times count (λ j. cond (nat_le k j) (weight_above j) 0) 1000000 (λ j l. at (nat_le k j) (weight_above j) (light_above j l)) in
      let places = as_many p.nodes count node order.placed in
      let few = light.few in
      let a = light.dark in
      let b = light.live in
      let live_le : live f ≤ row f = omega arith in
      let dark_le : dark f ≤ row f = omega arith in
      (omega arith, omega arith)
    where
      at : (b : Bool) (x : ℕ) → x ≤ 1000000 → cond b x 0 ≤ 1000000
      at true x l = l
      at false x l = omega arith

      light_above : (j : ℕ) → j < count → weight_above j ≤ 1000000
      light_above j l =
          ⊎_elim
          (λ hp. let a = ap (λ b. cond b (p.weight (t.parent (node j))) 0) hp in
          let b = light.weights (node j) (order.within j l) hp in omega arith)
          (λ hp. let a = ap (λ b. cond b (p.weight (t.parent (node j))) 0) hp in omega arith)
          (cases_Bool (has_parent p.net t (node j)))

      alone : (m n j : ℕ) → is_child p.net t m (node j) ≡ true → is_child p.net t n (node j) ≡ true → m ≡ n
      alone m n j cm cn =
          let u = upper p.net t (node j) in
          sym (eqb-true u m (and_parts (has_parent p.net t (node j)) (u == m) cm).1) ∙ eqb-true u n (and_parts (has_parent p.net t (node j)) (u == n) cn).1

      each : (n : ℕ) → n < p.nodes → max (live n) (dark n)
          ≤ (p.dark_weight n + p.live_weight n) + total_from k count (λ j. cond (is_child p.net t n (node j)) (weight_above j + max (live (node j)) (dark (node j))) 0)
      each n l =
          let a = lives n l in
          let b = darks n l in
          let most = λ (j : ℕ). cond (is_child p.net t n (node j)) (weight_above j + max (live (node j)) (dark (node j))) 0 in
          let c = total_from_le k count (λ j. cond (is_child p.net t n (node j)) (choice p (with_costs t live dark) (node j)) 0) most (λ j le lj. live_at n j) in
          let e = total_from_le k count (λ j. cond (is_child p.net t n (node j)) (dark_share p (with_costs t live dark) (node j)) 0) most (λ j le lj. dark_at n j) in
          omega arith
        where
          weighs : (n j : ℕ) → is_child p.net t n (node j) ≡ true → weight_above j ≡ p.weight (t.parent (node j))
          weighs n j c = ap (λ b. cond b (p.weight (t.parent (node j))) 0) (and_parts (has_parent p.net t (node j)) (upper p.net t (node j) == n) c).0

          live_at : (n j : ℕ) → cond (is_child p.net t n (node j)) (choice p (with_costs t live dark) (node j)) 0
              ≤ cond (is_child p.net t n (node j)) (weight_above j + max (live (node j)) (dark (node j))) 0
          live_at n j = cond_le (is_child p.net t n (node j)) _ _ (λ c.
              let d = t.parent (node j) in
              let w = weighs n j c in
              let le = choice_le (p.marked_open d) (p.marked_ok d) (p.weight d) (live (node j)) (dark (node j)) in omega arith)

          dark_at : (n j : ℕ) → cond (is_child p.net t n (node j)) (dark_share p (with_costs t live dark) (node j)) 0
              ≤ cond (is_child p.net t n (node j)) (weight_above j + max (live (node j)) (dark (node j))) 0
          dark_at n j = cond_le (is_child p.net t n (node j)) _ _ (λ c.
              let d = t.parent (node j) in
              let w = weighs n j c in
              let le = share_le (p.marked_open d) (p.weight d) (live (node j)) (dark (node j)) in omega arith)

  -- at first each row is its weight
  pub added_none : (live dark : ℕ → ℕ) → ((n : ℕ) → n < p.nodes → live n ≡ p.dark_weight n) → ((n : ℕ) → n < p.nodes → dark n ≡ p.live_weight n)
      → ((n : ℕ) → n < p.nodes → (p.dark_weight n ≤ 2400000000000) × (p.live_weight n ≤ 2400000000000)) → AreAdded p t count node count live dark
  added_none live dark live_is dark_is small = record {
    live_rows = λ n l. let none = total_from_none count (λ j. cond (is_child p.net t n (node j)) (choice p (with_costs t live dark) (node j)) 0) in let e = live_is n l in omega arith;
    dark_rows = λ n l. let none = total_from_none count (λ j. cond (is_child p.net t n (node j)) (dark_share p (with_costs t live dark) (node j)) 0) in let e = dark_is n l in omega arith;
    small = λ n l. let s = small n l in let a = live_is n l in let b = dark_is n l in (omega (arith, s.0), omega (arith, s.1));
  }

  module _ (live dark live' dark' : ℕ → ℕ) (k : ℕ) (l : k < count) (later : AreAdded p t count node (suc k) live dark) where
    -- a root adds nothing
    pub passed_over : has_parent p.net t (node k) ≡ false → AreAdded p t count node k live dark
    passed_over hp = record {
      live_rows = λ n ln. row_same count k (λ n j. is_child p.net t n (node j)) p.dark_weight live (λ j. choice p (with_costs t live dark) (node j)) l n (none n) (later.live_rows n ln);
      dark_rows = λ n ln. row_same count k (λ n j. is_child p.net t n (node j)) p.live_weight dark (λ j. dark_share p (with_costs t live dark) (node j)) l n (none n) (later.dark_rows n ln);
      small = later.small;
    }
      where
        none : (n : ℕ) → is_child p.net t n (node k) ≡ false
        none n = and_left (has_parent p.net t (node k)) (upper p.net t (node k) == n) hp

    -- another node adds to the rows of its upper node
    module _ (hp : has_parent p.net t (node k) ≡ true)
        (live_kept : (n : ℕ) → n ≢ upper p.net t (node k) → live' n ≡ live n)
        (dark_kept : (n : ℕ) → n ≢ upper p.net t (node k) → dark' n ≡ dark n) where
      u : ℕ
      u = upper p.net t (node k)

      -- the upper node stands at an earlier place
      pub apart : (j : ℕ) → k ≤ j → j < count → node j ≢ upper p.net t (node k)
      apart j le lj e = let a = order.behind k l hp in order.once a.0 j (let b = a.1 in omega arith) lj (a.2 ∙ sym e)

      pub added_more : live' (upper p.net t (node k)) ≡ live (upper p.net t (node k)) + choice p (with_costs t live dark) (node k)
          → dark' (upper p.net t (node k)) ≡ dark (upper p.net t (node k)) + dark_share p (with_costs t live dark) (node k)
          → AreAdded p t count node k live' dark'
      added_more live_is dark_is = record { live_rows = lives; dark_rows = darks; small = small }
        where
          live_same : (j : ℕ) → k ≤ j → j < count → choice p (with_costs t live' dark') (node j) ≡ choice p (with_costs t live dark) (node j)
          live_same j le lj =
              ap (λ a. choice_by p (t.parent (node j)) a (dark' (node j))) (live_kept (node j) (apart j le lj))
              ∙ ap (λ b. choice_by p (t.parent (node j)) (live (node j)) b) (dark_kept (node j) (apart j le lj))

          dark_same : (j : ℕ) → k ≤ j → j < count → dark_share p (with_costs t live' dark') (node j) ≡ dark_share p (with_costs t live dark) (node j)
          dark_same j le lj = ap (λ b. share_by p (t.parent (node j)) b) (dark_kept (node j) (apart j le lj))

          child_is : (n : ℕ) → is_child p.net t n (node k) ≡ (upper p.net t (node k) == n)
          child_is n = ap (λ b. b && (upper p.net t (node k) == n)) hp

          lives : (n : ℕ) → n < p.nodes → live' n ≡ p.dark_weight n + total_from k count (λ j. cond (is_child p.net t n (node j)) (choice p (with_costs t live' dark') (node j)) 0)
          lives n ln =
              row_more count k (upper p.net t (node k)) (λ n j. is_child p.net t n (node j)) p.dark_weight live live' (λ j. choice p (with_costs t live dark) (node j)) (λ j. choice p (with_costs t live' dark') (node j)) l child_is
              live_kept (live_is ∙ ap (λ z. live (upper p.net t (node k)) + z) (sym (live_same k (omega arith) l))) (λ j le lj. live_same j (omega arith) lj) n (later.live_rows n ln)

          darks : (n : ℕ) → n < p.nodes → dark' n ≡ p.live_weight n + total_from k count (λ j. cond (is_child p.net t n (node j)) (dark_share p (with_costs t live' dark') (node j)) 0)
          darks n ln =
              row_more count k (upper p.net t (node k)) (λ n j. is_child p.net t n (node j)) p.live_weight dark dark' (λ j. dark_share p (with_costs t live dark) (node j)) (λ j. dark_share p (with_costs t live' dark') (node j)) l child_is
              dark_kept (dark_is ∙ ap (λ z. dark (upper p.net t (node k)) + z) (sym (dark_same k (omega arith) l))) (λ j le lj. dark_same j (omega arith) lj) n (later.dark_rows n ln)

          small : (n : ℕ) → n < p.nodes → (live' n ≤ 2400000000000) × (dark' n ≤ 2400000000000)
          small n ln =
              ⊎_elim
              (λ e. row_is_small live' dark' k lives darks n ln (λ j le lj s. apart j le lj (s ∙ e)))
              (λ ne. let was = later.small n ln in let a = live_kept n ne in let b = dark_kept n ne in (omega (arith, was.0), omega (arith, was.1)))
              (cases_eq n (upper p.net t (node k)))

  -- from the first place on the rows are exact
  pub exact : (live dark : ℕ → ℕ) → AreAdded p t count node 0 live dark → HasExactRows p (with_costs t live dark)
  exact live dark all = record {
    live = λ n l e. all.live_rows n l ∙ ap (λ x. p.dark_weight n + x) (over n (choice p (with_costs t live dark)));
    dark = λ n l e. all.dark_rows n l ∙ ap (λ x. p.live_weight n + x) (over n (dark_share p (with_costs t live dark)));
  }
    where
      over : (n : ℕ) (f : ℕ → ℕ) → total_from 0 count (λ j. cond (is_child p.net t n (node j)) (f (node j)) 0) ≡ total p.nodes (λ m. cond (is_child p.net t n m) (f m) 0)
      over n f =
          total_from_all count (λ j. cond (is_child p.net t n (node j)) (f (node j)) 0)
          ∙ by_places p.nodes count node order.placed (λ m. cond (is_child p.net t n m) (f m) 0)
