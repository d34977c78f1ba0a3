-- The rows of a problem over an order of its fed nodes, from the last node to the first.
use Rattle.std.proofs.Common.{◌≡◌, ◌≢◌, ℕ, suc, ◌+◌, ◌<◌, ◌≤◌, min, max, Bool, true, false, cond, refl, sym, ap, ◌∙◌, ⊎_elim, arith, length}
use Rattle.std.specs.Prelude.{◌==◌, ◌&&◌, not, nat_le}
use Rattle.std.proofs.lemmas.Bool.{cases_Bool, cases_eq, eqb-true, and_parts, and_left}
use Rattle.outage_rules.specs.Sum.{total, total_from}
use Rattle.outage_rules.specs.Network.{Problem, IsSoundNetwork}
use Rattle.outage_rules.specs.Certificate.{has_parent, upper, is_child, choice, dark_share, IsRooted, HasExactRows}
use Rattle.outage_rules.proofs.Sums.{total_add, total_from_all, total_from_none, total_le_times}
use Rattle.radial_forest.specs.Traversed.{Traversed, node_at, table_of, IsOrder}
use Rattle.diagnosis.specs.Passes.{with_rows}
use Rattle.diagnosis.proofs.Order.{same_place, by_places, few_places}
use Rattle.diagnosis.proofs.Added.{row_more, row_same, total_from_le, row_at_most}

-- each row is its weight and what the children from place k of the order on add
pub record AreAdded (p : Problem) (v : Traversed) (k : ℕ) (live dark : ℕ → ℕ) : Type 0 where
  pub live_rows : (n : ℕ) → n < p.nodes → live n ≡ p.dark_weight n
      + total_from k (length v.order) (λ j. cond (is_child p.net (with_rows v live dark) n (node_at v.order j)) (choice p (with_rows v live dark) (node_at v.order j)) 0)
  pub dark_rows : (n : ℕ) → n < p.nodes → dark n ≡ p.live_weight n
      + total_from k (length v.order) (λ j. cond (is_child p.net (with_rows v live dark) n (node_at v.order j)) (dark_share p (with_rows v live dark) (node_at v.order j)) 0)
  pub small : (n : ℕ) → n < p.nodes → (live n ≤ 2400000000000) × (dark n ≤ 2400000000000)

-- weights that keep all sums small
pub record IsLight (p : Problem) : Type 0 where
  pub weights : (d : ℕ) → d < p.devices → p.weight d ≤ 1000000
  pub few : p.nodes ≤ 200000
  pub dark : total p.nodes p.dark_weight ≤ 1000000000000
  pub live : total p.nodes p.live_weight ≤ 1000000000000

-- what a child adds by its device and its rows
abbrev pub choice_by : Problem → ℕ → ℕ → ℕ → ℕ
choice_by p d live dark =
    cond (p.marked_open d) (p.weight d + dark) (cond (p.marked_ok d) live (min (p.weight d + dark) live))

abbrev pub share_by : Problem → ℕ → ℕ → ℕ
share_by p d dark = dark + cond (p.marked_open d) (p.weight d) 0

-- a device adds its weight and the greater of the rows below it at most
choice_le : (o k : Bool) (w live dark : ℕ) → cond o (w + dark) (cond k live (min (w + dark) live)) ≤ w + max live dark
choice_le true k w live dark = omega arith
choice_le false true w live dark = omega arith
choice_le false false w live dark = omega arith

share_le : (o : Bool) (w live dark : ℕ) → dark + cond o w 0 ≤ w + max live dark
share_le true w live dark = omega arith
share_le false w live dark = omega arith

cond_le : (b : Bool) (x y : ℕ) → (b ≡ true → x ≤ y) → cond b x 0 ≤ cond b y 0
cond_le true x y h = h refl
cond_le false x y h = omega arith

-- the weight of the device above a place
abbrev weight_above : Problem → Traversed → ℕ → ℕ
weight_above p v j = cond (has_parent p.net (table_of v) (node_at v.order j)) (p.weight ((table_of v).parent (node_at v.order j))) 0

module _ (p : Problem) (v : Traversed) (sound : IsSoundNetwork p.net) (rooted : IsRooted p.net (table_of v)) (order : IsOrder p.net v) (light : IsLight p) where
  -- the row of a node that stands at no place from k on
  row_is_small : (live dark : ℕ → ℕ) (k : ℕ)
      → ((n : ℕ) → n < p.nodes → live n ≡ p.dark_weight n + total_from k (length v.order) (λ j. cond (is_child p.net (table_of v) n (node_at v.order j)) (choice p (with_rows v live dark) (node_at v.order j)) 0))
      → ((n : ℕ) → n < p.nodes → dark n ≡ p.live_weight n + total_from k (length v.order) (λ j. cond (is_child p.net (table_of v) n (node_at v.order j)) (dark_share p (with_rows v live dark) (node_at v.order j)) 0))
      → (f : ℕ) → f < p.nodes → ((j : ℕ) → k ≤ j → j < length v.order → node_at v.order j ≢ f)
      → (live f ≤ 2400000000000) × (dark f ≤ 2400000000000)
  row_is_small live dark k lives darks f lf free =
      let row = λ (n : ℕ). max (live n) (dark n) in
      let most = row_at_most p.nodes (length v.order) k (node_at v.order) (λ n j. is_child p.net (table_of v) n (node_at v.order j)) row
      (λ j l. (order.listed j l).0) (same_place p.net v order) alone (λ n. p.dark_weight n + p.live_weight n) (weight_above p v) f lf free each in
      let split = total_add p.nodes p.dark_weight p.live_weight in
      let weights = total_le_times (length v.order) (λ j. cond (nat_le k j) (weight_above p v j) 0) 1000000 (λ j l. at (nat_le k j) (weight_above p v j) (light_above j l)) in
      let places = few_places p.net v order in
      let few = light.few in
      let a = light.dark in
      let b = light.live in
      let live_le : live f ≤ row f = omega arith in
      let dark_le : dark f ≤ row f = omega arith in
      (omega arith, omega arith)
    where
      at : (b : Bool) (x : ℕ) → x ≤ 1000000 → cond b x 0 ≤ 1000000
      at true x l = l
      at false x l = omega arith

      light_above : (j : ℕ) → j < length v.order → weight_above p v j ≤ 1000000
      light_above j l =
          ⊎_elim
          (λ hp. let a = ap (λ b. cond b (p.weight ((table_of v).parent (node_at v.order j))) 0) hp in
          let b = light.weights ((table_of v).parent (node_at v.order j)) (rooted.parent (node_at v.order j) (order.listed j l).0 hp).within in omega arith)
          (λ hp. let a = ap (λ b. cond b (p.weight ((table_of v).parent (node_at v.order j))) 0) hp in omega arith)
          (cases_Bool (has_parent p.net (table_of v) (node_at v.order j)))

      alone : (m n j : ℕ) → is_child p.net (table_of v) m (node_at v.order j) ≡ true → is_child p.net (table_of v) n (node_at v.order j) ≡ true → m ≡ n
      alone m n j cm cn =
          let x = node_at v.order j in
          let u = upper p.net (table_of v) x in
          sym (eqb-true u m (and_parts (has_parent p.net (table_of v) x) (u == m) cm).1) ∙ eqb-true u n (and_parts (has_parent p.net (table_of v) x) (u == n) cn).1

      each : (n : ℕ) → n < p.nodes → max (live n) (dark n)
          ≤ (p.dark_weight n + p.live_weight n) + total_from k (length v.order) (λ j. cond (is_child p.net (table_of v) n (node_at v.order j)) (weight_above p v j + max (live (node_at v.order j)) (dark (node_at v.order j))) 0)
      each n l =
          let a = lives n l in
          let b = darks n l in
          let most = λ (j : ℕ). cond (is_child p.net (table_of v) n (node_at v.order j)) (weight_above p v j + max (live (node_at v.order j)) (dark (node_at v.order j))) 0 in
          let c = total_from_le k (length v.order) (λ j. cond (is_child p.net (table_of v) n (node_at v.order j)) (choice p (with_rows v live dark) (node_at v.order j)) 0) most (λ j le lj. live_at n j) in
          let e = total_from_le k (length v.order) (λ j. cond (is_child p.net (table_of v) n (node_at v.order j)) (dark_share p (with_rows v live dark) (node_at v.order j)) 0) most (λ j le lj. dark_at n j) in
          omega arith
        where
          weighs : (n j : ℕ) → is_child p.net (table_of v) n (node_at v.order j) ≡ true → weight_above p v j ≡ p.weight ((table_of v).parent (node_at v.order j))
          weighs n j c = ap (λ b. cond b (p.weight ((table_of v).parent (node_at v.order j))) 0) (and_parts (has_parent p.net (table_of v) (node_at v.order j)) (upper p.net (table_of v) (node_at v.order j) == n) c).0

          live_at : (n j : ℕ) → cond (is_child p.net (table_of v) n (node_at v.order j)) (choice p (with_rows v live dark) (node_at v.order j)) 0
              ≤ cond (is_child p.net (table_of v) n (node_at v.order j)) (weight_above p v j + max (live (node_at v.order j)) (dark (node_at v.order j))) 0
          live_at n j = cond_le (is_child p.net (table_of v) n (node_at v.order j)) _ _ (λ c.
              let d = (table_of v).parent (node_at v.order j) in
              let w = weighs n j c in
              let le = choice_le (p.marked_open d) (p.marked_ok d) (p.weight d) (live (node_at v.order j)) (dark (node_at v.order j)) in omega arith)

          dark_at : (n j : ℕ) → cond (is_child p.net (table_of v) n (node_at v.order j)) (dark_share p (with_rows v live dark) (node_at v.order j)) 0
              ≤ cond (is_child p.net (table_of v) n (node_at v.order j)) (weight_above p v j + max (live (node_at v.order j)) (dark (node_at v.order j))) 0
          dark_at n j = cond_le (is_child p.net (table_of v) n (node_at v.order j)) _ _ (λ c.
              let d = (table_of v).parent (node_at v.order j) in
              let w = weighs n j c in
              let le = share_le (p.marked_open d) (p.weight d) (live (node_at v.order j)) (dark (node_at v.order j)) in omega arith)

  -- at first each row is its weight
  pub added_none : ((n : ℕ) → n < p.nodes → (p.dark_weight n ≤ 2400000000000) × (p.live_weight n ≤ 2400000000000)) → AreAdded p v (length v.order) p.dark_weight p.live_weight
  added_none small = record {
    live_rows = λ n l. let none = total_from_none (length v.order) (λ j. cond (is_child p.net (table_of v) n (node_at v.order j)) (choice p (with_rows v p.dark_weight p.live_weight) (node_at v.order j)) 0) in omega arith;
    dark_rows = λ n l. let none = total_from_none (length v.order) (λ j. cond (is_child p.net (table_of v) n (node_at v.order j)) (dark_share p (with_rows v p.dark_weight p.live_weight) (node_at v.order j)) 0) in omega arith;
    small = small;
  }

  module _ (live dark live' dark' : ℕ → ℕ) (k : ℕ) (l : k < length v.order) (later : AreAdded p v (suc k) live dark) where
    -- a source adds nothing
    pub passed_over : has_parent p.net (table_of v) (node_at v.order k) ≡ false → AreAdded p v k live dark
    passed_over hp = record {
      live_rows = λ n ln. row_same (length v.order) k (λ n j. is_child p.net (table_of v) n (node_at v.order j)) p.dark_weight live (λ j. choice p (with_rows v live dark) (node_at v.order j)) l n (none n) (later.live_rows n ln);
      dark_rows = λ n ln. row_same (length v.order) k (λ n j. is_child p.net (table_of v) n (node_at v.order j)) p.live_weight dark (λ j. dark_share p (with_rows v live dark) (node_at v.order j)) l n (none n) (later.dark_rows n ln);
      small = later.small;
    }
      where
        none : (n : ℕ) → is_child p.net (table_of v) n (node_at v.order k) ≡ false
        none n = and_left (has_parent p.net (table_of v) (node_at v.order k)) (upper p.net (table_of v) (node_at v.order k) == n) hp

    -- another node adds to the rows of its upper node
    pub added_more : has_parent p.net (table_of v) (node_at v.order k) ≡ true
        → ((n : ℕ) → n ≢ upper p.net (table_of v) (node_at v.order k) → live' n ≡ live n)
        → ((n : ℕ) → n ≢ upper p.net (table_of v) (node_at v.order k) → dark' n ≡ dark n)
        → live' (upper p.net (table_of v) (node_at v.order k)) ≡ live (upper p.net (table_of v) (node_at v.order k)) + choice p (with_rows v live dark) (node_at v.order k)
        → dark' (upper p.net (table_of v) (node_at v.order k)) ≡ dark (upper p.net (table_of v) (node_at v.order k)) + dark_share p (with_rows v live dark) (node_at v.order k)
        → AreAdded p v k live' dark'
    added_more hp live_kept dark_kept live_is dark_is = record { live_rows = lives; dark_rows = darks; small = small }
      where
        u : ℕ
        u = upper p.net (table_of v) (node_at v.order k)

        -- the upper node stands at an earlier place
        apart : (j : ℕ) → k ≤ j → j < length v.order → node_at v.order j ≢ u
        apart j le lj e = let a = order.after_upper k l hp in order.once a.0 j (let b = a.1 in omega arith) lj (a.2 ∙ sym e)

        live_same : (j : ℕ) → k ≤ j → j < length v.order → choice p (with_rows v live' dark') (node_at v.order j) ≡ choice p (with_rows v live dark) (node_at v.order j)
        live_same j le lj =
            ap (λ a. choice_by p ((table_of v).parent (node_at v.order j)) a (dark' (node_at v.order j))) (live_kept (node_at v.order j) (apart j le lj))
            ∙ ap (λ b. choice_by p ((table_of v).parent (node_at v.order j)) (live (node_at v.order j)) b) (dark_kept (node_at v.order j) (apart j le lj))

        dark_same : (j : ℕ) → k ≤ j → j < length v.order → dark_share p (with_rows v live' dark') (node_at v.order j) ≡ dark_share p (with_rows v live dark) (node_at v.order j)
        dark_same j le lj = ap (λ b. share_by p ((table_of v).parent (node_at v.order j)) b) (dark_kept (node_at v.order j) (apart j le lj))

        child_is : (n : ℕ) → is_child p.net (table_of v) n (node_at v.order k) ≡ (u == n)
        child_is n = ap (λ b. b && (upper p.net (table_of v) (node_at v.order k) == n)) hp

        lives : (n : ℕ) → n < p.nodes → live' n ≡ p.dark_weight n + total_from k (length v.order) (λ j. cond (is_child p.net (table_of v) n (node_at v.order j)) (choice p (with_rows v live' dark') (node_at v.order j)) 0)
        lives n ln =
            row_more (length v.order) k u (λ n j. is_child p.net (table_of v) n (node_at v.order j)) p.dark_weight live live' (λ j. choice p (with_rows v live dark) (node_at v.order j)) (λ j. choice p (with_rows v live' dark') (node_at v.order j)) l child_is
            live_kept (live_is ∙ ap (λ z. live u + z) (sym (live_same k (omega arith) l))) (λ j le lj. live_same j (omega arith) lj) n (later.live_rows n ln)

        darks : (n : ℕ) → n < p.nodes → dark' n ≡ p.live_weight n + total_from k (length v.order) (λ j. cond (is_child p.net (table_of v) n (node_at v.order j)) (dark_share p (with_rows v live' dark') (node_at v.order j)) 0)
        darks n ln =
            row_more (length v.order) k u (λ n j. is_child p.net (table_of v) n (node_at v.order j)) p.live_weight dark dark' (λ j. dark_share p (with_rows v live dark) (node_at v.order j)) (λ j. dark_share p (with_rows v live' dark') (node_at v.order j)) l child_is
            dark_kept (dark_is ∙ ap (λ z. dark u + z) (sym (dark_same k (omega arith) l))) (λ j le lj. dark_same j (omega arith) lj) n (later.dark_rows n ln)

        small : (n : ℕ) → n < p.nodes → (live' n ≤ 2400000000000) × (dark' n ≤ 2400000000000)
        small n ln =
            ⊎_elim
            (λ e. row_is_small live' dark' k lives darks n ln (λ j le lj s. apart j le lj (s ∙ e)))
            (λ ne. let was = later.small n ln in let a = live_kept n ne in let b = dark_kept n ne in (omega (arith, was.0), omega (arith, was.1)))
            (cases_eq n u)

  -- from the first place on the rows are exact
  pub exact : (live dark : ℕ → ℕ) → AreAdded p v 0 live dark → HasExactRows p (with_rows v live dark)
  exact live dark all = record {
    live = λ n l e. all.live_rows n l ∙ ap (λ x. p.dark_weight n + x) (over n (choice p (with_rows v live dark)));
    dark = λ n l e. all.dark_rows n l ∙ ap (λ x. p.live_weight n + x) (over n (dark_share p (with_rows v live dark)));
  }
    where
      over : (n : ℕ) (f : ℕ → ℕ) → total_from 0 (length v.order) (λ j. cond (is_child p.net (table_of v) n (node_at v.order j)) (f (node_at v.order j)) 0) ≡ total p.nodes (λ m. cond (is_child p.net (table_of v) n m) (f m) 0)
      over n f =
          total_from_all (length v.order) (λ j. cond (is_child p.net (table_of v) n (node_at v.order j)) (f (node_at v.order j)) 0)
          ∙ by_places p.net v order (λ m. cond (is_child p.net (table_of v) n m) (f m) 0)
          (λ m l un. ap (λ b. cond b (f m) 0) (and_left (has_parent p.net (table_of v) m) (upper p.net (table_of v) m == n) (and_left ((table_of v).is_listed m) (not (p.is_source m)) un)))
