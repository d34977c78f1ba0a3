-- The cost of a cut, added up along the forest.
use Rattle.std.proofs.Common.{◌≡◌, ◌≢◌, ℕ, ◌+◌, ◌<◌, Bool, true, false, cond, refl, sym, ap, ◌∙◌, ⊎_elim, arith}
use Rattle.std.specs.Prelude.{◌||◌, ◌&&◌, not, ◌==◌}
use Rattle.std.proofs.lemmas.Bool.{cases_Bool, and_from, and_parts, and_left, and_right, false≢true, eq-eqb, eqb-true, ne_eqb, not_from_false, false_from_ne_true}
use Rattle.outage_rules.specs.Sum.{total}
use Rattle.outage_rules.specs.Network.{Problem, Cut, IsSound}
use Rattle.outage_rules.specs.Certificate.{Table, has_parent, upper, cut_above, lit, is_child, cost_by_table, bound_of, IsForest, HasParent}
use Rattle.outage_rules.proofs.Sums.{total_same, total_zero, total_add, total_swap, total_one}
use Rattle.outage_rules.proofs.Rooted.{parent_ends, up_within, chain}

not_or : (a b : Bool) → not (a || b) ≡ (not b && not a)
not_or true true = refl
not_or true false = refl
not_or false true = refl
not_or false false = refl

pub cond_zero : (b : Bool) → ◌≡◌ {A = ℕ} (cond b 0 0) 0
cond_zero true = refl
cond_zero false = refl

pub and_true : (b : Bool) → (b && true) ≡ b
and_true true = refl
and_true false = refl

pub cond_add : (b : Bool) (x y : ℕ) → cond b (x + y) 0 ≡ cond b x 0 + cond b y 0
cond_add true x y = refl
cond_add false x y = refl

pub value_split : (b s : Bool) (v x : ℕ) → (s ≡ true → b ≡ true) → (s ≡ true → v ≡ x) → cond b v 0 ≡ cond s x 0 + cond (b && not s) v 0
value_split true true v x h k = let e = k refl in omega arith
value_split true false v x h k = omega arith
value_split false true v x h k = absurd (false≢true (h refl))
value_split false false v x h k = omega arith

pull_split : (b on : Bool) (x y : ℕ) → (b ≡ false → on ≡ false) → cond on x y ≡ cond b (cond on x y) 0 + cond b 0 y
pull_split true on x y h = omega arith
pull_split false true x y h = absurd (false≢true (sym (h refl)))
pull_split false false x y h = omega arith

-- what a device of the cut costs, what a node's reports cost, and what its row says
abbrev pub charge : Problem → Cut → ℕ → ℕ
charge p cut d = cond (cut d) (p.weight d) 0

abbrev pub pull : Problem → Table → Cut → ℕ → ℕ
pull p t cut n = cond (lit p.net t cut n) (p.dark_weight n) (p.live_weight n)

abbrev pub value : Problem → Table → Cut → ℕ → ℕ
value p t cut n = cond (lit p.net t cut n) (t.live_cost n) (t.dark_cost n)

abbrev pub share : Problem → Table → Cut → ℕ → ℕ
share p t cut m = charge p cut (t.parent m) + value p t cut m

-- marked open, between unlisted nodes
abbrev pub is_apart : Problem → Table → ℕ → Bool
is_apart p t d = p.marked_open d && (not (t.is_listed (p.from d)) && not (t.is_listed (p.to d)))

-- at most this, by the node's reports and its children
abbrev pub allowed : Problem → Table → Cut → ℕ → ℕ
allowed p t cut n = pull p t cut n + total p.nodes (λ m. cond (is_child p.net t n m) (share p t cut m) 0)

-- what the table says of a device: it is a parent device, or marked open between unlisted nodes
abbrev pub accounted : Problem → Table → Cut → ℕ → ℕ
accounted p t cut d = total p.nodes (λ m. cond (has_parent p.net t m && (t.parent m == d)) (charge p cut d) 0) + cond (is_apart p t d) (p.weight d) 0

module _ (p : Problem) (t : Table) (cut : Cut) (sound : IsSound p) (forest : IsForest p.net t) where
  pub lit_source : (n : ℕ) → n < p.nodes → p.is_source n ≡ true → lit p.net t cut n ≡ true
  lit_source n l s =
      let a = forest.source n l s in
      and_from (t.is_listed n) (not (cut_above p.net t cut (t.depth n) n)) a.0
      (not_from_false (cut_above p.net t cut (t.depth n) n) (ap (λ k. cut_above p.net t cut k n) a.1))

  pub lit_unlisted : (n : ℕ) → t.is_listed n ≡ false → lit p.net t cut n ≡ false
  lit_unlisted n u = and_left (t.is_listed n) (not (cut_above p.net t cut (t.depth n) n)) u

  pub lit_child : (m : ℕ) → m < p.nodes → has_parent p.net t m ≡ true → lit p.net t cut m ≡ (lit p.net t cut (upper p.net t m) && not (cut (t.parent m)))
  lit_child m l hp =
      let h = forest.parent m l hp in
      let ca = cut_above p.net t cut (t.depth (upper p.net t m)) (upper p.net t m) in
      ap (λ b. b && not (cut_above p.net t cut (t.depth m) m)) (and_parts (t.is_listed m) (not (p.is_source m)) hp).0
      ∙ ap not (chain p.net t cut sound.net forest.rooted m hp h)
      ∙ not_or (cut (t.parent m)) ca
      ∙ ap (λ b. (b && not ca) && not (cut (t.parent m))) (sym h.listed)

  -- a sum over each listed node's children is a sum over the nodes with a parent
  pub by_parent : (f : ℕ → ℕ) → total p.nodes (λ n. cond (t.is_listed n) (total p.nodes (λ m. cond (is_child p.net t n m) (f m) 0)) 0) ≡ total p.nodes (λ m. cond (has_parent p.net t m) (f m) 0)
  by_parent f =
      total_same p.nodes _ (λ n. total p.nodes (λ m. cond (t.is_listed n) (cond (is_child p.net t n m) (f m) 0) 0)) (λ n l. inside (t.is_listed n) n)
      ∙ total_swap p.nodes p.nodes (λ n m. cond (t.is_listed n) (cond (is_child p.net t n m) (f m) 0) 0)
      ∙ total_same p.nodes _ (λ m. cond (has_parent p.net t m) (f m) 0) (λ m l. one m l)
    where
      inside : (b : Bool) (n : ℕ) → cond b (total p.nodes (λ m. cond (is_child p.net t n m) (f m) 0)) 0 ≡ total p.nodes (λ m. cond b (cond (is_child p.net t n m) (f m) 0) 0)
      inside true n = refl
      inside false n = sym (total_zero p.nodes (λ m. 0) (λ k l. refl))

      other : (m n : ℕ) → n ≢ upper p.net t m → cond (t.is_listed n) (cond (is_child p.net t n m) (f m) 0) 0 ≡ 0
      other m n ne =
          ap (λ b. cond (t.is_listed n) (cond b (f m) 0) 0) (and_right (has_parent p.net t m) (upper p.net t m == n) (ne_eqb (upper p.net t m) n (λ e. ne (sym e))))
          ∙ cond_zero (t.is_listed n)

      none : (m n : ℕ) → has_parent p.net t m ≡ false → cond (t.is_listed n) (cond (is_child p.net t n m) (f m) 0) 0 ≡ 0
      none m n hp =
          ap (λ b. cond (t.is_listed n) (cond b (f m) 0) 0) (and_left (has_parent p.net t m) (upper p.net t m == n) hp)
          ∙ cond_zero (t.is_listed n)

      one : (m : ℕ) → m < p.nodes → total p.nodes (λ n. cond (t.is_listed n) (cond (is_child p.net t n m) (f m) 0) 0) ≡ cond (has_parent p.net t m) (f m) 0
      one m l =
          ⊎_elim
          (λ hp. let h = forest.parent m l hp in
          total_one p.nodes (λ n. cond (t.is_listed n) (cond (is_child p.net t n m) (f m) 0) 0) (upper p.net t m) (up_within p.net t cut sound.net forest.rooted m h) (λ k lk ne. other m k ne)
          ∙ ap (λ b. cond b (cond (is_child p.net t (upper p.net t m) m) (f m) 0) 0) h.listed
          ∙ ap (λ b. cond b (f m) 0) (ap (λ b. has_parent p.net t m && b) (eq-eqb (upper p.net t m) (upper p.net t m) refl) ∙ and_true (has_parent p.net t m)))
          (λ hp. total_zero p.nodes _ (λ k lk. none m k hp) ∙ sym (ap (λ b. cond b (f m) 0) hp))
          (cases_Bool (has_parent p.net t m))

  -- two nodes with one parent device are one
  pub same_child : (i j d : ℕ) → i < p.nodes → j < p.nodes → (has_parent p.net t i && (t.parent i == d)) ≡ true → (has_parent p.net t j && (t.parent j == d)) ≡ true → i ≡ j
  same_child i j d li lj ti tj =
      let pi = and_parts (has_parent p.net t i) (t.parent i == d) ti in
      let pj = and_parts (has_parent p.net t j) (t.parent j == d) tj in
      let hi = forest.parent i li pi.0 in
      let hj = forest.parent j lj pj.0 in
      let same : t.parent i ≡ t.parent j = eqb-true (t.parent i) d pi.1 ∙ sym (eqb-true (t.parent j) d pj.1) in
      ⊎_elim
      (λ a. ⊎_elim
      (λ b. sym a.0 ∙ ap p.from same ∙ b.0)
      (λ b. absurd (crossed i j hi hj (sym a.1 ∙ ap p.to same ∙ b.0) (sym b.1 ∙ ap p.from (sym same) ∙ a.0)))
      (parent_ends p.net t cut sound.net forest.rooted j hj))
      (λ a. ⊎_elim
      (λ b. absurd (crossed i j hi hj (sym a.1 ∙ ap p.from same ∙ b.0) (sym b.1 ∙ ap p.to (sym same) ∙ a.0)))
      (λ b. sym a.0 ∙ ap p.to same ∙ b.0)
      (parent_ends p.net t cut sound.net forest.rooted j hj))
      (parent_ends p.net t cut sound.net forest.rooted i hi)
    where
      -- no two nodes are each above the other
      crossed : (i j : ℕ) → HasParent p.net t i → HasParent p.net t j → upper p.net t i ≡ j → upper p.net t j ≡ i → ⊥
      crossed i j hi hj e f =
          let x = hi.deeper in
          let y = hj.deeper in
          let u = ap t.depth e in
          let v = ap t.depth f in omega arith

  -- a node's parent device, among all devices
  pub spread : (m : ℕ) → m < p.nodes → cond (has_parent p.net t m) (charge p cut (t.parent m)) 0 ≡ total p.devices (λ d. cond (has_parent p.net t m && (t.parent m == d)) (charge p cut d) 0)
  spread m l =
      ⊎_elim
      (λ hp. let h = forest.parent m l hp in
      sym (total_one p.devices (λ d. cond (has_parent p.net t m && (t.parent m == d)) (charge p cut d) 0) (t.parent m) h.within (λ d ld ne. ap (λ b. cond b (charge p cut d) 0) (and_right (has_parent p.net t m) (t.parent m == d) (ne_eqb (t.parent m) d (λ e. ne (sym e)))))
      ∙ ap (λ b. cond b (charge p cut (t.parent m)) 0) (ap (λ b. has_parent p.net t m && b) (eq-eqb (t.parent m) (t.parent m) refl) ∙ and_true (has_parent p.net t m))))
      (λ hp. ap (λ b. cond b (charge p cut (t.parent m)) 0) hp ∙ sym (total_zero p.devices _ (λ d ld. ap (λ b. cond b (charge p cut d) 0) (and_left (has_parent p.net t m) (t.parent m == d) hp))))
      (cases_Bool (has_parent p.net t m))

  -- no listed node has a parent device between unlisted nodes
  pub not_parent : (m d : ℕ) → m < p.nodes → t.is_listed (p.from d) ≡ false → t.is_listed (p.to d) ≡ false → (has_parent p.net t m && (t.parent m == d)) ≡ false
  not_parent m d lm f g = false_from_ne_true (has_parent p.net t m && (t.parent m == d)) (λ b.
      let q = and_parts (has_parent p.net t m) (t.parent m == d) b in
      let h = forest.parent m lm q.0 in
      let e = eqb-true (t.parent m) d q.1 in
      let in_table = (and_parts (t.is_listed m) (not (p.is_source m)) q.0).0 in
      ⊎_elim
      (λ x. false≢true (sym f ∙ ap t.is_listed (ap p.from (sym e) ∙ x) ∙ in_table))
      (λ x. false≢true (sym g ∙ ap t.is_listed (ap p.to (sym e) ∙ x) ∙ in_table))
      h.ends)

  -- what each listed node may have at most, added up, against the cost of the cut
  pub balance : bound_of p t + total p.nodes (λ n. cond (t.is_listed n) (allowed p t cut n) 0) + total p.devices (charge p cut)
      ≡ cost_by_table p t cut + total p.nodes (λ n. cond (t.is_listed n) (value p t cut n) 0) + total p.devices (λ d. accounted p t cut d)
  balance =
      let allowed_apart = total_same p.nodes (λ n. cond (t.is_listed n) (allowed p t cut n) 0) (λ n. cond (t.is_listed n) (pull p t cut n) 0 + cond (t.is_listed n) (total p.nodes (λ m. cond (is_child p.net t n m) (share p t cut m) 0)) 0) (λ n l. cond_add (t.is_listed n) (pull p t cut n) (total p.nodes (λ m. cond (is_child p.net t n m) (share p t cut m) 0))) in
      let apart = total_add p.nodes (λ n. cond (t.is_listed n) (pull p t cut n) 0) (λ n. cond (t.is_listed n) (total p.nodes (λ m. cond (is_child p.net t n m) (share p t cut m) 0)) 0) in
      let kids = by_parent (share p t cut) in
      let kids_apart = total_same p.nodes (λ m. cond (has_parent p.net t m) (share p t cut m) 0) (λ m. cond (has_parent p.net t m) (charge p cut (t.parent m)) 0 + cond (has_parent p.net t m) (value p t cut m) 0) (λ m l. cond_add (has_parent p.net t m) (charge p cut (t.parent m)) (value p t cut m)) ∙ total_add p.nodes (λ m. cond (has_parent p.net t m) (charge p cut (t.parent m)) 0) (λ m. cond (has_parent p.net t m) (value p t cut m) 0) in
      let values = total_same p.nodes (λ n. cond (t.is_listed n) (value p t cut n) 0) (λ n. cond (p.is_source n) (t.live_cost n) 0 + cond (has_parent p.net t n) (value p t cut n) 0) (λ n l. value_split (t.is_listed n) (p.is_source n) (value p t cut n) (t.live_cost n) (λ e. (forest.source n l e).0) (λ e. ap (λ b. cond b (t.live_cost n) (t.dark_cost n)) (lit_source n l e))) ∙ total_add p.nodes (λ n. cond (p.is_source n) (t.live_cost n) 0) (λ n. cond (has_parent p.net t n) (value p t cut n) 0) in
      let pulls = total_same p.nodes (λ n. pull p t cut n) (λ n. cond (t.is_listed n) (pull p t cut n) 0 + cond (t.is_listed n) 0 (p.live_weight n)) (λ n l. pull_split (t.is_listed n) (lit p.net t cut n) (p.dark_weight n) (p.live_weight n) (lit_unlisted n)) ∙ total_add p.nodes (λ n. cond (t.is_listed n) (pull p t cut n) 0) (λ n. cond (t.is_listed n) 0 (p.live_weight n)) in
      let terms = total_same p.nodes (λ m. cond (has_parent p.net t m) (charge p cut (t.parent m)) 0) (λ m. total p.devices (λ d. cond (has_parent p.net t m && (t.parent m == d)) (charge p cut d) 0)) (λ m l. spread m l) in
      let swapped = total_swap p.nodes p.devices (λ m d. cond (has_parent p.net t m && (t.parent m == d)) (charge p cut d) 0) in
      let joined = total_add p.devices (λ d. total p.nodes (λ m. cond (has_parent p.net t m && (t.parent m == d)) (charge p cut d) 0)) (λ d. cond (is_apart p t d) (p.weight d) 0) in
      omega arith
