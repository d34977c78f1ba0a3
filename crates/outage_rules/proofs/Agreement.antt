-- Two forests of one radial network list the same nodes, each with the same parent and depth, so their exact rows are equal.
use Rattle.std.proofs.Common.{◌≡◌, ◌≢◌, ℕ, zero, suc, ◌+◌, ◌<◌, ◌≤◌, min, Bool, true, false, cond, refl, sym, ap, ◌∙◌, subst, inl, inr, ⊎_elim, arith}
use Rattle.std.specs.Prelude.{◌||◌, ◌&&◌, not, ◌==◌, ◌⊎◌}
use Rattle.std.proofs.lemmas.Bool.{cases_Bool, cases_eq, and_from, and_parts, and_left, and_right, or_from, eqb-true, ne_eqb, not_from_false}
use Rattle.outage_rules.specs.Sum.{total}
use Rattle.outage_rules.specs.Network.{Network, Problem, IsLive, IsSoundNetwork, IsSound, IsRadial, only, nothing}
use Rattle.outage_rules.specs.Certificate.{Table, has_parent, other_end, upper, is_child, choice, dark_share, cut_above, HasParent, IsForest, HasExactRows}
use Rattle.outage_rules.specs.Agreement.{AgreeAt}
use Rattle.outage_rules.proofs.Sums.{total_same}
use Rattle.outage_rules.proofs.Rooted.{parent_ends, up_within, live_from_lit}
use Rattle.outage_rules.proofs.Forest.{lit_from_live}

-- a term is at most the sum
term_le_total : (n : ℕ) (f : ℕ → ℕ) (k : ℕ) → k < n → f k ≤ total n f
term_le_total zero f k l = absurd (omega arith)
term_le_total (suc n) f k l =
    ⊎_elim
    (λ e. let e' : n ≡ k = e in
    let here = ap f e' in omega arith)
    (λ ne. let ne' : n ≢ k = ne in
    let rest = term_le_total n f k (omega arith) in omega arith)
    (cases_eq n k)

-- tests that follow from each other are equal
same_test : (a b : Bool) → (a ≡ true → b ≡ true) → (b ≡ true → a ≡ true) → a ≡ b
same_test true b f g = sym (f refl)
same_test false true f g = g refl
same_test false false f g = refl

-- without a cut no device above a node is cut
none_above : (p : Network) (t : Table) (k n : ℕ) → cut_above p t nothing k n ≡ false
none_above p t zero n = refl
none_above p t (suc k) n = and_right (has_parent p t n) (cut_above p t nothing k (upper p t n)) (none_above p t k (upper p t n))

module _ (p : Network) (t : Table) (sound : IsSoundNetwork p) (forest : IsForest p t) where
  -- a forest lists the nodes that are live under no cut
  live_if_listed : (n : ℕ) → n < p.nodes → t.is_listed n ≡ true → IsLive p nothing n
  live_if_listed n l e =
      live_from_lit p t nothing sound forest.rooted n l
      (and_from (t.is_listed n) (not (cut_above p t nothing (t.depth n) n)) e (not_from_false (cut_above p t nothing (t.depth n) n) (none_above p t (t.depth n) n)))

  -- and no others
  listed_if_live : (n : ℕ) → IsLive p nothing n → t.is_listed n ≡ true
  listed_if_live n v = (and_parts (t.is_listed n) (not (cut_above p t nothing (t.depth n) n)) (lit_from_live p t nothing sound forest n v)).0

  -- down to depth b no node hangs from the device
  abbrev pub HangsNone : ℕ → ℕ → Type 0
  HangsNone e b = (x : ℕ) → x < p.nodes → has_parent p t x ≡ true → t.depth x ≤ b → t.parent x ≢ e

  -- so it is above no node down to there
  not_above : (e b : ℕ) → HangsNone e b → (k n : ℕ) → n < p.nodes → t.depth n ≡ k → k ≤ b → cut_above p t (only e) k n ≡ false
  not_above e b none zero n l deep near = refl
  not_above e b none (suc k) n l deep near =
      ⊎_elim
      (λ hp. let h = forest.parent n l hp in
      let x = h.deeper in
      ap (λ c. c && (only e (t.parent n) || cut_above p t (only e) k (upper p t n))) hp
      ∙ or_from (only e (t.parent n)) (cut_above p t (only e) k (upper p t n))
      (ne_eqb (t.parent n) e (none n l hp (omega arith)))
      (not_above e b none k (upper p t n) (up_within p t (only e) sound forest.rooted n h) (omega arith) (omega arith)))
      (λ hp. ap (λ c. c && (only e (t.parent n) || cut_above p t (only e) k (upper p t n))) hp)
      (cases_Bool (has_parent p t n))

  -- and each listed node down to there is live without it
  pub live_without : (e n : ℕ) → HangsNone e (t.depth n) → n < p.nodes → t.is_listed n ≡ true → IsLive p (only e) n
  live_without e n none l in_table =
      live_from_lit p t (only e) sound forest.rooted n l
      (and_from (t.is_listed n) (not (cut_above p t (only e) (t.depth n) n)) in_table (not_from_false (cut_above p t (only e) (t.depth n) n) (not_above e (t.depth n) none (t.depth n) n l refl (omega arith))))

  -- an end of a parent device is the node that hangs from it, or the node above
  pub end_is : (n x e : ℕ) → (p.from e ≡ n) ⊎ (p.to e ≡ n) → x < p.nodes → has_parent p t x ≡ true → t.parent x ≡ e → (n ≡ x) ⊎ (n ≡ upper p t x)
  end_is n x e end l hp same =
      ⊎_elim
      (λ a. ⊎_elim
      (λ b. inl (sym a ∙ ap p.from (sym same) ∙ b.0))
      (λ b. inr (sym a ∙ ap p.from (sym same) ∙ b.1))
      (parent_ends p t nothing sound forest.rooted x (forest.parent x l hp)))
      (λ a. ⊎_elim
      (λ b. inr (sym a ∙ ap p.to (sym same) ∙ b.1))
      (λ b. inl (sym a ∙ ap p.to (sym same) ∙ b.0))
      (parent_ends p t nothing sound forest.rooted x (forest.parent x l hp)))
      end

module _ (p : Network) (t u : Table) (sound : IsSoundNetwork p) (radial : IsRadial p) (forest : IsForest p t) (other : IsForest p u) where
  -- so two forests list the same nodes
  same_listed : (n : ℕ) → n < p.nodes → t.is_listed n ≡ u.is_listed n
  same_listed n l = same_test (t.is_listed n) (u.is_listed n)
      (λ e. listed_if_live p u sound other n (live_if_listed p t sound forest n l e))
      (λ e. listed_if_live p t sound forest n (live_if_listed p u sound other n l e))

  -- and the same nodes hang from another
  same_hung : (n : ℕ) → n < p.nodes → has_parent p t n ≡ has_parent p u n
  same_hung n l = ap (λ b. b && not (p.is_source n)) (same_listed n l)

  -- the parent device in one table is above neither of its ends in the other, so it would close a loop
  not_apart : (n : ℕ) → n < p.nodes → has_parent p t n ≡ true → HasParent p u n → (t.parent n ≡ u.parent n → ⊥) → ⊥
  not_apart n l hp h ne =
      ⊎_elim
      (λ a. looped (subst (IsLive p (only (u.parent n))) (sym a.0) here) (subst (IsLive p (only (u.parent n))) (sym a.1) over))
      (λ a. looped (subst (IsLive p (only (u.parent n))) (sym a.1) over) (subst (IsLive p (only (u.parent n))) (sym a.0) here))
      (parent_ends p u nothing sound other.rooted n h)
    where
      looped : IsLive p (only (u.parent n)) (p.from (u.parent n)) → IsLive p (only (u.parent n)) (p.to (u.parent n)) → ⊥
      looped = (radial (u.parent n) h.within h.closed).1

      here : IsLive p (only (u.parent n)) n
      here = live_without p t sound forest (u.parent n) n
          (λ x lx hx near same. ⊎_elim
          (λ a. let e : t.parent n ≡ u.parent n = ap t.parent a ∙ same in ne e)
          (λ a. let d = (forest.parent x lx hx).deeper in
          let e = ap t.depth a in omega arith)
          (end_is p t sound forest n x (u.parent n) h.ends lx hx same))
          l (and_parts (t.is_listed n) (not (p.is_source n)) hp).0

      over : IsLive p (only (u.parent n)) (upper p u n)
      over = live_without p u sound other (u.parent n) (upper p u n)
          (λ x lx hx near same. let deep = h.deeper in ⊎_elim
          (λ a. let e = ap u.depth a in omega arith)
          (λ a. let d = (other.parent x lx hx).deeper in
          let e = ap u.depth a in omega arith)
          (end_is p u sound other n x (u.parent n) h.ends lx hx same))
          (up_within p u nothing sound other.rooted n h) h.listed

  -- so a node hangs from the same device in both
  same_parent : (n : ℕ) → n < p.nodes → has_parent p t n ≡ true → t.parent n ≡ u.parent n
  same_parent n l hp =
      ⊎_elim
      (λ e. e)
      (λ ne. absurd (not_apart n l hp (other.parent n l (sym (same_hung n l) ∙ hp)) ne))
      (cases_eq (t.parent n) (u.parent n))

  -- and from the same node
  same_upper : (n : ℕ) → n < p.nodes → has_parent p t n ≡ true → upper p t n ≡ upper p u n
  same_upper n l hp = ap (λ d. other_end p d n) (same_parent n l hp)

  -- so its depth is the same
  same_depth : (k n : ℕ) → n < p.nodes → t.is_listed n ≡ true → t.depth n ≡ k → t.depth n ≡ u.depth n
  same_depth zero n l in_table deep =
      ⊎_elim
      (λ s. let a = (forest.source n l s).1 in
      let b = (other.source n l s).1 in omega arith)
      (λ s. let h = (forest.parent n l (and_from (t.is_listed n) (not (p.is_source n)) in_table (not_from_false (p.is_source n) s))).deeper in
      absurd (omega arith))
      (cases_Bool (p.is_source n))
  same_depth (suc k) n l in_table deep =
      ⊎_elim
      (λ s. let a = (forest.source n l s).1 in absurd (omega arith))
      (λ s. let hp = and_from (t.is_listed n) (not (p.is_source n)) in_table (not_from_false (p.is_source n) s) in
      let h = forest.parent n l hp in
      let a = h.deeper in
      let b = (other.parent n l (sym (same_hung n l) ∙ hp)).deeper in
      let rest = same_depth k (upper p t n) (up_within p t nothing sound forest.rooted n h) h.listed (omega arith) in
      let e = ap u.depth (same_upper n l hp) in omega arith)
      (cases_Bool (p.is_source n))

  -- each node has the same children in both
  same_child : (n m : ℕ) → m < p.nodes → is_child p t n m ≡ is_child p u n m
  same_child n m l =
      ⊎_elim
      (λ hp. ap (λ x. has_parent p t m && (x == n)) (same_upper m l hp) ∙ ap (λ b. b && (upper p u m == n)) (same_hung m l))
      (λ hp. and_left (has_parent p t m) (upper p t m == n) hp ∙ sym (and_left (has_parent p u m) (upper p u m == n) (sym (same_hung m l) ∙ hp)))
      (cases_Bool (has_parent p t m))

-- what a child adds, by its parent device and its rows
abbrev choice_by : Problem → ℕ → ℕ → ℕ → ℕ
choice_by p d live dark = cond (p.marked_open d) (p.weight d + dark) (cond (p.marked_ok d) live (min (p.weight d + dark) live))

-- the same where the node above is dark
abbrev dark_share_by : Problem → ℕ → ℕ → ℕ
dark_share_by p d dark = dark + cond (p.marked_open d) (p.weight d) 0

-- a term that counts under equal tests
cond_at : (b c : Bool) (x y : ℕ) → b ≡ c → (b ≡ true → x ≡ y) → cond b x 0 ≡ cond c y 0
cond_at true c x y e h = h refl ∙ ap (λ v. cond v y 0) e
cond_at false c x y e h = ap (λ v. cond v y 0) e

module _ (p : Problem) (t u : Table) (sound : IsSound p) (radial : IsRadial p.net) (forest : IsForest p.net t) (other : IsForest p.net u) (rows : HasExactRows p t) (others : HasExactRows p u) where
  abbrev SameRows : ℕ → Type 0
  SameRows n = (t.live_cost n ≡ u.live_cost n) × (t.dark_cost n ≡ u.dark_cost n)

  -- where the rows of the children are equal, so are the rows above
  one_up : (n : ℕ) → n < p.nodes → t.is_listed n ≡ true → ((m : ℕ) → m < p.nodes → is_child p.net t n m ≡ true → SameRows m) → SameRows n
  one_up n l in_table below = (
    rows.live n l in_table
        ∙ ap (λ s. p.dark_weight n + s) (total_same p.nodes (λ m. cond (is_child p.net t n m) (choice p t m) 0) (λ m. cond (is_child p.net u n m) (choice p u m) 0)
        (λ m lm. cond_at (is_child p.net t n m) (is_child p.net u n m) (choice p t m) (choice p u m) (same_child p.net t u sound.net radial forest other n m lm) (choices m lm)))
        ∙ sym (others.live n l there),
    rows.dark n l in_table
        ∙ ap (λ s. p.live_weight n + s) (total_same p.nodes (λ m. cond (is_child p.net t n m) (dark_share p t m) 0) (λ m. cond (is_child p.net u n m) (dark_share p u m) 0)
        (λ m lm. cond_at (is_child p.net t n m) (is_child p.net u n m) (dark_share p t m) (dark_share p u m) (same_child p.net t u sound.net radial forest other n m lm) (shares m lm)))
        ∙ sym (others.dark n l there),
  )
    where
      -- the other table lists the node too
      there : u.is_listed n ≡ true
      there = sym (same_listed p.net t u sound.net radial forest other n l) ∙ in_table

      parents : (m : ℕ) → m < p.nodes → is_child p.net t n m ≡ true → t.parent m ≡ u.parent m
      parents m lm c = same_parent p.net t u sound.net radial forest other m lm (and_parts (has_parent p.net t m) (upper p.net t m == n) c).0

      choices : (m : ℕ) → m < p.nodes → is_child p.net t n m ≡ true → choice p t m ≡ choice p u m
      choices m lm c =
          let s = below m lm c in
          ap (λ d. choice_by p d (t.live_cost m) (t.dark_cost m)) (parents m lm c)
          ∙ ap (λ x. choice_by p (u.parent m) x (t.dark_cost m)) s.0
          ∙ ap (λ y. choice_by p (u.parent m) (u.live_cost m) y) s.1

      shares : (m : ℕ) → m < p.nodes → is_child p.net t n m ≡ true → dark_share p t m ≡ dark_share p u m
      shares m lm c =
          ap (λ d. dark_share_by p d (t.dark_cost m)) (parents m lm c)
          ∙ ap (λ y. dark_share_by p (u.parent m) y) (below m lm c).1

  -- from the deepest nodes up
  same_rows : (k n : ℕ) → n < p.nodes → t.is_listed n ≡ true → total p.nodes t.depth < t.depth n + k → SameRows n
  same_rows zero n l in_table far = let d = term_le_total p.nodes t.depth n l in absurd (omega arith)
  same_rows (suc k) n l in_table far = one_up n l in_table (λ m lm c. same_rows k m lm (listed m lm c) (deeper m lm c))
    where
      listed : (m : ℕ) → m < p.nodes → is_child p.net t n m ≡ true → t.is_listed m ≡ true
      listed m lm c = (and_parts (t.is_listed m) (not (p.is_source m)) (and_parts (has_parent p.net t m) (upper p.net t m == n) c).0).0

      deeper : (m : ℕ) → m < p.nodes → is_child p.net t n m ≡ true → total p.nodes t.depth < t.depth m + k
      deeper m lm c =
          let a = and_parts (has_parent p.net t m) (upper p.net t m == n) c in
          let d = (forest.parent m lm a.0).deeper in
          let e = ap t.depth (eqb-true (upper p.net t m) n a.1) in omega arith

  -- the two tables say the same of each node
  pub agree_at : (n : ℕ) → n < p.nodes → AgreeAt p.net t u n
  agree_at n l = record {
    listed = same_listed p.net t u sound.net radial forest other n l;
    parent = same_parent p.net t u sound.net radial forest other n l;
    depth = λ e. same_depth p.net t u sound.net radial forest other (t.depth n) n l e refl;
    live = λ e. (same_rows (suc (total p.nodes t.depth)) n l e (omega arith)).0;
    dark = λ e. (same_rows (suc (total p.nodes t.depth)) n l e (omega arith)).1;
  }
