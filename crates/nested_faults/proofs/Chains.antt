-- Which devices are on the walk to a fed node, by the node's chain of parents.
use Rattle.std.proofs.Common.{◌≡◌, ℕ, zero, suc, ◌<◌, ◌≤◌, Bool, true, false, refl, sym, ap, ◌∙◌, ⊎_elim, arith}
use Rattle.std.specs.Prelude.{◌==◌, ◌||◌, ◌&&◌, not}
use Rattle.std.proofs.lemmas.Bool.{cases_Bool, and_parts, and_from, and_left, or_right, eq-eqb, eqb-true, false≢true, false_from_ne_true}
use Rattle.outage_rules.specs.Network.{Problem, Cut, IsSound, is_live, only, nothing}
use Rattle.outage_rules.specs.Certificate.{Table, has_parent, upper, cut_above, IsForest}
use Rattle.outage_rules.proofs.Rooted.{chain, parent_ends, up_within}
use Rattle.outage_rules.proofs.Balance.{same_child}
use Rattle.outage_rules.proofs.Checked.{live_is_lit}
use Rattle.history_rules.specs.State.{is_below}

-- a node hangs by the device
pub record Hangs (p : Problem) (t : Table) (d w : ℕ) : Type 0 where
  pub within : w < p.nodes
  pub parented : has_parent p.net t w ≡ true
  pub parent : t.parent w ≡ d

fed_and_dark : (a c : Bool) → (a && not (a && not c)) ≡ (a && c)
fed_and_dark true true = refl
fed_and_dark true false = refl
fed_and_dark false c = refl

fed_by : (a b c : Bool) → b ≡ false → c ≡ (a && not b) → c ≡ a
fed_by true b c e f = f ∙ ap not e
fed_by false b c e f = f

none_of : (b : Bool) → (b && false) ≡ false
none_of true = refl
none_of false = refl

beyond : (a b c d : Bool) → a ≡ true → b ≡ true → (b && (c || (b && d))) ≡ (c || (a && d))
beyond a b c d e f = ap (λ x. x && (c || (x && d))) f ∙ sym (ap (λ x. c || (x && d)) e)

pub in_turn : (a b : Bool) (A : Type 0) → (a || b) ≡ true → (a ≡ true → A) → (b ≡ true → A) → A
in_turn true b A e f g = f refl
in_turn false b A e f g = g e

module _ (p : Problem) (t : Table) (sound : IsSound p) (forest : IsForest p.net t) where
  uncut : (k n : ℕ) → cut_above p.net t nothing k n ≡ false
  uncut zero n = refl
  uncut (suc k) n = ap (λ b. has_parent p.net t n && b) (uncut k (upper p.net t n)) ∙ none_of (has_parent p.net t n)

  below_is : (d n : ℕ) → n < p.nodes → is_below p.net d n ≡ (t.is_listed n && cut_above p.net t (only d) (t.depth n) n)
  below_is d n l =
      ap (λ b. b && not (is_live p.net (only d) n)) (fed_by (t.is_listed n) (cut_above p.net t nothing (t.depth n) n) (is_live p.net nothing n) (uncut (t.depth n) n) (live_is_lit p t nothing sound forest n l))
      ∙ ap (λ b. t.is_listed n && not b) (live_is_lit p t (only d) sound forest n l)
      ∙ fed_and_dark (t.is_listed n) (cut_above p.net t (only d) (t.depth n) n)

  listed : (n : ℕ) → has_parent p.net t n ≡ true → t.is_listed n ≡ true
  listed n hp = (and_parts (t.is_listed n) (not (p.is_source n)) hp).0

  pub upper_within : (n : ℕ) → n < p.nodes → has_parent p.net t n ≡ true → upper p.net t n < p.nodes
  upper_within n l hp = up_within p.net t nothing sound.net forest.rooted n (forest.parent n l hp)

  pub deeper : (n : ℕ) → n < p.nodes → has_parent p.net t n ≡ true → t.depth n ≡ suc (t.depth (upper p.net t n))
  deeper n l hp = (forest.parent n l hp).deeper

  -- on the walk to a node are its parent device, and those on the walk to the node above
  pub below_step : (d n : ℕ) → n < p.nodes → has_parent p.net t n ≡ true → is_below p.net d n ≡ ((t.parent n == d) || is_below p.net d (upper p.net t n))
  below_step d n l hp =
      below_is d n l
      ∙ ap (λ b. b && cut_above p.net t (only d) (t.depth n) n) (listed n hp)
      ∙ chain p.net t (only d) sound.net forest.rooted n hp (forest.parent n l hp)
      ∙ ap (λ b. (t.parent n == d) || (b && cut_above p.net t (only d) (t.depth (upper p.net t n)) (upper p.net t n))) (sym (forest.parent n l hp).listed)
      ∙ ap (λ b. (t.parent n == d) || b) (sym (below_is d (upper p.net t n) (upper_within n l hp)))

  uncut_root : (cut : Cut) (k n : ℕ) → has_parent p.net t n ≡ false → cut_above p.net t cut k n ≡ false
  uncut_root cut zero n e = refl
  uncut_root cut (suc k) n e = and_left (has_parent p.net t n) (cut (t.parent n) || cut_above p.net t cut k (upper p.net t n)) e

  -- none is on the walk to a node without a parent
  pub below_none : (d n : ℕ) → n < p.nodes → has_parent p.net t n ≡ false → is_below p.net d n ≡ false
  below_none d n l e = below_is d n l ∙ ap (λ b. t.is_listed n && b) (uncut_root (only d) (t.depth n) n e) ∙ none_of (t.is_listed n)

  -- a node that a device is on the walk to has a parent
  pub below_parented : (d n : ℕ) → n < p.nodes → is_below p.net d n ≡ true → has_parent p.net t n ≡ true
  below_parented d n l e =
      ⊎_elim
      (λ hp. hp)
      (λ none. absurd (false≢true (sym (below_none d n l none) ∙ e)))
      (cases_Bool (has_parent p.net t n))

  -- a device on the walk to a node is one that a node hangs by that isn't deeper
  pub hung : (k d n : ℕ) → n < p.nodes → t.depth n ≡ k → is_below p.net d n ≡ true → (w : ℕ) × Hangs p t d w × (t.depth w ≤ k)
  hung zero d n l e b = absurd (let x = deeper n l (below_parented d n l b) in omega arith)
  hung (suc k) d n l e b =
      let hp = below_parented d n l b in
      let x = deeper n l hp in
      in_turn (t.parent n == d) (is_below p.net d (upper p.net t n)) ((w : ℕ) × Hangs p t d w × (t.depth w ≤ suc k)) (sym (below_step d n l hp) ∙ b)
      (λ same. (n, record { within = l; parented = hp; parent = eqb-true (t.parent n) d same }, omega arith))
      (λ further. let a = hung k d (upper p.net t n) (upper_within n l hp) (omega arith) further in (a.0, a.1, (let y = a.2 in omega arith)))

  -- the nodes that hang by one device are one
  one_hangs : (d v w : ℕ) → Hangs p t d v → Hangs p t d w → v ≡ w
  one_hangs d v w hv hw =
      same_child p t nothing sound forest v w d hv.within hw.within
      (and_from (has_parent p.net t v) (t.parent v == d) hv.parented (eq-eqb (t.parent v) d hv.parent))
      (and_from (has_parent p.net t w) (t.parent w == d) hw.parented (eq-eqb (t.parent w) d hw.parent))

  -- a device isn't on the walk to the node above the one that hangs by it
  pub not_above_itself : (n : ℕ) → n < p.nodes → has_parent p.net t n ≡ true → is_below p.net (t.parent n) (upper p.net t n) ≡ false
  not_above_itself n l hp =
      false_from_ne_true (is_below p.net (t.parent n) (upper p.net t n))
      (λ b. let a = hung (t.depth (upper p.net t n)) (t.parent n) (upper p.net t n) (upper_within n l hp) refl b in
      let same = ap t.depth (one_hangs (t.parent n) a.0 n a.1 (record { within = l; parented = hp; parent = refl })) in
      let x = deeper n l hp in
      let y = a.2 in
      absurd (omega arith))

  -- what is on the walk to the node above is on the walk to the node
  pub below_further : (d n : ℕ) → n < p.nodes → has_parent p.net t n ≡ true → is_below p.net d (upper p.net t n) ≡ true → is_below p.net d n ≡ true
  below_further d n l hp b = below_step d n l hp ∙ or_right (t.parent n == d) (is_below p.net d (upper p.net t n)) b

  -- and to the end of a device from which it is the one that hangs
  pub below_from : (d n : ℕ) → n < p.nodes → has_parent p.net t n ≡ true → is_below p.net d (upper p.net t n) ≡ true → is_below p.net d (p.from (t.parent n)) ≡ true
  below_from d n l hp b =
      ⊎_elim
      (λ a. ap (is_below p.net d) a.0 ∙ below_further d n l hp b)
      (λ a. ap (is_below p.net d) a.1 ∙ b)
      (parent_ends p.net t nothing sound.net forest.rooted n (forest.parent n l hp))

  -- what is on the walk to an end of a device is on the walk to each node that the device is on the walk to
  pub below_both : (k d e n : ℕ) → n < p.nodes → t.depth n ≡ k → is_below p.net e n ≡ true → is_below p.net d (p.from e) ≡ true → is_below p.net d n ≡ true
  below_both zero d e n l is b f = absurd (let x = deeper n l (below_parented e n l b) in omega arith)
  below_both (suc k) d e n l is b f =
      let hp = below_parented e n l b in
      let x = deeper n l hp in
      in_turn (t.parent n == e) (is_below p.net e (upper p.net t n)) (is_below p.net d n ≡ true) (sym (below_step e n l hp) ∙ b)
      (λ same. at_end hp (eqb-true (t.parent n) e same))
      (λ further. below_further d n l hp (below_both k d e (upper p.net t n) (upper_within n l hp) (omega arith) further f))
    where
      at_end : has_parent p.net t n ≡ true → t.parent n ≡ e → is_below p.net d n ≡ true
      at_end hp same =
          ⊎_elim
          (λ a. ap (is_below p.net d) (sym a.0 ∙ ap p.from same) ∙ f)
          (λ a. below_further d n l hp (ap (is_below p.net d) (sym a.1 ∙ ap p.from same) ∙ f))
          (parent_ends p.net t nothing sound.net forest.rooted n (forest.parent n l hp))
