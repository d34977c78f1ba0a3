-- Which devices are on the walk to a fed node, by the node's chain of parents.
use Rattle.std.proofs.Common.{◌≡◌, ℕ, zero, suc, ◌+◌, ◌<◌, ◌≤◌, Bool, true, false, refl, sym, ap, ◌∙◌, ⊎_elim, arith}
use Rattle.std.specs.Prelude.{◌==◌, ◌||◌, ◌&&◌, not}
use Rattle.std.proofs.lemmas.Bool.{cases_Bool, and_parts, and_left, eqb-true, false≢true}
use Rattle.outage_rules.specs.Network.{Problem, Cut, IsSound, is_live, only, nothing}
use Rattle.outage_rules.specs.Certificate.{Table, has_parent, upper, cut_above, IsForest}
use Rattle.outage_rules.proofs.Rooted.{chain, parent_ends, up_within}
use Rattle.outage_rules.proofs.Checked.{live_is_lit}
use Rattle.history_rules.specs.State.{is_below}

-- a node hangs by the device
pub record Hangs (p : Problem) (t : Table) (d w : ℕ) : Type 0 where
  pub within : w < p.nodes
  pub parented : has_parent p.net t w ≡ true
  pub parent : t.parent w ≡ d

fed_and_dark : (a c : Bool) → (a && not (a && not c)) ≡ (a && c)
fed_and_dark true true = refl
fed_and_dark true false = refl
fed_and_dark false c = refl

fed_by : (a b c : Bool) → b ≡ false → c ≡ (a && not b) → c ≡ a
fed_by true b c e f = f ∙ ap not e
fed_by false b c e f = f

none_of : (b : Bool) → (b && false) ≡ false
none_of true = refl
none_of false = refl

pub in_turn : (a b : Bool) (A : Type 0) → (a || b) ≡ true → (a ≡ true → A) → (b ≡ true → A) → A
in_turn true b A e f g = f refl
in_turn false b A e f g = g e

module _ (p : Problem) (t : Table) (sound : IsSound p) (forest : IsForest p.net t) where
  uncut : (k n : ℕ) → cut_above p.net t nothing k n ≡ false
  uncut zero n = refl
  uncut (suc k) n = ap (λ b. has_parent p.net t n && b) (uncut k (upper p.net t n)) ∙ none_of (has_parent p.net t n)

  below_is : (d n : ℕ) → n < p.nodes → is_below p.net d n ≡ (t.is_listed n && cut_above p.net t (only d) (t.depth n) n)
  below_is d n l =
      ap (λ b. b && not (is_live p.net (only d) n)) (fed_by (t.is_listed n) (cut_above p.net t nothing (t.depth n) n) (is_live p.net nothing n) (uncut (t.depth n) n) (live_is_lit p t nothing sound forest n l))
      ∙ ap (λ b. t.is_listed n && not b) (live_is_lit p t (only d) sound forest n l)
      ∙ fed_and_dark (t.is_listed n) (cut_above p.net t (only d) (t.depth n) n)

  pub listed : (n : ℕ) → has_parent p.net t n ≡ true → t.is_listed n ≡ true
  listed n hp = (and_parts (t.is_listed n) (not (p.is_source n)) hp).0

  pub upper_within : (n : ℕ) → n < p.nodes → has_parent p.net t n ≡ true → upper p.net t n < p.nodes
  upper_within n l hp = up_within p.net t nothing sound.net forest.rooted n (forest.parent n l hp)

  pub deeper : (n : ℕ) → n < p.nodes → has_parent p.net t n ≡ true → t.depth n ≡ suc (t.depth (upper p.net t n))
  deeper n l hp = (forest.parent n l hp).deeper

  -- on the walk to a node are its parent device, and those on the walk to the node above
  pub below_step : (d n : ℕ) → n < p.nodes → has_parent p.net t n ≡ true → is_below p.net d n ≡ ((t.parent n == d) || is_below p.net d (upper p.net t n))
  below_step d n l hp =
      below_is d n l
      ∙ ap (λ b. b && cut_above p.net t (only d) (t.depth n) n) (listed n hp)
      ∙ chain p.net t (only d) sound.net forest.rooted n hp (forest.parent n l hp)
      ∙ ap (λ b. (t.parent n == d) || (b && cut_above p.net t (only d) (t.depth (upper p.net t n)) (upper p.net t n))) (sym (forest.parent n l hp).listed)
      ∙ ap (λ b. (t.parent n == d) || b) (sym (below_is d (upper p.net t n) (upper_within n l hp)))

  uncut_root : (cut : Cut) (k n : ℕ) → has_parent p.net t n ≡ false → cut_above p.net t cut k n ≡ false
  uncut_root cut zero n e = refl
  uncut_root cut (suc k) n e = and_left (has_parent p.net t n) (cut (t.parent n) || cut_above p.net t cut k (upper p.net t n)) e

  -- none is on the walk to a node without a parent
  pub below_none : (d n : ℕ) → n < p.nodes → has_parent p.net t n ≡ false → is_below p.net d n ≡ false
  below_none d n l e = below_is d n l ∙ ap (λ b. t.is_listed n && b) (uncut_root (only d) (t.depth n) n e) ∙ none_of (t.is_listed n)

  -- a node that a device is on the walk to has a parent
  pub below_parented : (d n : ℕ) → n < p.nodes → is_below p.net d n ≡ true → has_parent p.net t n ≡ true
  below_parented d n l e =
      ⊎_elim
      (λ hp. hp)
      (λ none. absurd (false≢true (sym (below_none d n l none) ∙ e)))
      (cases_Bool (has_parent p.net t n))

  -- a device on the walk to a node is one that a node hangs by that isn't deeper
  pub hung : (k d n : ℕ) → n < p.nodes → t.depth n ≡ k → is_below p.net d n ≡ true → (w : ℕ) × Hangs p t d w × (t.depth w ≤ k)
  hung zero d n l e b = absurd (let x = deeper n l (below_parented d n l b) in omega arith)
  hung (suc k) d n l e b =
      let hp = below_parented d n l b in
      let x = deeper n l hp in
      in_turn (t.parent n == d) (is_below p.net d (upper p.net t n)) ((w : ℕ) × Hangs p t d w × (t.depth w ≤ suc k)) (sym (below_step d n l hp) ∙ b)
      (λ same. (n, record { within = l; parented = hp; parent = eqb-true (t.parent n) d same }, omega arith))
      (λ further. let a = hung k d (upper p.net t n) (upper_within n l hp) (omega arith) further in (a.0, a.1, (let y = a.2 in omega arith)))

  -- the two ends of a device that a node hangs by are as deep as the node and the node above it
  rank_is : (d w : ℕ) → Hangs p t d w → t.depth (p.from d) + t.depth (p.to d) ≡ t.depth w + t.depth (upper p.net t w)
  rank_is d w h =
      ⊎_elim
      (λ a. let x = ap t.depth (ap p.from (sym h.parent) ∙ a.0) in
      let y = ap t.depth (ap p.to (sym h.parent) ∙ a.1) in omega arith)
      (λ a. let x = ap t.depth (ap p.to (sym h.parent) ∙ a.0) in
      let y = ap t.depth (ap p.from (sym h.parent) ∙ a.1) in omega arith)
      (parent_ends p.net t nothing sound.net forest.rooted w (forest.parent w h.within h.parented))

  -- another device on the walk to a node is on the walk to the node above
  other_above : (e n : ℕ) → n < p.nodes → is_below p.net e n ≡ true → (t.parent n ≡ e → ⊥) → is_below p.net e (upper p.net t n) ≡ true
  other_above e n l b ne =
      in_turn (t.parent n == e) (is_below p.net e (upper p.net t n)) (is_below p.net e (upper p.net t n) ≡ true) (sym (below_step e n l (below_parented e n l b)) ∙ b)
      (λ same. absurd (ne (eqb-true (t.parent n) e same)))
      (λ above. above)

  -- another device on the walk to an end of a device is on the walk to the node above the one that hangs by it
  above_hanging : (d e w : ℕ) → Hangs p t d w → is_below p.net e (p.from d) ≡ true → (d ≡ e → ⊥) → is_below p.net e (upper p.net t w) ≡ true
  above_hanging d e w h b ne =
      ⊎_elim
      (λ a. other_above e w h.within (ap (is_below p.net e) (sym a.0 ∙ ap p.from h.parent) ∙ b) (λ s. ne (sym h.parent ∙ s)))
      (λ a. ap (is_below p.net e) (sym a.1 ∙ ap p.from h.parent) ∙ b)
      (parent_ends p.net t nothing sound.net forest.rooted w (forest.parent w h.within h.parented))

  -- so its ends are less deep together
  less_deep : (d e w : ℕ) → Hangs p t d w → is_below p.net e (p.from d) ≡ true → (d ≡ e → ⊥) → t.depth (p.from e) + t.depth (p.to e) < t.depth (p.from d) + t.depth (p.to d)
  less_deep d e w h b ne =
      let a = hung (t.depth (upper p.net t w)) e (upper p.net t w) (upper_within w h.within h.parented) refl (above_hanging d e w h b ne) in
      let own = rank_is d w h in
      let other = rank_is e a.0 a.1 in
      let x = deeper w h.within h.parented in
      let y = deeper a.0 a.1.within a.1.parented in
      let z = a.2 in omega arith

  -- and so are those of each other device on the walk to a closed one
  pub rank_falls : (d e : ℕ) → d < p.devices → p.is_closed d ≡ true → is_below p.net e (p.from d) ≡ true → (d ≡ e → ⊥) → t.depth (p.from e) + t.depth (p.to e) < t.depth (p.from d) + t.depth (p.to d)
  rank_falls d e l closed b ne =
      ⊎_elim
      (λ s. less_deep d e s.0 (record { within = s.1; parented = s.2; parent = s.3 }) b ne)
      (λ u. absurd (false≢true (sym u.0 ∙ listed (p.from d) (below_parented e (p.from d) (sound.from d l) b))))
      (forest.stray d l closed)
