-- What a finished walk comes to.
use Rattle.std.proofs.Common.{◌≡◌, ℕ, zero, suc, ◌<◌, Bool, true, false, refl, sym, ap, ◌∙◌, ⊎_elim, arith}
use Rattle.std.specs.Prelude.{◌&&◌, not}
use Rattle.std.proofs.lemmas.Bool.{and_from, and_parts, and_right, false≢true, not-true, not_from_false}
use Rattle.outage_rules.specs.Network.{Network, IsSoundNetwork, Walk, nothing, is_live}
use Rattle.outage_rules.specs.Certificate.{Table, has_parent, upper, cut_above, IsRooted, IsWhole}
use Rattle.outage_rules.specs.Laws.{LiveIsAWalk}
use Rattle.outage_rules.proofs.Rooted.{live_from_lit}
use Rattle.radial_forest.specs.Traversed.{Traversed, table_of, IsOrder, IsTraversed}
use Rattle.radial_forest.specs.Spreading.{is_reached, hangs, is_root, IsPartial}
use Rattle.radial_forest.proofs.Alike.{same_test}
use Rattle.radial_forest.proofs.Reaching.{order_short}

-- a walk doesn't leave the reached nodes, nor enter them
pub whole_walk : (g : Network) (t : Traversed) → IsWhole g (table_of t) → (k a b : ℕ) → Walk g nothing k a b → is_reached t a ≡ is_reached t b
whole_walk g t whole zero a b w = ap (is_reached t) w
whole_walk g t whole (suc k) a b w =
    whole_walk g t whole k a w.0 w.2
    ∙ ⊎_elim
    (λ e. sym (ap (is_reached t) e.0) ∙ whole w.1 w.3.within w.3.closed ∙ ap (is_reached t) e.1)
    (λ e. sym (ap (is_reached t) e.1) ∙ sym (whole w.1 w.3.within w.3.closed) ∙ ap (is_reached t) e.0)
    w.3.ends

-- where nothing is cut, nothing is cut above a node
none_above : (g : Network) (t : Table) (k n : ℕ) → cut_above g t nothing k n ≡ false
none_above g t zero n = refl
none_above g t (suc k) n = and_right (has_parent g t n) (cut_above g t nothing k (upper g t n)) (none_above g t k (upper g t n))

-- what is reached is what the sources feed
pub reached_is_live : (g : Network) (t : Traversed) → IsSoundNetwork g → IsRooted g (table_of t) → IsWhole g (table_of t) → LiveIsAWalk → (n : ℕ) → n < g.nodes → is_reached t n ≡ is_live g nothing n
reached_is_live g t sound rooted whole live n l =
    same_test (is_reached t n) (is_live g nothing n)
    (λ e. (live g nothing n sound l).1 (live_from_lit g (table_of t) nothing sound rooted n l
    (and_from (is_reached t n) (not (cut_above g (table_of t) nothing ((table_of t).depth n) n)) e (not_from_false (cut_above g (table_of t) nothing ((table_of t).depth n) n) (none_above g (table_of t) ((table_of t).depth n) n)))))
    (λ e. let w = (live g nothing n sound l).0 e in
    sym (whole_walk g t whole w.1 w.0 n w.3) ∙ (rooted.source w.0 (sound.sources w.0 w.2) w.2).0)

-- a node that hangs is reached, and no root
hangs_is : (listed hung source : Bool) → source ≡ (listed && not hung) → (hung ≡ true → listed ≡ true) → hung ≡ (listed && not source)
hangs_is true true source e h = ap (λ b. not b) (sym e)
hangs_is true false source e h = ap (λ b. not b) (sym e)
hangs_is false true source e h = absurd (false≢true (h refl))
hangs_is false false source e h = refl

module _ (g : Network) (t : Traversed) (partial : IsPartial g t) (roots : (n : ℕ) → is_root t n ≡ g.is_source n) where
  pub has_parent_is : (n : ℕ) → n < g.nodes → hangs t n ≡ has_parent g (table_of t) n
  has_parent_is n l = hangs_is (is_reached t n) (hangs t n) (g.is_source n) (sym (roots n)) (λ e. (partial.hung n l e).0)

  pub is_rooted : IsRooted g (table_of t)
  is_rooted = record {
    source = λ n l e. let r = and_parts (is_reached t n) (not (hangs t n)) (roots n ∙ e) in (r.0, partial.top n l (not-true (hangs t n) r.1));
    parent = λ n l e. (partial.hung n l (has_parent_is n l ∙ e)).1;
  }

  is_order : IsOrder g t
  is_order = record {
    listed = partial.placed;
    all = partial.all;
    once = partial.once;
    after_upper = λ k l e. partial.after_upper k l (has_parent_is _ (partial.placed k l).0 ∙ e);
  }

  pub is_traversed : IsWhole g (table_of t) → IsTraversed g t
  is_traversed whole = record {
    parents_each = partial.parents_each;
    depths_each = partial.depths_each;
    rooted = is_rooted;
    whole = whole;
    parents = has_parent_is;
    order = is_order;
    shallow = λ n l e. let short = order_short g t partial in let a = partial.shallow n l e in omega arith;
  }
