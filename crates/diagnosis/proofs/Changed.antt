-- Flags that were judged disagree with later rows where a row or a mark changed alone.
use Rattle.std.proofs.Common.{◌≡◌, ◌≢◌, ℕ, ◌+◌, ◌<◌, false, refl, sym, ap, ◌∙◌, subst, inl, inr, ⊎_elim, length, Some, None, Option}
use Rattle.std.specs.Prelude.{◌⊎◌}
use Rattle.std.proofs.lemmas.Bool.{cases_eq}
use Rattle.outage_rules.specs.Certificate.{other_end}
use Rattle.grid_model.specs.declared.parts.DeviceId.{DeviceId}
use Rattle.grid_model.specs.declared.history.Mark.{Mark}
use Rattle.grid_model.specs.declared.history.Mark.TheVariants.{Nothing, Opened, Fine}
use Rattle.grid_model.specs.Places.{device_at}
use Rattle.grid_model.specs.Network.{network_of}
use Rattle.grid_model.specs.Problem.{mark_at}
use Rattle.radial_forest.specs.Traversed.{parent_in}
use Rattle.radial_forest.specs.Spreading.{switched}
use Rattle.subtree_costs.specs.declared.rows.Row.{Row}
use Rattle.subtree_costs.specs.Shares.{row_at}
use Rattle.diagnosis.specs.Judgement.{AgreeAtDevice, AgreeAtRoot, flag_in, opened_by, is_dark_by, opens}
use Rattle.subtree_costs.specs.Walks.{IsOnWalks}
use Rattle.diagnosis.specs.Settling.{ChangesCanBeSettled}

abbrev row : ℕ → ℕ → Row
row x y = record { live = x; dark = y }

same_row : (a b : Row) → (a ≡ b) ⊎ (a ≢ b)
same_row a b =
    ⊎_elim
    (λ l. ⊎_elim
    (λ d. inl (ap (λ x. row x a.dark) l ∙ ap (λ y. row b.live y) d))
    (λ d. inr (λ e. d (ap (λ r. r.dark) e)))
    (cases_eq a.dark b.dark))
    (λ l. inr (λ e. l (ap (λ r. r.live) e)))
    (cases_eq a.live b.live)

same_mark : (a b : Mark) → (a ≡ b) ⊎ (a ≢ b)
same_mark Nothing Nothing = inl refl
same_mark Nothing Opened = inr (λ e. cc)
same_mark Nothing Fine = inr (λ e. cc)
same_mark Opened Nothing = inr (λ e. cc)
same_mark Opened Opened = inl refl
same_mark Opened Fine = inr (λ e. cc)
same_mark Fine Nothing = inr (λ e. cc)
same_mark Fine Opened = inr (λ e. cc)
same_mark Fine Fine = inl refl

pub changes_settle : ChangesCanBeSettled
changes_settle g c c' j places judged change = (record { devices = devices; roots = roots }, open_ones)
  where
    on_walks : (n : ℕ) → IsOnWalks (switched g c.forest.closed) c.forest places n → IsOnWalks (switched g c'.forest.closed) c'.forest places n
    on_walks n o = subst (λ f. IsOnWalks (switched g f.closed) f places n) (sym change.forest) o

    hung : (n : ℕ) (o : Option DeviceId) → parent_in c'.forest.parents n ≡ o → parent_in c.forest.parents n ≡ o
    hung n o e = ap (λ f. parent_in f.parents n) (sym change.forest) ∙ e

    devices : (d : DeviceId) (low : ℕ) → low < length g.nodes → parent_in c'.forest.parents low ≡ Some d → (AgreeAtDevice g c' (opened_by j) (is_dark_by j) d.0 low → ⊥)
        → IsOnWalks (switched g c'.forest.closed) c'.forest places low
    devices d low l e differs =
        let at = judged.agree.at low l in
        let was = hung low (Some d) e in
        on_walks low
        (⊎_elim
        (λ r. ⊎_elim
        (λ m. absurd (differs (record {
          opened = at.opened d was
              ∙ ap (λ r. opens (mark_at c.marks d.0) (flag_in j.dark (other_end (network_of g) d.0 low)) ((device_at g d.0).weight + r.dark) r.live) (sym r)
              ∙ ap (λ m. opens m (flag_in j.dark (other_end (network_of g) d.0 low)) ((device_at g d.0).weight + (row_at c'.rows low).dark) (row_at c'.rows low).live) (sym m);
          below = at.below d was;
        })))
        (λ m. change.marks d low l was m)
        (same_mark (mark_at c'.marks d.0) (mark_at c.marks d.0)))
        (λ r. change.rows low l r)
        (same_row (row_at c'.rows low) (row_at c.rows low)))

    roots : (n : ℕ) → n < length g.nodes → parent_in c'.forest.parents n ≡ None → (AgreeAtRoot g (is_dark_by j) n → ⊥) → IsOnWalks (switched g c'.forest.closed) c'.forest places n
    roots n l e differs = absurd (differs ((judged.agree.at n l).top (hung n None e)))

    open_ones : (d : ℕ) → d < length g.devices → flag_in c'.forest.closed d ≡ false → opened_by j d ≡ false
    open_ones d l o = judged.agree.open_ones d l (ap (λ f. flag_in f.closed d) (sym change.forest) ∙ o)
