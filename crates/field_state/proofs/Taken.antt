-- What a meter weighs takes the place of what it weighed.
use Rattle.std.proofs.Common.{◌≡◌, ◌≢◌, ℕ, ◌+◌, ◌-◌, ◌<◌, ◌≤◌, List, length, set, get_or, sym, ap, ◌∙◌, subst, arith, length-set}
use Rattle.std.proofs.lemmas.List.{set-get_or}
use Rattle.grid_model.specs.Parts.{Parts}
use Rattle.grid_model.specs.Places.{node_of}
use Rattle.grid_model.specs.Sound.{IsSoundParts}
use Rattle.history_rules.specs.Posed.{at_node}
use Rattle.evidence.specs.Kept.{Evident, Kept, kept_of, pull_by}
use Rattle.evidence.specs.declared.Pull.{Pull}
use Rattle.field_state.specs.Fielded.{Fielded}
use Rattle.field_state.specs.FieldKept.{dark_kept, live_kept}
use Rattle.field_state.specs.Weighed.{IsWeighed, WasWeighed}
use Rattle.std.specs.Prelude.{sum}
use Rattle.field_state.proofs.Posing.{sum_at_nodes, nodes_are_meters}
use Rattle.field_state.proofs.Reweighed.{weight_part, node_most, dark_most, live_most, sums_moved}

pub dark_fits : (g : Parts) (m : ℕ) (before : Pull) (f : Fielded) → IsSoundParts g → m < length g.meters → WasWeighed g m before f
    → (before.dark ≤ get_or f.dark (node_of g m) 0) × (get_or f.dark (node_of g m) 0 ≤ 1000000000000)
dark_fits g m before f sound l w =
    let part = weight_part g m (dark_kept g w.was) l in
    let most = node_most g (dark_kept g w.was) 2000000 (node_of g m) (λ k. dark_most g w.was k sound.settings) in
    let sums = w.weighed.dark_sums (node_of g m) in
    let own : before.dark ≡ dark_kept g w.was m = ap (λ p. p.dark) w.weight in
    let few = sound.few_meters in
    (omega arith, omega arith)

pub live_fits : (g : Parts) (m : ℕ) (before : Pull) (f : Fielded) → IsSoundParts g → m < length g.meters → WasWeighed g m before f
    → (before.live ≤ get_or f.live (node_of g m) 0) × (get_or f.live (node_of g m) 0 ≤ 1000000000000)
live_fits g m before f sound l w =
    let part = weight_part g m (live_kept g w.was) l in
    let most = node_most g (live_kept g w.was) 2000000 (node_of g m) (λ k. live_most g w.was k sound.settings) in
    let sums = w.weighed.live_sums (node_of g m) in
    let own : before.live ≡ live_kept g w.was m = ap (λ p. p.live) w.weight in
    let few = sound.few_meters in
    (omega arith, omega arith)

pub after_dark_fits : (g : Parts) (e : Evident) (m : ℕ) (after : Pull) → IsSoundParts g → after ≡ pull_by g m (kept_of e m) → after.dark ≤ 2000000
after_dark_fits g e m after sound w =
    let own : after.dark ≡ dark_kept g e m = ap (λ p. p.dark) w in
    let most = dark_most g e m sound.settings in
    omega arith

pub after_live_fits : (g : Parts) (e : Evident) (m : ℕ) (after : Pull) → IsSoundParts g → after ≡ pull_by g m (kept_of e m) → after.live ≤ 2000000
after_live_fits g e m after sound w =
    let own : after.live ≡ live_kept g e m = ap (λ p. p.live) w in
    let most = live_most g e m sound.settings in
    omega arith

-- a weight in place of another
abbrev pub in_place : List ℕ → ℕ → ℕ → ℕ → List ℕ
in_place sums n before after = set sums n ((get_or sums n 0 - before) + after)

pub taken : (g : Parts) (m : ℕ) (before after : Pull) (f : Fielded) → IsSoundParts g → m < length g.meters → WasWeighed g m before f
    → after ≡ pull_by g m (kept_of f.evidence m)
    → IsWeighed g f.evidence (in_place f.dark (node_of g m) before.dark after.dark) (in_place f.live (node_of g m) before.live after.live)
taken g m before after f sound l w a =
    let at_dark = λ (k : ℕ) (ne : k ≢ m). ap (λ x. dark_by k x) (w.others k ne) in
    let at_live = λ (k : ℕ) (ne : k ≢ m). ap (λ x. live_by k x) (w.others k ne) in
    let within = (sound.meters m l).node in
    let dark_sums = sums_moved g m (dark_kept g w.was) (dark_kept g f.evidence) f.dark l (omega (arith, w.weighed.dark_each)) at_dark w.weighed.dark_sums in
    let live_sums = sums_moved g m (live_kept g w.was) (live_kept g f.evidence) f.live l (omega (arith, w.weighed.live_each)) at_live w.weighed.live_sums in
    record {
      dark_each = length-set f.dark _ _ ∙ w.weighed.dark_each;
      dark_sums = λ n. subst (λ x. get_or x n 0 ≡ at_node g (dark_kept g f.evidence) n) (sym darks) (dark_sums n);
      live_each = length-set f.live _ _ ∙ w.weighed.live_each;
      live_sums = λ n. subst (λ x. get_or x n 0 ≡ at_node g (live_kept g f.evidence) n) (sym lives) (live_sums n);
    }
  where
    dark_by : ℕ → Kept → ℕ
    dark_by k x = (pull_by g k x).dark

    live_by : ℕ → Kept → ℕ
    live_by k x = (pull_by g k x).live

    darks : in_place f.dark (node_of g m) before.dark after.dark ≡ in_place f.dark (node_of g m) (dark_kept g w.was m) (dark_kept g f.evidence m)
    darks = ap (λ b. in_place f.dark (node_of g m) b after.dark) (ap (λ p. p.dark) w.weight) ∙ ap (in_place f.dark (node_of g m) (dark_kept g w.was m)) (ap (λ p. p.dark) a)

    lives : in_place f.live (node_of g m) before.live after.live ≡ in_place f.live (node_of g m) (live_kept g w.was m) (live_kept g f.evidence m)
    lives = ap (λ b. in_place f.live (node_of g m) b after.live) (ap (λ p. p.live) w.weight) ∙ ap (in_place f.live (node_of g m) (live_kept g w.was m)) (ap (λ p. p.live) a)

-- nothing in place of what weighs the same
same_in_place : (sums : List ℕ) (n before after : ℕ) → before ≡ after → before ≤ get_or sums n 0 → in_place sums n before after ≡ sums
same_in_place sums n before after e l =
    ap (set sums n) (let q : (get_or sums n 0 - before) + after ≡ get_or sums n 0 = omega arith in q) ∙ set-get_or sums n 0

-- where a meter weighs what it weighed, the sums stay
pub untaken : (g : Parts) (m : ℕ) (before after : Pull) (f : Fielded) → IsSoundParts g → m < length g.meters → WasWeighed g m before f
    → after ≡ pull_by g m (kept_of f.evidence m) → before.dark ≡ after.dark → before.live ≡ after.live → IsWeighed g f.evidence f.dark f.live
untaken g m before after f sound l w a same_dark same_live =
    subst (λ xs. IsWeighed g f.evidence xs f.live) (same_in_place f.dark (node_of g m) before.dark after.dark same_dark (dark_fits g m before f sound l w).0)
    (subst (IsWeighed g f.evidence (in_place f.dark (node_of g m) before.dark after.dark))
    (same_in_place f.live (node_of g m) before.live after.live same_live (live_fits g m before f sound l w).0)
    (taken g m before after f sound l w a))

-- the same, where the old sums were read
pub taken_in : (g : Parts) (m : ℕ) (before after : Pull) (f : Fielded) → IsSoundParts g → m < length g.meters → WasWeighed g m before f
    → after ≡ pull_by g m (kept_of f.evidence m) → (n x y : ℕ) → n ≡ node_of g m → x ≡ get_or f.dark n 0 → y ≡ get_or f.live n 0
    → IsWeighed g f.evidence (set f.dark n ((x - before.dark) + after.dark)) (set f.live n ((y - before.live) + after.live))
taken_in g m before after f sound l w a n x y is is_x is_y =
    subst (λ k. IsWeighed g f.evidence (set f.dark n ((k - before.dark) + after.dark)) (set f.live n ((y - before.live) + after.live))) (sym is_x)
    (subst (λ k. IsWeighed g f.evidence (in_place f.dark n before.dark after.dark) (set f.live n ((k - before.live) + after.live))) (sym is_y)
    (subst (λ k. IsWeighed g f.evidence (in_place f.dark k before.dark after.dark) (in_place f.live k before.live after.live)) (sym is)
    (taken g m before after f sound l w a)))

-- the sums of what is kept are within the bounds of a problem
pub sums_are_small : (g : Parts) (e : Evident) (darks lives : List ℕ) → IsSoundParts g → IsWeighed g e darks lives → (sum darks ≤ 1000000000000) × (sum lives ≤ 1000000000000)
sums_are_small g e darks lives sound w =
    let dark = sum_at_nodes g darks (dark_kept g e) w.dark_each w.dark_sums in
    let live = sum_at_nodes g lives (live_kept g e) w.live_each w.live_sums in
    let dark_total = nodes_are_meters g (dark_kept g e) 2000000 (λ m l. dark_most g e m sound.settings) in
    let live_total = nodes_are_meters g (live_kept g e) 2000000 (λ m l. live_most g e m sound.settings) in
    let few = sound.few_meters in
    (omega arith, omega arith)
