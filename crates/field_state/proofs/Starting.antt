-- The field before the first event.
use Rattle.std.proofs.Common.{◌≡◌, ℕ, ◌+◌, Bool, true, false, cond, [], length, get_or, refl, sym, ap, ◌∙◌, ⊎_elim, arith}
use Rattle.std.specs.Prelude.{◌==◌, None, if◌then◌else◌, slice_index, slice_index_or, replicate}
use Rattle.std.proofs.lemmas.Bool.{cases_lt}
use Rattle.std.proofs.lemmas.List.{get_or-replicate, get_or_past, length-replicate}
use Rattle.grid_model.specs.Parts.{Parts}
use Rattle.grid_model.specs.Places.{node_of, device_at}
use Rattle.grid_model.specs.Sound.{IsSoundParts}
use Rattle.grid_model.specs.declared.history.Mark.TheVariants as mark
use Rattle.grid_model.specs.Problem.{mark_at}
use Rattle.subtree_costs.specs.Costed.{IsCosted}
use Rattle.history_rules.specs.Posed.{at_node}
use Rattle.history_rules.specs.Slots.{since_in, came_back_in}
use Rattle.evidence.specs.Kept.{kept_of, no_evidence, nothing_kept, pull_by}
use Rattle.field_state.specs.Fielded.{Fielded, IsFieldAfter}
use Rattle.field_state.proofs.Totals.{total_zero}

copied : {X : Type 0} (n i : ℕ) (x : X) → get_or (replicate n x) i x ≡ x
copied n i x =
    ⊎_elim
    (λ l. get_or-replicate n i x x l)
    (λ l. get_or_past (replicate n x) i x (let e = length-replicate n x in omega arith))
    (cases_lt i n)

nothing_there : (b : Bool) → ◌≡◌ {A = ℕ} (cond b 0 0) 0
nothing_there true = refl
nothing_there false = refl

nothing_at_node : (g : Parts) (n : ℕ) → at_node g (λ m. 0) n ≡ 0
nothing_at_node g n = total_zero (length g.meters) (λ m. if node_of g m == n then 0 else 0) (λ m l. nothing_there (node_of g m == n))

-- what a new field is made of
pub record IsNew (g : Parts) (f : Fielded) : Type 0 where
  pub sound : IsSoundParts g
  pub time : f.now ≡ 0
  pub count : f.applied ≡ 0
  pub costed : IsCosted g f.costs
  pub closed : (d : ℕ) → slice_index_or f.forest.closed d false ≡ (device_at g d).starts_closed
  pub marks : f.marks ≡ replicate (length g.devices) mark.Nothing
  pub evidence : f.evidence ≡ no_evidence g
  pub dark : f.dark ≡ replicate (length g.nodes) 0
  pub live : f.live ≡ replicate (length g.nodes) 0
  pub due : f.due ≡ replicate (length g.meters + length g.devices) None

module _ (g : Parts) (f : Fielded) (start : IsNew g f) where
  kept_none : (m : ℕ) → kept_of f.evidence m ≡ nothing_kept
  kept_none m = ap (λ e. kept_of e m) start.evidence ∙ copied (length g.meters) m nothing_kept

  no_time : (key : ℕ) → slice_index_or f.due key None ≡ None
  no_time key = ap (λ times. slice_index_or times key None) start.due ∙ copied (length g.meters + length g.devices) key None

  pub is_new : IsFieldAfter g [] f
  is_new = record {
    sound = start.sound;
    history = tt;
    time = start.time;
    count = start.count;
    costed = start.costed;
    forest = start.costed.posed.forest;
    closed = start.closed;
    marks_each = start.costed.posed.marks_each;
    marks = λ d. ap (λ marks. mark_at marks d) start.marks ∙ copied (length g.devices) d mark.Nothing;
    evidence = record {
      settings = ap (λ e. e.settings) start.evidence;
      each = ap (λ e. length e.meters) start.evidence ∙ length-replicate (length g.meters) nothing_kept;
    };
    slots = λ m l. ap (λ k. k.slots) (kept_none m);
    earlier = λ m l. let e = ap (λ k. k.at) (kept_none m) in omega arith;
    pulls = λ m l. ap (pull_by g m) (kept_none m);
    since = λ m l. ap (λ k. since_in g m k.at k.slots) (kept_none m);
    came_back = λ m l. ap (λ k. came_back_in g m k.at k.slots) (kept_none m);
    dark_each = start.costed.posed.dark_each;
    dark = λ n. ap (λ weights. slice_index weights n) start.dark ∙ copied (length g.nodes) n 0 ∙ sym (nothing_at_node g n);
    live_each = start.costed.posed.live_each;
    live = λ n. ap (λ weights. slice_index weights n) start.live ∙ copied (length g.nodes) n 0 ∙ sym (nothing_at_node g n);
    due_each = ap length start.due ∙ length-replicate (length g.meters + length g.devices) None;
    due_meters = λ m l. no_time m;
    due_devices = λ d l. no_time (length g.meters + d);
  }
