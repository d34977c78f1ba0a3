-- Sums and times follow what is kept, from one meter's change to the next.
use Rattle.std.proofs.Common.{◌≡◌, ◌≢◌, ℕ, ◌+◌, ◌<◌, ◌≤◌, List, length, set, get_or, Option, Some, None, option_map, refl, sym, ap, ◌∙◌, subst, ⊎_elim, arith, length-set, get_or-set_same, get_or-set_other}
use Rattle.std.proofs.lemmas.Bool.{cases_eq}
use Rattle.grid_model.specs.Parts.{Parts}
use Rattle.grid_model.specs.declared.history.Event.{Event}
use Rattle.history_rules.specs.Slots.{Slots, due_in}
use Rattle.evidence.specs.Kept.{Evident, Kept, IsEvidenceOf, kept_of, keeping, nothing_kept, pull_by, stamp_at}
use Rattle.evidence.specs.declared.Pull.{Pull}
use Rattle.field_state.specs.Fielded.{Fielded}
use Rattle.field_state.specs.FieldKept.{IsFieldKept}
use Rattle.field_state.specs.Weighed.{IsWeighed, WasWeighed, IsTallied, IsTalliedBut}
use Rattle.field_state.specs.Acted.{IsMarkedBy}
use Rattle.grid_model.specs.declared.history.Mark.{Mark}

-- what is kept of the meter that changes, and of the others
pub kept_here : (e : Evident) (m : ℕ) (s : Slots) (t : ℕ) → m < length e.meters → kept_of (keeping e m s t) m ≡ record { slots = s; at = t }
kept_here e m s t l = get_or-set_same e.meters m (record { slots = s; at = t }) nothing_kept l

pub kept_there : (e : Evident) (m k : ℕ) (s : Slots) (t : ℕ) → k ≢ m → kept_of (keeping e m s t) k ≡ kept_of e k
kept_there e m k s t ne = get_or-set_other e.meters m k (record { slots = s; at = t }) nothing_kept ne

-- the evidence before a change, for `take_pull`
pub was_weighed : (g : Parts) (m t : ℕ) (s : Slots) (before : Pull) (f new : Fielded) → IsWeighed g f.evidence f.dark f.live
    → before ≡ pull_by g m (kept_of f.evidence m) → new.evidence ≡ keeping f.evidence m s t → new.dark ≡ f.dark → new.live ≡ f.live
    → WasWeighed g m before new
was_weighed g m t s before f new w b e d l = record {
  was = f.evidence;
  weighed = subst (λ x. IsWeighed g f.evidence x new.live) (sym d) (subst (λ x. IsWeighed g f.evidence f.dark x) (sym l) w);
  others = λ k ne. ap (λ x. kept_of x k) e ∙ kept_there f.evidence m k s t ne;
  weight = b;
}

-- an option of stamps, by numbers
pub numbers_of : (o : Option ℕ) → option_map (λ t. t.0) (option_map stamp_at o) ≡ o
numbers_of None = refl
numbers_of (Some t) = refl

-- the time of a pull
pub due_of_pull : (g : Parts) (m : ℕ) (k : Kept) (after : Pull) → after ≡ pull_by g m k → option_map (λ t. t.0) after.due ≡ due_in g m k.at k.slots
due_of_pull g m k after e = ap (λ p. option_map (λ t. t.0) p.due) e ∙ numbers_of (due_in g m k.at k.slots)

abbrev pub due_by : Parts → ℕ → Kept → Option ℕ
due_by g m k = due_in g m k.at k.slots

-- a meter's change, taken
pub tallied_after : (g : Parts) (m t : ℕ) (s : Slots) (f new : Fielded) → IsTalliedBut g t m f → m < length g.meters
    → new.evidence ≡ keeping f.evidence m s t → IsWeighed g new.evidence new.dark new.live → new.due ≡ set f.due m (due_in g m t s)
    → IsTallied g t new
tallied_after g m t s f new tallied l e weighed due = record {
  evidence = record {
    settings = ap (λ x. x.settings) e ∙ tallied.evidence.settings;
    each = ap (λ x. length x.meters) e ∙ length-set f.evidence.meters m _ ∙ tallied.evidence.each;
  };
  earlier = λ k n. subst (λ x. (kept_of x k).at ≤ t) (sym e) (earlier k n);
  weighed = weighed;
  due_each = ap length due ∙ length-set f.due m _ ∙ tallied.due_each;
  due_meters = λ k n. ap (λ x. get_or x k None) due ∙ dues_at k n ∙ sym (ap (λ x. due_by g k (kept_of x k)) e);
}
  where
    within : m < length f.evidence.meters
    within = omega (arith, tallied.evidence.each)

    timed : m < length f.due
    timed = omega (arith, tallied.due_each)

    earlier : (k : ℕ) → k < length g.meters → (kept_of (keeping f.evidence m s t) k).at ≤ t
    earlier k n =
        ⊎_elim
        (λ q. subst (λ j. (kept_of (keeping f.evidence m s t) j).at ≤ t) (sym q) (subst (λ x. x.at ≤ t) (sym (kept_here f.evidence m s t within)) (let z : t ≤ t = omega arith in z)))
        (λ ne. subst (λ x. x.at ≤ t) (sym (kept_there f.evidence m k s t ne)) (tallied.earlier k n))
        (cases_eq k m)

    dues_at : (k : ℕ) → k < length g.meters → get_or (set f.due m (due_in g m t s)) k None ≡ due_by g k (kept_of (keeping f.evidence m s t) k)
    dues_at k n =
        ⊎_elim
        (λ q. subst (λ j. get_or (set f.due m (due_in g m t s)) j None ≡ due_by g j (kept_of (keeping f.evidence m s t) j)) (sym q)
        (get_or-set_same f.due m (due_in g m t s) None timed ∙ sym (ap (due_by g m) (kept_here f.evidence m s t within))))
        (λ ne. get_or-set_other f.due m k (due_in g m t s) None ne ∙ tallied.due_others k n ne ∙ sym (ap (due_by g k) (kept_there f.evidence m k s t ne)))
        (cases_eq k m)

-- what is tallied of a field that is kept
pub tallied_of : (g : Parts) (h : List Event) (t : ℕ) (f : Fielded) → IsFieldKept g h t f → IsTallied g t f
tallied_of g h t f k = record {
  evidence = k.evidence;
  earlier = k.earlier;
  weighed = record { dark_each = k.dark_each; dark_sums = k.dark; live_each = k.live_each; live_sums = k.live };
  due_each = k.due_each;
  due_meters = k.due_meters;
}

pub tallied_but : (g : Parts) (m t : ℕ) (f : Fielded) → IsTallied g t f → IsTalliedBut g t m f
tallied_but g m t f k = record { evidence = k.evidence; earlier = k.earlier; weighed = k.weighed; due_each = k.due_each; due_others = λ j n ne. k.due_meters j n }

-- the time of the meter that changes
pub due_here : (g : Parts) (m t : ℕ) (s : Slots) (e new : Evident) (after : Pull) → m < length e.meters → new ≡ keeping e m s t
    → after ≡ pull_by g m (kept_of new m) → option_map (λ t. t.0) after.due ≡ due_in g m t s
due_here g m t s e new after l k p = due_of_pull g m (kept_of new m) after p ∙ ap (λ x. due_by g m (kept_of x m)) k ∙ ap (due_by g m) (kept_here e m s t l)

-- the sums follow what is kept as before
pub tallied_marked : (g : Parts) (t d : ℕ) (mark : Mark) (end : Option ℕ) (old new : Fielded) → IsTallied g t old → IsMarkedBy g d mark end old new → IsTallied g t new
tallied_marked g t d mark end old new tallied by = record {
  evidence = subst (IsEvidenceOf g) (sym by.evidence) tallied.evidence;
  earlier = λ m lm. subst (λ e. (kept_of e m).at ≤ t) (sym by.evidence) (tallied.earlier m lm);
  weighed =
      let a = subst (λ e. IsWeighed g e old.dark old.live) (sym by.evidence) tallied.weighed in
      let b = subst (λ xs. IsWeighed g new.evidence xs old.live) (sym by.dark) a in
      subst (IsWeighed g new.evidence new.dark) (sym by.live) b;
  due_each = ap length by.due ∙ length-set old.due (length g.meters + d) end ∙ tallied.due_each;
  due_meters = λ m lm.
      ap (λ xs. get_or xs m None) by.due
      ∙ get_or-set_other old.due (length g.meters + d) m end None (λ q. absurd (let e : m ≡ length g.meters + d = q in omega arith))
      ∙ tallied.due_meters m lm
      ∙ sym (ap (λ e. due_in g m (kept_of e m).at (kept_of e m).slots) by.evidence);
}
