-- The clock, the count and the places say nothing of the rest of the field.
use Rattle.std.proofs.Common.{ℕ, List}
use Rattle.grid_model.specs.declared.parts.NodeId.{NodeId}
use Rattle.grid_model.specs.Parts.{Parts}
use Rattle.grid_model.specs.declared.history.Event.{Event}
use Rattle.field_state.specs.Fielded.{Fielded}
use Rattle.field_state.specs.FieldKept.{IsMarkKept, IsFieldKept, IsFieldAt}

marks_counted : (g : Parts) (h : List Event) (t : ℕ) (f : Fielded) (clock count d : ℕ) → IsMarkKept g h t f d → IsMarkKept g h t (record f { now = clock; applied = count }) d
marks_counted g h t f clock count d k = record { at = k.at; earlier = k.earlier; mark = k.mark; due = k.due }

pub at_counted : (g : Parts) (h : List Event) (t : ℕ) (f : Fielded) (clock count : ℕ) → IsFieldAt g h t f → IsFieldAt g h t (record f { now = clock; applied = count })
at_counted g h t f clock count at =
    let k = at.kept in
    record {
      kept = record {
        sound = k.sound;
        history = k.history;
        later = k.later;
        costed = k.costed;
        forest = k.forest;
        closed = k.closed;
        marks_each = k.marks_each;
        marks = λ d ld. marks_counted g h t f clock count d (k.marks d ld);
        evidence = k.evidence;
        slots = k.slots;
        earlier = k.earlier;
        dark_each = k.dark_each;
        dark = k.dark;
        live_each = k.live_each;
        live = k.live;
        due_each = k.due_each;
        due_meters = k.due_meters;
      };
      at_rest = at.at_rest;
    }

marks_placed : (g : Parts) (h : List Event) (t : ℕ) (f : Fielded) (places : List NodeId) (d : ℕ) → IsMarkKept g h t f d → IsMarkKept g h t (record f { places = places }) d
marks_placed g h t f places d k = record { at = k.at; earlier = k.earlier; mark = k.mark; due = k.due }

pub kept_placed : (g : Parts) (h : List Event) (t : ℕ) (f : Fielded) (places : List NodeId) → IsFieldKept g h t f → IsFieldKept g h t (record f { places = places })
kept_placed g h t f places k = record {
  sound = k.sound;
  history = k.history;
  later = k.later;
  costed = k.costed;
  forest = k.forest;
  closed = k.closed;
  marks_each = k.marks_each;
  marks = λ d ld. marks_placed g h t f places d (k.marks d ld);
  evidence = k.evidence;
  slots = k.slots;
  earlier = k.earlier;
  dark_each = k.dark_each;
  dark = k.dark;
  live_each = k.live_each;
  live = k.live;
  due_each = k.due_each;
  due_meters = k.due_meters;
}
