-- Recording a judgement leads from the ledger of the events before to that of all.
use Rattle.std.proofs.Common.{◌≡◌, ℕ, ◌<◌, Bool, false, not, List, [], ◌∷◌, length, map, get_or, sym, ap, ◌∙◌, arith}
use Rattle.std.proofs.lemmas.List.{length-map, get_or-map}
use Rattle.outage_rules.specs.Network.{is_live}
use Rattle.grid_model.specs.Parts.{Parts}
use Rattle.grid_model.specs.Places.{node_of}
use Rattle.grid_model.specs.Sound.{IsSoundParts}
use Rattle.grid_model.specs.declared.history.Event.{Event}
use Rattle.grid_model.specs.declared.history.Stamp.{Stamp}
use Rattle.history_rules.specs.State.{network_after}
use Rattle.history_rules.specs.Posed.{problem_after, diagnosis_after}
use Rattle.history_rules.specs.Ledger.{Interrupted, interrupted_first, interrupted_by, is_judged_dark}
use Rattle.diagnosis.specs.Judgement.{Judgement, TellsDark, opened_by}
use Rattle.interruption_ledger.specs.Laws.{LedgerIsKept}
use Rattle.interruption_ledger.specs.Ledgered.{Ledgered}
use Rattle.outage_engine.specs.Recording.{is_meter_dark, recorded, IsFirstLedger, AreFlagsOf, IsRecorded, IsLedgerAfter}

-- a meter is judged dark where its node is flagged
tells_meter : (g : Parts) (h : List Event) (j : Judgement) → IsSoundParts g → TellsDark (problem_after g h) j → opened_by j ≡ diagnosis_after g h
    → (m : ℕ) → m < length g.meters → is_meter_dark g j m ≡ is_judged_dark g m h
unfolding is_judged_dark problem_after
tells_meter g h j sound tells opened m within =
    tells (node_of g m) (sound.meters m within).node
    ∙ ap (λ cut. not (is_live (network_after g h) cut (node_of g m))) opened

pub first_ledger_is : (g : Parts) (j : Judgement) (l : Ledgered) → IsSoundParts g → TellsDark (problem_after g []) j → opened_by j ≡ diagnosis_after g []
    → IsFirstLedger g j l → IsLedgerAfter g [] l
first_ledger_is g j l sound tells opened first = record {
  each = first.each;
  kept = λ m within. first.first m within ∙ ap interrupted_first (tells_meter g [] j sound tells opened m within);
}

one_more : (m : ℕ) (t : Stamp) (b now before : Bool) (k of_events : Interrupted) → b ≡ now → k ≡ of_events → of_events.dark ≡ before
    → recorded m t b k ≡ interrupted_by m t now before of_events
one_more m t b now before k of_events is_now is_kept is_before =
    ap (λ d. recorded m t d k) is_now
    ∙ ap (recorded m t now) is_kept
    ∙ ap (λ d. interrupted_by m t now d of_events) is_before

pub next_ledger_is : (g : Parts) (h : List Event) (e : Event) (j : Judgement) (old new : Ledgered) → LedgerIsKept → IsSoundParts g
    → TellsDark (problem_after g (e ∷ h)) j → opened_by j ≡ diagnosis_after g (e ∷ h)
    → IsLedgerAfter g h old → IsRecorded g j e.time old new → IsLedgerAfter g (e ∷ h) new
next_ledger_is g h e j old new law sound tells opened was recorded = record {
  each = recorded.each ∙ was.each;
  kept = λ m within. recorded.done m within
      ∙ one_more m e.time _ _ _ _ _ (tells_meter g (e ∷ h) j sound tells opened m within) (was.kept m within) (law m (is_judged_dark g m) h).is_dark;
}

-- before an event the ledger's flags are those of the nodes
pub flags_are : (g : Parts) (h : List Event) (j : Judgement) (l : Ledgered) → LedgerIsKept → IsSoundParts g → TellsDark (problem_after g h) j → opened_by j ≡ diagnosis_after g h
    → IsLedgerAfter g h l → AreFlagsOf g j.dark l
flags_are g h j l law sound tells opened was m within =
    ap (λ k. k.dark) (was.kept m within) ∙ (law m (is_judged_dark g m) h).is_dark ∙ sym (tells_meter g h j sound tells opened m within)

-- the ledger of flags by meter
pub of_flags : (g : Parts) (j : Judgement) (flags : List Bool) (l : Ledgered) → length flags ≡ length g.meters
    → ((m : ℕ) → m < length g.meters → get_or flags m false ≡ is_meter_dark g j m) → l.meters ≡ map interrupted_first flags → IsFirstLedger g j l
of_flags g j flags l count told is = record {
  each = ap length is ∙ length-map flags interrupted_first ∙ count;
  first = λ m within. ap (λ ks. get_or ks m (interrupted_first false)) is
      ∙ get_or-map interrupted_first flags m false (interrupted_first false) (omega arith)
      ∙ ap interrupted_first (told m within);
}
