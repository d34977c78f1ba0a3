-- From how a run ends alone: what is known of a replay that is done.
use Rattle.std.proofs.Common.{◌≡◌, ℕ, List, [], Option, Some, sym, subst}
use Rattle.std.specs.Io.KnownBytes.{Appends}
use Rattle.std.proofs.lemmas.List.{append-nil}
use Rattle.event_rules.specs.Lines.{lines}
use Rattle.history_rules.specs.Output.{entries}
use Rattle.history_rules.specs.Posed.{diagnosis_after}
use Rattle.history_rules.specs.Run.{history_in}
use Rattle.outage_ports.specs.Bytes.{Files}
use Rattle.command_words.specs.Forms.{Places, Command, Replay}
use Rattle.command_words.specs.declared.words.Wish.{Wish}
use Rattle.run_rules.specs.Run.{run_of, Replays}
use Rattle.run_rules.specs.Ends.{IsEnd}
use Rattle.run_rules.specs.declared.status.Status.{Status}
use Rattle.run_rules.specs.declared.status.Status.TheVariants.{Done}
use Rattle.run_tests.specs.Shown.{PrintsLeast}

module _ (files : Files) (left_before left before now : Option (List ℕ)) (places : Places) (wish : Wish) where
  of_replay : Replays files (run_of (Some files) left_before left before now (Some (Replay places wish))) places wish → PrintsLeast before now
  of_replay done =
      let whole = sym (append-nil (lines done.can.events)) in
      let told = done.told.after (lines done.can.events) [] whole in
      let front = done.told.in_output (lines done.can.events) [] wish whole in
      record {
        parts = done.can.parts;
        events = done.can.events;
        rows = entries done.can.parts 1 [] (lines done.can.events);
        more = front.0;
        written = subst (Appends before now) front.1 done.written;
        cut = diagnosis_after done.can.parts (history_in done.can.parts [] (lines done.can.events));
        shown = told.shown;
        feasible = told.diagnosis.least.feasible;
        least = told.diagnosis.least.least;
      }

-- the row of Done, where the files are told and the words ask for a replay
pub prints_least : (told : Option Files) (left_before left before now : Option (List ℕ)) (command : Option Command) (status : Status) → IsEnd (run_of told left_before left before now command) status →
    status ≡ Done → (files : Files) (places : Places) (wish : Wish) → told ≡ Some files → command ≡ Some (Replay places wish) → PrintsLeast before now
prints_least told left_before left before now command status end is files places wish are asked =
    of_replay files left_before left before now places wish
    (subst (λ (k : Option Command). IsEnd (run_of (Some files) left_before left before now k) Done) asked
    (subst (λ (f : Option Files). IsEnd (run_of f left_before left before now command) Done) are
    (subst (IsEnd (run_of told left_before left before now command)) is end)))
