-- A check of a replay's own report says that it is valid.
use Rattle.std.proofs.Common.{ℕ, List, Option, None, Some, inl, inr, subst, ⊎_elim}
use Rattle.bound_table.specs.Tight.{tight_bounds}
use Rattle.bound_checker.specs.declared.rules.Verdict.TheVariants.{Valid}
use Rattle.outage_ports.specs.Bytes.{Files}
use Rattle.command_words.specs.Forms.{Places, Command, Replay, Check, Trial}
use Rattle.run_rules.specs.Told.{last_problem}
use Rattle.run_rules.specs.Run.{run_of, CanCheck, IsComplete}
use Rattle.run_rules.specs.Ends.{EndsCheck, IsEnd}
use Rattle.replay_laws.specs.RoundTrip.{ReplayIsValid}
use Rattle.outage_cli.specs.Confirmed.{HasOwnReport, IsOwnConfirmed}
use Rattle.run_rules.specs.declared.status.Status.{Status}

-- such a report can be checked, and its bounds are valid
own_check : (files : Files) (places : Places) (report : List ℕ) → ReplayIsValid → HasOwnReport files places report → CanCheck files places report Valid
own_check files places report law own =
    let can = own.can in
    let found = law can.network.bytes can.events can.parts own.wish can.network.grid own.bounds in
    record {
      parts = can.parts;
      events = can.events;
      bounds = tight_bounds (last_problem can.parts can.events);
      network = can.network;
      event_file = can.event_file;
      report_file = record { bytes = _; file = own.report_file; reading = found.read };
      verdict_is = found.verdict;
    }

-- so a run that is complete, and ends as its status says, confirms it
pub own_confirmed : (files : Option Files) (left_before left before now : Option (List ℕ)) (command : Option Command) (status : Status) → ReplayIsValid →
    IsEnd (run_of files left_before left before now command) status → IsComplete files command status → IsOwnConfirmed files before now command status
own_confirmed None left_before left before now command status law end complete = tt
own_confirmed (Some files) left_before left before now None status law end complete = tt
own_confirmed (Some files) left_before left before now (Some (Replay places wish)) status law end complete = tt
own_confirmed (Some files) left_before left before now (Some (Trial n)) status law end complete = tt
own_confirmed (Some files) left_before left before now (Some (Check places report)) status law end complete = λ own.
    ⊎_elim
    (λ e. inl (record { done = e; written = (subst (EndsCheck files (run_of (Some files) left_before left before now (Some (Check places report))) places report) e end).check.written }))
    (λ e. inr e)
    (complete Valid (own_check files places report law own))
