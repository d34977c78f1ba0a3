-- Which statuses are owed: the causes exclude one another.
use Rattle.std.proofs.Common.{◌≡◌, ◌≤◌, ℕ, List, length, take, Option, None, Some, inl, inr, refl, sym, ap, ◌∙◌, arith}
use Rattle.std.specs.Prelude.{◌⊎◌, if◌then◌else◌}
use Rattle.std.proofs.lemmas.Bool.{le-leb}
use Rattle.grid_model.specs.Parts.{Parts}
use Rattle.event_rules.specs.Lines.{lines}
use Rattle.grid_reader.specs.Text.{GridReading, grid_text, IsGrid, IsRefusedAt}
use Rattle.grid_reader.specs.declared.fault.GridRule.{GridRule}
use Rattle.history_rules.specs.Run.{counted, lines_within, ended_lines}
use Rattle.bound_table.specs.Table.{Table}
use Rattle.bound_table.specs.Report.{ReportReading, report_reading, IsRead, IsRefused}
use Rattle.bound_table.specs.declared.bounds.BoundRule.{BoundRule}
use Rattle.bound_checker.specs.declared.rules.Verdict.{Verdict}
use Rattle.bound_checker.specs.declared.rules.Verdict.TheVariants as verdict
use Rattle.outage_ports.specs.Bytes.{Files}
use Rattle.command_words.specs.Forms.{Places, Command, Replay, Check, Trial}
use Rattle.run_rules.specs.Files.{most_network, most_events, most_report, IsTooLong, IsWithin, SaysNetwork, RefusesNetworkAt, HasEvents, HasTooManyLines, HasTooManyBytes, SaysBounds, RefusesReportAt}
use Rattle.run_rules.specs.Told.{verdict_on}
use Rattle.grid_maker.specs.NetworkText.{network_text}
use Rattle.run_rules.specs.Trial.{EndsTrial, CompletesTrial, MakesRefused}
use Rattle.run_rules.specs.Run.{Run, run_of, CanReplay, CanCheck, RefusesNetwork, RefusesReport, IsOverFiles, IsOver, IsDue, status_of, Completes, IsComplete}
use Rattle.run_rules.specs.Ends.{EndsReplay, EndsCheck, EndsAs, IsEnd}
use Rattle.run_rules.specs.declared.status.Status.{Status}
use Rattle.run_rules.specs.declared.status.Status.TheVariants.{Done, Invalid, Usage, ReadFault, WriteFault, NetworkRefused, ReportRefused, Limit, Memory}
use Rattle.run_rules.specs.declared.status.Which.{Which}
use Rattle.command_words.specs.declared.words.Wish.{Wish}
use Rattle.run_rules.specs.declared.status.Which.TheVariants.{NetworkBytes, EventLines, EventBytes, ReportBytes}

-- a file has one text
one_text : (a b : List ℕ) (o : Option (List ℕ)) → o ≡ Some a → o ≡ Some b → a ≡ b
one_text a b o p q = cc

not_long : (files : Files) (name bytes : List ℕ) (most : ℕ) → IsWithin files name most bytes → IsTooLong files name most → ⊥
not_long files name bytes most file long =
    let same = ap length (one_text bytes long.bytes (files name) file.are long.are) in
    let fits = file.fits in
    let more = long.more in absurd (omega arith)

-- one network, or one refusal
one_network : (a b : Parts) (r : GridReading) → r ≡ IsGrid a → r ≡ IsGrid b → a ≡ b
one_network a b r p q = cc

grid_or_refused : (a : Parts) (line : ℕ) (rule : GridRule) (r : GridReading) → r ≡ IsGrid a → r ≡ IsRefusedAt line rule → ⊥
grid_or_refused a line rule r p q = cc

one_grid_refusal : (line other : ℕ) (rule rival : GridRule) (r : GridReading) → r ≡ IsRefusedAt line rule → r ≡ IsRefusedAt other rival → NetworkRefused line rule ≡ NetworkRefused other rival
one_grid_refusal line other rule rival r p q = cc

-- one table, or one refusal
one_table : (a b : Table) (r : ReportReading) → r ≡ IsRead a → r ≡ IsRead b → a ≡ b
one_table a b r p q = cc

read_or_refused : (a : Table) (line : ℕ) (rule : BoundRule) (r : ReportReading) → r ≡ IsRead a → r ≡ IsRefused line rule → ⊥
read_or_refused a line rule r p q = cc

one_report_refusal : (line other : ℕ) (rule rival : BoundRule) (r : ReportReading) → r ≡ IsRefused line rule → r ≡ IsRefused other rival → ReportRefused line rule ≡ ReportRefused other rival
one_report_refusal line other rule rival r p q = cc

-- a trial over a network that is made is done, or memory ran out
pub trial_completes : (before now : Option (List ℕ)) (n : ℕ) (status : Status) → EndsTrial before now n status → (status ≡ WriteFault → ⊥) → CompletesTrial n status
trial_completes before now n Done end write parts is = inl refl
trial_completes before now n (Invalid rule) end write parts is = absurd end
trial_completes before now n Usage end write parts is = absurd end
trial_completes before now n ReadFault end write parts is = absurd end
trial_completes before now n WriteFault end write parts is = absurd (write refl)
trial_completes before now n (NetworkRefused line rule) end write parts is = absurd (grid_or_refused parts line rule (grid_text (network_text n)) is end)
trial_completes before now n (ReportRefused line rule) end write parts is = absurd end
trial_completes before now n (Limit which) end write parts is = absurd end
trial_completes before now n Memory end write parts is = inr refl

module _ (files : Files) where
  module _ (name : List ℕ) where
    same_parts : (g h : Parts) → SaysNetwork files name g → SaysNetwork files name h → g ≡ h
    same_parts g h p q =
        one_network g h (grid_text q.bytes) (sym (ap grid_text (one_text p.bytes q.bytes (files name) p.file.are q.file.are)) ∙ p.grid) q.grid

    says_or_refused : (g : Parts) (line : ℕ) (rule : GridRule) → SaysNetwork files name g → RefusesNetworkAt files name line rule → ⊥
    says_or_refused g line rule p q =
        grid_or_refused g line rule (grid_text q.bytes) (sym (ap grid_text (one_text p.bytes q.bytes (files name) p.file.are q.file.are)) ∙ p.grid) q.refused

    refused_once : (line other : ℕ) (rule rival : GridRule) → RefusesNetworkAt files name line rule → RefusesNetworkAt files name other rival → NetworkRefused line rule ≡ NetworkRefused other rival
    refused_once line other rule rival p q =
        one_grid_refusal line other rule rival (grid_text q.bytes) (sym (ap grid_text (one_text p.bytes q.bytes (files name) p.file.are q.file.are)) ∙ p.refused) q.refused

    -- events are within their limits, or have too many lines, or too many bytes
    whole_lines : (bytes : List ℕ) → length bytes ≤ most_events → lines_within most_events bytes ≡ lines bytes
    whole_lines bytes fits = ap (λ b. if b then lines bytes else ended_lines (take most_events bytes)) (le-leb (length bytes) most_events fits)

    few_or_many : (a b : List ℕ) → HasEvents files name a → HasTooManyLines files name b → ⊥
    few_or_many a b p q =
        let same = one_text a b (files name) p.file.are q.are in
        let whole = ap (λ ls. length (counted ls)) (ap (lines_within most_events) (sym same) ∙ whole_lines a p.file.fits) in
        let few = p.few in
        let many = q.many in absurd (omega arith)

    few_or_more : (a b : List ℕ) → HasEvents files name a → HasTooManyBytes files name b → ⊥
    few_or_more a b p q =
        let same = ap length (one_text a b (files name) p.file.are q.are) in
        let fits = p.file.fits in
        let more = q.more in absurd (omega arith)

    many_or_more : (a b : List ℕ) → HasTooManyLines files name a → HasTooManyBytes files name b → ⊥
    many_or_more a b p q =
        let same = ap (λ bytes. length (counted (lines_within most_events bytes))) (one_text a b (files name) p.are q.are) in
        let many = p.many in
        let few = q.few in absurd (omega arith)

    same_events : (a b : List ℕ) → HasEvents files name a → HasEvents files name b → a ≡ b
    same_events a b p q = one_text a b (files name) p.file.are q.file.are

    -- the report of a network has bounds, or is refused
    same_bounds : (g h : Parts) (a b : Table) → g ≡ h → SaysBounds files name g a → SaysBounds files name h b → a ≡ b
    same_bounds g h a b e p q =
        one_table a b (report_reading h q.bytes)
        (sym (ap (λ p. report_reading p q.bytes) e) ∙ sym (ap (report_reading g) (one_text p.bytes q.bytes (files name) p.file.are q.file.are)) ∙ p.reading) q.reading

    bounds_or_refused : (g h : Parts) (a : Table) (line : ℕ) (rule : BoundRule) → g ≡ h → SaysBounds files name g a → RefusesReportAt files name h line rule → ⊥
    bounds_or_refused g h a line rule e p q =
        read_or_refused a line rule (report_reading h q.bytes)
        (sym (ap (λ p. report_reading p q.bytes) e) ∙ sym (ap (report_reading g) (one_text p.bytes q.bytes (files name) p.file.are q.file.are)) ∙ p.reading) q.refused

    report_refused_once : (g h : Parts) (line other : ℕ) (rule rival : BoundRule) → g ≡ h → RefusesReportAt files name g line rule → RefusesReportAt files name h other rival →
        ReportRefused line rule ≡ ReportRefused other rival
    report_refused_once g h line other rule rival e p q =
        one_report_refusal line other rule rival (report_reading h q.bytes)
        (sym (ap (λ p. report_reading p q.bytes) e) ∙ sym (ap (report_reading g) (one_text p.bytes q.bytes (files name) p.file.are q.file.are)) ∙ p.refused) q.refused

  -- a refused network has no other cause
  refused_or_over_files : (places : Places) (line : ℕ) (rule : GridRule) (which : Which) → RefusesNetworkAt files places.net line rule → IsOverFiles files places which → ⊥
  refused_or_over_files places line rule NetworkBytes r o = not_long files places.net r.bytes most_network r.file o
  refused_or_over_files places line rule EventLines r o = says_or_refused places.net o.parts line rule o.network r
  refused_or_over_files places line rule EventBytes r o = says_or_refused places.net o.parts line rule o.network r
  refused_or_over_files places line rule ReportBytes r o = absurd o

  refused_or_over : (command : Command) (line : ℕ) (rule : GridRule) (which : Which) → RefusesNetwork files command line rule → IsOver files command which → ⊥
  refused_or_over (Replay places wish) line rule which r o = refused_or_over_files places line rule which r o
  refused_or_over (Check places report) line rule NetworkBytes r o = refused_or_over_files places line rule NetworkBytes r o
  refused_or_over (Check places report) line rule EventLines r o = refused_or_over_files places line rule EventLines r o
  refused_or_over (Check places report) line rule EventBytes r o = refused_or_over_files places line rule EventBytes r o
  refused_or_over (Check places report) line rule ReportBytes r o = says_or_refused places.net o.0.parts line rule o.0.network r
  refused_or_over (Trial n) line rule which r o = absurd o

  -- what can be replayed meets no limit of its files
  can_or_refused : (places : Places) (line : ℕ) (rule : GridRule) → CanReplay files places → RefusesNetworkAt files places.net line rule → ⊥
  can_or_refused places line rule can r = says_or_refused places.net can.parts line rule can.network r

  can_or_long : (places : Places) → CanReplay files places → IsTooLong files places.net most_network → ⊥
  can_or_long places can long = not_long files places.net can.network.bytes most_network can.network.file long

  replay_or_over : (places : Places) (wish : Wish) (which : Which) → CanReplay files places → IsOver files (Replay places wish) which → ⊥
  replay_or_over places wish NetworkBytes can o = can_or_long places can o
  replay_or_over places wish EventLines can o = few_or_many places.events can.events o.bytes can.event_file o.many
  replay_or_over places wish EventBytes can o = few_or_more places.events can.events o.bytes can.event_file o.long
  replay_or_over places wish ReportBytes can o = absurd o

  -- nor does what can be checked
  can_of : (places : Places) (report : List ℕ) (v : Verdict) → CanCheck files places report v → CanReplay files places
  can_of places report v can = record { parts = can.parts; events = can.events; network = can.network; event_file = can.event_file }

  check_or_over : (places : Places) (report : List ℕ) (v : Verdict) (which : Which) → CanCheck files places report v → IsOver files (Check places report) which → ⊥
  check_or_over places report v NetworkBytes can o = can_or_long places (can_of places report v can) o
  check_or_over places report v EventLines can o = few_or_many places.events can.events o.bytes can.event_file o.many
  check_or_over places report v EventBytes can o = few_or_more places.events can.events o.bytes can.event_file o.long
  check_or_over places report v ReportBytes can o = not_long files report can.report_file.bytes most_report can.report_file.file o.1

  check_or_refused : (places : Places) (report : List ℕ) (v : Verdict) (line : ℕ) (rule : BoundRule) → CanCheck files places report v → RefusesReport files (Check places report) line rule → ⊥
  check_or_refused places report v line rule can r =
      bounds_or_refused report can.parts r.can.parts can.bounds line rule (same_parts places.net can.parts r.can.parts can.network r.can.network) can.report_file r.refused

  refused_or_long : (places : Places) (report : List ℕ) (line : ℕ) (rule : BoundRule) (which : Which) → RefusesReport files (Check places report) line rule → IsOver files (Check places report) which → ⊥
  refused_or_long places report line rule NetworkBytes r o = can_or_long places r.can o
  refused_or_long places report line rule EventLines r o = few_or_many places.events r.can.events o.bytes r.can.event_file o.many
  refused_or_long places report line rule EventBytes r o = few_or_more places.events r.can.events o.bytes r.can.event_file o.long
  refused_or_long places report line rule ReportBytes r o = not_long files report r.refused.bytes most_report r.refused.file o.1

  one_check : (places : Places) (report : List ℕ) (v w : Verdict) → CanCheck files places report v → CanCheck files places report w → v ≡ w
  one_check places report v w p q =
      let parts = same_parts places.net p.parts q.parts p.network q.network in
      let events = same_events places.events p.events q.events p.event_file q.event_file in
      let bounds = same_bounds report p.parts q.parts p.bounds q.bounds parts p.report_file q.report_file in
      sym p.verdict_is ∙ ap (λ g. verdict_on g p.events p.bounds) parts ∙ ap (λ xs. verdict_on q.parts xs p.bounds) events ∙ ap (verdict_on q.parts q.events) bounds ∙ q.verdict_is

  -- one limit is met first
  network_or_later : (places : Places) (g : Parts) → SaysNetwork files places.net g → IsTooLong files places.net most_network → ⊥
  network_or_later places g says long = not_long files places.net says.bytes most_network says.file long

  one_files_limit : (places : Places) (a b : Which) → IsOverFiles files places a → IsOverFiles files places b → Limit a ≡ Limit b
  one_files_limit places NetworkBytes NetworkBytes p q = refl
  one_files_limit places NetworkBytes EventLines p q = absurd (network_or_later places q.parts q.network p)
  one_files_limit places NetworkBytes EventBytes p q = absurd (network_or_later places q.parts q.network p)
  one_files_limit places NetworkBytes ReportBytes p q = absurd q
  one_files_limit places EventLines NetworkBytes p q = absurd (network_or_later places p.parts p.network q)
  one_files_limit places EventLines EventLines p q = refl
  one_files_limit places EventLines EventBytes p q = absurd (many_or_more places.events p.bytes q.bytes p.many q.long)
  one_files_limit places EventLines ReportBytes p q = absurd q
  one_files_limit places EventBytes NetworkBytes p q = absurd (network_or_later places p.parts p.network q)
  one_files_limit places EventBytes EventLines p q = absurd (many_or_more places.events q.bytes p.bytes q.many p.long)
  one_files_limit places EventBytes EventBytes p q = refl
  one_files_limit places EventBytes ReportBytes p q = absurd q
  one_files_limit places ReportBytes b p q = absurd p

  one_limit : (command : Command) (a b : Which) → IsOver files command a → IsOver files command b → Limit a ≡ Limit b
  one_limit (Replay places wish) a b p q = one_files_limit places a b p q
  one_limit (Check places report) ReportBytes ReportBytes p q = refl
  one_limit (Check places report) NetworkBytes ReportBytes p q = absurd (can_or_long places q.0 p)
  one_limit (Check places report) EventLines ReportBytes p q = absurd (few_or_many places.events q.0.events p.bytes q.0.event_file p.many)
  one_limit (Check places report) EventBytes ReportBytes p q = absurd (few_or_more places.events q.0.events p.bytes q.0.event_file p.long)
  one_limit (Check places report) ReportBytes NetworkBytes p q = absurd (can_or_long places p.0 q)
  one_limit (Check places report) ReportBytes EventLines p q = absurd (few_or_many places.events p.0.events q.bytes p.0.event_file q.many)
  one_limit (Check places report) ReportBytes EventBytes p q = absurd (few_or_more places.events p.0.events q.bytes p.0.event_file q.long)
  one_limit (Check places report) NetworkBytes NetworkBytes p q = refl
  one_limit (Check places report) NetworkBytes EventLines p q = one_files_limit places NetworkBytes EventLines p q
  one_limit (Check places report) NetworkBytes EventBytes p q = one_files_limit places NetworkBytes EventBytes p q
  one_limit (Check places report) EventLines NetworkBytes p q = one_files_limit places EventLines NetworkBytes p q
  one_limit (Check places report) EventLines EventLines p q = refl
  one_limit (Check places report) EventLines EventBytes p q = one_files_limit places EventLines EventBytes p q
  one_limit (Check places report) EventBytes NetworkBytes p q = one_files_limit places EventBytes NetworkBytes p q
  one_limit (Check places report) EventBytes EventLines p q = one_files_limit places EventBytes EventLines p q
  one_limit (Check places report) EventBytes EventBytes p q = refl
  one_limit (Trial n) a b p q = absurd p

  module _ (run : Run) where
    -- which limit is owed
    over_owed : (command : Command) (status : Status) → EndsAs (Some command) (Some files) run status → (status ≡ ReadFault → ⊥) →
        (which : Which) → IsOver files command which → (status ≡ Limit which) ⊎ ((status ≡ Memory) ⊎ (status ≡ WriteFault))
    over_owed (Trial n) status end read which o = absurd o
    over_owed (Replay places wish) Done end read which o = absurd (replay_or_over places wish which end.can o)
    over_owed (Check places report) Done end read which o = absurd (check_or_over places report verdict.Valid which end.check.can o)
    over_owed (Replay places wish) (Invalid rule) end read which o = absurd end
    over_owed (Check places report) (Invalid rule) end read which o = absurd (check_or_over places report (verdict.Invalid rule end.0) which end.1.can o)
    over_owed (Replay places wish) Usage end read which o = absurd end
    over_owed (Check places report) Usage end read which o = absurd end
    over_owed (Replay places wish) ReadFault end read which o = absurd (read refl)
    over_owed (Check places report) ReadFault end read which o = absurd (read refl)
    over_owed (Replay places wish) WriteFault end read which o = inr (inr refl)
    over_owed (Check places report) WriteFault end read which o = inr (inr refl)
    over_owed (Replay places wish) (NetworkRefused line rule) end read which o = absurd (refused_or_over (Replay places wish) line rule which end.0 o)
    over_owed (Check places report) (NetworkRefused line rule) end read which o = absurd (refused_or_over (Check places report) line rule which end.0 o)
    over_owed (Replay places wish) (ReportRefused line rule) end read which o = absurd end
    over_owed (Check places report) (ReportRefused line rule) end read which o = absurd (refused_or_long places report line rule which end.0 o)
    over_owed (Replay places wish) (Limit a) end read which o = inl (one_limit (Replay places wish) a which end.0 o)
    over_owed (Check places report) (Limit a) end read which o = inl (one_limit (Check places report) a which end.0 o)
    over_owed (Replay places wish) Memory end read which o = inr (inl refl)
    over_owed (Check places report) Memory end read which o = inr (inl refl)

    -- which refusal of the network that is made
    trial_network_owed : (before now : Option (List ℕ)) (n : ℕ) (status : Status) → EndsTrial before now n status →
        (line : ℕ) (rule : GridRule) → MakesRefused n line rule → (status ≡ NetworkRefused line rule) ⊎ (status ≡ Memory)
    trial_network_owed before now n Done end line rule r = absurd (grid_or_refused end.parts line rule (grid_text (network_text n)) end.network r)
    trial_network_owed before now n (Invalid broken) end line rule r = absurd end
    trial_network_owed before now n Usage end line rule r = absurd end
    trial_network_owed before now n ReadFault end line rule r = absurd end
    trial_network_owed before now n WriteFault end line rule r = absurd (grid_or_refused end.parts line rule (grid_text (network_text n)) end.network r)
    trial_network_owed before now n (NetworkRefused other rival) end line rule r = inl (one_grid_refusal other line rival rule (grid_text (network_text n)) end r)
    trial_network_owed before now n (ReportRefused other rival) end line rule r = absurd end
    trial_network_owed before now n (Limit which) end line rule r = absurd end
    trial_network_owed before now n Memory end line rule r = inr refl

    -- which refusal of the network
    replay_network_owed : (places : Places) (wish : Wish) (status : Status) → EndsReplay files run places wish status → (status ≡ ReadFault → ⊥) →
        (line : ℕ) (rule : GridRule) → RefusesNetworkAt files places.net line rule → (status ≡ NetworkRefused line rule) ⊎ (status ≡ Memory)
    replay_network_owed places wish Done end read line rule r = absurd (can_or_refused places line rule end.can r)
    replay_network_owed places wish (Invalid broken) end read line rule r = absurd end
    replay_network_owed places wish Usage end read line rule r = absurd end
    replay_network_owed places wish ReadFault end read line rule r = absurd (read refl)
    replay_network_owed places wish WriteFault end read line rule r = absurd (says_or_refused places.net end.can.parts line rule end.can.network r)
    replay_network_owed places wish (NetworkRefused other rival) end read line rule r = inl (refused_once places.net other line rival rule end.0 r)
    replay_network_owed places wish (ReportRefused other rival) end read line rule r = absurd end
    replay_network_owed places wish (Limit a) end read line rule r = absurd (refused_or_over (Replay places wish) line rule a r end.0)
    replay_network_owed places wish Memory end read line rule r = inr refl

    check_network_owed : (places : Places) (report : List ℕ) (status : Status) → EndsCheck files run places report status → (status ≡ ReadFault → ⊥) →
        (line : ℕ) (rule : GridRule) → RefusesNetworkAt files places.net line rule → (status ≡ NetworkRefused line rule) ⊎ (status ≡ Memory)
    check_network_owed places report Done end read line rule r = absurd (says_or_refused places.net end.check.can.parts line rule end.check.can.network r)
    check_network_owed places report (Invalid broken) end read line rule r = absurd (says_or_refused places.net end.1.can.parts line rule end.1.can.network r)
    check_network_owed places report Usage end read line rule r = absurd end
    check_network_owed places report ReadFault end read line rule r = absurd (read refl)
    check_network_owed places report WriteFault end read line rule r = absurd (says_or_refused places.net end.can.parts line rule end.can.network r)
    check_network_owed places report (NetworkRefused other rival) end read line rule r = inl (refused_once places.net other line rival rule end.0 r)
    check_network_owed places report (ReportRefused other rival) end read line rule r = absurd (can_or_refused places line rule end.0.can r)
    check_network_owed places report (Limit a) end read line rule r = absurd (refused_or_over (Check places report) line rule a r end.0)
    check_network_owed places report Memory end read line rule r = inr refl

    network_owed : (command : Command) (status : Status) → EndsAs (Some command) (Some files) run status → (status ≡ ReadFault → ⊥) →
        (line : ℕ) (rule : GridRule) → RefusesNetwork files command line rule → (status ≡ NetworkRefused line rule) ⊎ (status ≡ Memory)
    network_owed (Replay places wish) status end read line rule r = replay_network_owed places wish status end read line rule r
    network_owed (Check places report) status end read line rule r = check_network_owed places report status end read line rule r
    network_owed (Trial n) status end read line rule r = trial_network_owed run.before run.now n status end line rule r

    -- which refusal of the report
    check_report_owed : (places : Places) (report : List ℕ) (status : Status) → EndsCheck files run places report status → (status ≡ ReadFault → ⊥) →
        (line : ℕ) (rule : BoundRule) → RefusesReport files (Check places report) line rule → (status ≡ ReportRefused line rule) ⊎ (status ≡ Memory)
    check_report_owed places report Done end read line rule r = absurd (check_or_refused places report verdict.Valid line rule end.check.can r)
    check_report_owed places report (Invalid broken) end read line rule r = absurd (check_or_refused places report (verdict.Invalid broken end.0) line rule end.1.can r)
    check_report_owed places report Usage end read line rule r = absurd end
    check_report_owed places report ReadFault end read line rule r = absurd (read refl)
    check_report_owed places report WriteFault end read line rule r = absurd (check_or_refused places report end.verdict line rule end.can r)
    check_report_owed places report (NetworkRefused other rival) end read line rule r = absurd (can_or_refused places other rival r.can end.0)
    check_report_owed places report (ReportRefused other rival) end read line rule r =
        inl (report_refused_once report end.0.can.parts r.can.parts other line rival rule (same_parts places.net end.0.can.parts r.can.parts end.0.can.network r.can.network) end.0.refused r.refused)
    check_report_owed places report (Limit a) end read line rule r = absurd (refused_or_long places report line rule a r end.0)
    check_report_owed places report Memory end read line rule r = inr refl

    report_owed : (command : Command) (status : Status) → EndsAs (Some command) (Some files) run status → (status ≡ ReadFault → ⊥) →
        (line : ℕ) (rule : BoundRule) → RefusesReport files command line rule → (status ≡ ReportRefused line rule) ⊎ (status ≡ Memory)
    report_owed (Replay places wish) status end read line rule r = absurd r
    report_owed (Check places report) status end read line rule r = check_report_owed places report status end read line rule r
    report_owed (Trial n) status end read line rule r = absurd r

    -- what completes a command
    replay_completes : (places : Places) (wish : Wish) (status : Status) → EndsReplay files run places wish status → (status ≡ ReadFault → ⊥) → (status ≡ WriteFault → ⊥) →
        CanReplay files places → (status ≡ Done) ⊎ (status ≡ Memory)
    replay_completes places wish Done end read write can = inl refl
    replay_completes places wish (Invalid rule) end read write can = absurd end
    replay_completes places wish Usage end read write can = absurd end
    replay_completes places wish ReadFault end read write can = absurd (read refl)
    replay_completes places wish WriteFault end read write can = absurd (write refl)
    replay_completes places wish (NetworkRefused line rule) end read write can = absurd (can_or_refused places line rule can end.0)
    replay_completes places wish (ReportRefused line rule) end read write can = absurd end
    replay_completes places wish (Limit which) end read write can = absurd (replay_or_over places wish which can end.0)
    replay_completes places wish Memory end read write can = inr refl

    check_completes : (places : Places) (report : List ℕ) (status : Status) → EndsCheck files run places report status → (status ≡ ReadFault → ⊥) → (status ≡ WriteFault → ⊥) →
        (v : Verdict) → CanCheck files places report v → (status ≡ status_of v) ⊎ (status ≡ Memory)
    check_completes places report Done end read write v can = inl (ap status_of (one_check places report verdict.Valid v end.check.can can))
    check_completes places report (Invalid rule) end read write v can = inl (ap status_of (one_check places report (verdict.Invalid rule end.0) v end.1.can can))
    check_completes places report Usage end read write v can = absurd end
    check_completes places report ReadFault end read write v can = absurd (read refl)
    check_completes places report WriteFault end read write v can = absurd (write refl)
    check_completes places report (NetworkRefused line rule) end read write v can = absurd (can_or_refused places line rule (can_of places report v can) end.0)
    check_completes places report (ReportRefused line rule) end read write v can = absurd (check_or_refused places report v line rule can end.0)
    check_completes places report (Limit which) end read write v can = absurd (check_or_over places report v which can end.0)
    check_completes places report Memory end read write v can = inr refl

    completes : (command : Command) (status : Status) → EndsAs (Some command) (Some files) run status → (status ≡ ReadFault → ⊥) → (status ≡ WriteFault → ⊥) → Completes files command status
    completes (Replay places wish) status end read write = replay_completes places wish status end read write
    completes (Check places report) status end read write = check_completes places report status end read write
    completes (Trial n) status end read write = trial_completes run.before run.now n status end write

module _ (files : Option Files) (left_before left before now : Option (List ℕ)) (command : Option Command) (status : Status) where
  -- a run that ends so is complete
  pub end_complete : IsEnd (run_of files left_before left before now command) status → (status ≡ ReadFault → ⊥) → (status ≡ WriteFault → ⊥) → IsComplete files command status
  end_complete end read write = told files command end
    where
      told : (files : Option Files) (command : Option Command) → IsEnd (run_of files left_before left before now command) status → IsComplete files command status
      told None command end = tt
      told (Some files) None end = tt
      told (Some files) (Some command) end = completes files (run_of (Some files) left_before left before now (Some command)) command status end read write

  -- and answers what is owed
  pub end_due : IsEnd (run_of files left_before left before now command) status → (status ≡ ReadFault → ⊥) → IsDue files command status
  end_due end read = told files command end
    where
      told : (files : Option Files) (command : Option Command) → IsEnd (run_of files left_before left before now command) status → IsDue files command status
      told None command end = tt
      told (Some files) None end = tt
      told (Some files) (Some command) end = record {
        over = over_owed files (run_of (Some files) left_before left before now (Some command)) command status end read;
        network = network_owed files (run_of (Some files) left_before left before now (Some command)) command status end read;
        report = report_owed files (run_of (Some files) left_before left before now (Some command)) command status end read;
      }
