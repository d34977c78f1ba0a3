-- A worked example: reports, a restoration and switching orders on a feeder of five nodes.
use Rattle.std.proofs.Common.{◌≡◌, ℕ, true, false, refl, List, [], ◌∷◌}
use Rattle.std.specs.Prelude.{codes, Some, None}
use Rattle.std.specs.Fmt.{digits}
use Rattle.grid_model.specs.Parts.{Parts}
use Rattle.grid_model.specs.declared.parts.Device.{Device}
use Rattle.grid_model.specs.declared.parts.Meter.{Meter}
use Rattle.grid_model.specs.declared.parts.Kind.{Kind}
use Rattle.grid_model.specs.declared.parts.Kind.TheVariants.{Fuse, Transformer, Breaker, Tie}
use Rattle.grid_model.specs.declared.history.Event.{Event}
use Rattle.grid_model.specs.declared.history.What.{What}
use Rattle.grid_model.specs.declared.history.What.TheVariants.{Gasp, PingUp, Confirm, Restore, Order, Clock}
use Rattle.grid_model.specs.declared.history.Confirmed.TheVariants as confirmed
use Rattle.grid_model.specs.declared.history.Want.TheVariants as want
use Rattle.grid_model.specs.declared.history.Refusal.TheVariants.{Backwards, NotClosed, Loop}
use Rattle.outage_rules.specs.Reference.{least_cost}
use Rattle.event_rules.specs.Fields.{parts_from}
use Rattle.event_rules.specs.Stamps.{stamp_of}
use Rattle.event_rules.specs.EventLines.{misfit, named_shape, meter_named, event_reading}
use Rattle.history_rules.specs.Evidence.{dark_weight, live_weight}
use Rattle.history_rules.specs.Posed.{problem_after, least_after, diagnosis_after, refusal_of}
use Rattle.history_rules.specs.Slots.{due_in, slots_of}
use Rattle.history_rules.specs.Run.{Unapplied, outcome_of, before_counted}
use Rattle.history_rules.specs.Output.{change_rows, changes, refused_row, entries}

-- a closed device by its numbers
abbrev device : List ℕ → Kind → ℕ → ℕ → ℕ → Device
device name kind from to weight = record { name = name; kind = kind; from = record { 0 = from }; to = record { 0 = to }; weight = weight; starts_closed = true }

-- a meter by its numbers
abbrev meter : List ℕ → ℕ → ℕ → Meter
meter name node customers = record { name = name; node = record { 0 = node }; customers = customers }

-- nodes S A C D E, devices B1 F1 T1 T2 and the open tie X1, meters M1 to M4
abbrev feeder : Parts
feeder = record {
  nodes = codes "S" ∷ codes "A" ∷ codes "C" ∷ codes "D" ∷ codes "E" ∷ [];
  sources = record { 0 = 0 } ∷ [];
  devices = device (codes "B1") Breaker 0 1 120 ∷ device (codes "F1") Fuse 1 2 40 ∷ device (codes "T1") Transformer 1 3 50 ∷ device (codes "T2") Transformer 1 4 50
      ∷ record (device (codes "X1") Tie 2 3 200) { starts_closed = false } ∷ [];
  meters = meter (codes "M1") 2 10 ∷ meter (codes "M2") 2 20 ∷ meter (codes "M3") 3 5 ∷ meter (codes "M4") 4 5 ∷ [];
  settings = 30 ∷ 60 ∷ 20 ∷ 50 ∷ 60 ∷ 900 ∷ 300 ∷ 3600 ∷ [];
}

abbrev at : ℕ → What → Event
at t w = record { time = record { 0 = t }; what = w }

-- a gasp of M1, a ping that finds it up, and the end of the live hold
abbrev gasped : List Event
gasped = at 0 (Gasp (record { 0 = 0 })) ∷ []

abbrev pinged : List Event
pinged = at 60 (PingUp (record { 0 = 0 })) ∷ gasped

gasp_weighs : dark_weight feeder gasped 0 ≡ 60
gasp_weighs = refl

gasp_blames_the_fuse : least_after feeder gasped ≡ 40
unfolding least_after problem_after least_cost
gasp_blames_the_fuse = refl

ping_weighs : live_weight feeder pinged 0 ≡ 50
ping_weighs = refl

ping_ends_the_gasp : least_after feeder pinged ≡ 0
unfolding least_after problem_after least_cost
ping_ends_the_gasp = refl

hold_is_due : due_in feeder 0 60 (slots_of feeder 0 pinged) ≡ Some 960
hold_is_due = refl

hold_ends : live_weight feeder (at 960 Clock ∷ pinged) 0 ≡ 0
hold_ends = refl

-- the fuse is restored: the gasp of a meter below it counts only once the grace is over
abbrev restored : List Event
restored = at 10 (Restore (record { 0 = 1 })) ∷ gasped

restore_silences : dark_weight feeder restored 0 ≡ 0
restore_silences = refl

grace_ends : dark_weight feeder (at 310 Clock ∷ restored) 0 ≡ 60
grace_ends = refl

-- the tie joins nodes that are joined already, until the fuse is opened
tie_would_loop : refusal_of feeder [] (at 0 (Order (record { 0 = 4 }) want.Closed)) ≡ Some Loop
unfolding refusal_of
tie_would_loop = refl

tie_may_close : refusal_of feeder (at 0 (Order (record { 0 = 1 }) want.Opened) ∷ []) (at 0 (Order (record { 0 = 4 }) want.Closed)) ≡ None
unfolding refusal_of
tie_may_close = refl

open_is_not_closed : refusal_of feeder [] (at 0 (Confirm (record { 0 = 4 }) confirmed.Fine)) ≡ Some NotClosed
unfolding refusal_of
open_is_not_closed = refl

time_runs_on : refusal_of feeder pinged (at 59 Clock) ≡ Some Backwards
unfolding refusal_of
time_runs_on = refl

-- what is printed of the gasp, of the ping and of the tie that would close a loop
gasp_printed : changes feeder 1 [] gasped ≡ codes "enters,1,F1\ncost,1,40\n"
unfolding change_rows least_after diagnosis_after problem_after least_cost digits
gasp_printed = refl

ping_printed : changes feeder 2 gasped pinged ≡ codes "leaves,2,F1\ncost,2,0\n"
unfolding change_rows least_after diagnosis_after problem_after least_cost digits
ping_printed = refl

loop_printed : refused_row 3 (Unapplied Loop) ≡ codes "refused,3,Loop\n"
unfolding digits
loop_printed = refl

-- skipped and refused lines
refusals_printed : entries feeder 1 [] (codes "# note" ∷ codes "10:00,call,M1" ∷ [] ∷ codes "10:00,calls,M1" ∷ codes "10:00,clock,M1" ∷ []) ≡ codes "refused,2,BadTime\nrefused,4,BadWord\nrefused,5,BadFields\n"
unfolding entries outcome_of parts_from event_reading misfit named_shape meter_named stamp_of digits
refusals_printed = refl

-- of two lines that count, one may
one_counts : before_counted 1 (codes "# note" ∷ codes "a" ∷ [] ∷ codes "b" ∷ []) ≡ codes "# note" ∷ codes "a" ∷ [] ∷ []
unfolding before_counted
one_counts = refl
