-- Reports of two meters at one time leave the same states, marks and slots in either order.
use Rattle.std.proofs.Common.{◌≡◌, ◌≢◌, ℕ, ◌+◌, ◌<◌, ◌≤◌, Bool, false, List, [], ◌∷◌, ◌++◌, refl, sym, ap, ◌∙◌, subst, ⊎_elim, length, arith}
use Rattle.std.specs.Prelude.{◌==◌, ◌&&◌, ◌||◌, not, nat_lt, Option, Some, None, if◌then◌else◌, filter, filter_map, sum_by, fold, option_map}
use Rattle.std.specs.List.{list_any, range_with_len}
use Rattle.std.proofs.Math.Path.{fun_ext}
use Rattle.std.proofs.lemmas.Bool.{cases_eq, ne_eqb, le-ltb}
use Rattle.std.proofs.lemmas.Option.{none-some, same_Some}
use Rattle.outage_rules.specs.Network.{Network, Cut}
use Rattle.outage_rules.specs.Loops.{would_loop}
use Rattle.outage_rules.specs.Reference.{reference_cut, least_cost}
use Rattle.grid_model.specs.Parts.{Parts}
use Rattle.grid_model.specs.Places.{node_of, setting_of, device_id}
use Rattle.grid_model.specs.Network.{network_in}
use Rattle.grid_model.specs.Problem.{posed}
use Rattle.grid_model.specs.declared.parts.Setting.TheVariants.{OkHold}
use Rattle.grid_model.specs.declared.history.Event.{Event}
use Rattle.grid_model.specs.declared.history.Mark.{Mark}
use Rattle.grid_model.specs.declared.history.Outage.{Outage}
use Rattle.grid_model.specs.declared.history.What.{What}
use Rattle.grid_model.specs.declared.history.What.TheVariants.{Call, Gasp, PingDown, PingUp, Powerup, Confirm, Restore, Order}
use Rattle.grid_model.specs.declared.history.Want.TheVariants as want
use Rattle.grid_model.specs.declared.history.Refusal.{Refusal}
use Rattle.grid_model.specs.declared.history.Refusal.TheVariants.{Backwards, NotClosed, Loop}
use Rattle.history_rules.specs.State.{now, is_closed, closed_by, mark_by, mark_at, mark_of, network_after, is_below}
use Rattle.history_rules.specs.Evidence.{is_call_of, is_signal_of, is_live_signal_of, brings_back, dark_weight, live_weight, earliest, dark_since, came_back}
use Rattle.history_rules.specs.Slots.{Slots, slots_after, slots_of, dark_in, live_in, since_in, came_back_in}
use Rattle.history_rules.specs.Posed.{at_node, problem_after, diagnosis_after, least_after, names_open, loops, refusal_of, IsOfGrid, IsHistory}
use Rattle.history_rules.specs.Outages.{devices_of, is_at, last_cut, cut_above, customers_of, as_stamp, outages_after}
use Rattle.history_rules.specs.Laws.{EvidenceIsKept, HistoryIsTimely}
use Rattle.replay_laws.specs.Exchanged.{meter_of_report, AreReportsOfTwo, SayTheSame, CanChangePlaces}

-- a report is of its meter alone; it switches and marks no device, brings no meter back, and neither names an open device nor closes a loop
record OnlyReports (w : What) (m : ℕ) : Type 0 where
  known : (g : Parts) → m < length g.meters → IsOfGrid g w
  closed : (d : ℕ) (before : Bool) → closed_by w d before ≡ before
  mark : (holds : Bool) (d : ℕ) (before : Mark) → mark_by w holds d before ≡ before
  brings : (g : Parts) (other : ℕ) (before : List Event) → brings_back g other w before ≡ false
  names : (g : Parts) (h : List Event) → names_open g h w ≡ false
  loop : (g : Parts) (h : List Event) → loops g h w ≡ false
  call : (other : ℕ) → m ≢ other → is_call_of other w ≡ false
  signal : (other : ℕ) → m ≢ other → is_signal_of other w ≡ false
  live : (other : ℕ) → m ≢ other → is_live_signal_of other w ≡ false

other_meter : (x m other : ℕ) → Some x ≡ Some m → m ≢ other → (x == other) ≡ false
other_meter x m other e ne = ne_eqb x other (λ s. ne (sym (same_Some x m e) ∙ s))

within : (x m most : ℕ) → Some x ≡ Some m → m < most → x < most
within x m most e l = subst (λ v. v < most) (sym (same_Some x m e)) l

only_reports : (w : What) (m : ℕ) → meter_of_report w ≡ Some m → OnlyReports w m
only_reports (Call x) m e = record {
  known = λ g l. within x.0 m (length g.meters) e l;
  closed = λ d before. refl;
  mark = λ holds d before. refl;
  brings = λ g other before. refl;
  names = λ g h. refl;
  loop = λ g h. refl;
  call = λ other ne. other_meter x.0 m other e ne;
  signal = λ other ne. refl;
  live = λ other ne. refl;
}
only_reports (Gasp x) m e = record {
  known = λ g l. within x.0 m (length g.meters) e l;
  closed = λ d before. refl;
  mark = λ holds d before. refl;
  brings = λ g other before. refl;
  names = λ g h. refl;
  loop = λ g h. refl;
  call = λ other ne. refl;
  signal = λ other ne. other_meter x.0 m other e ne;
  live = λ other ne. refl;
}
only_reports (PingDown x) m e = record {
  known = λ g l. within x.0 m (length g.meters) e l;
  closed = λ d before. refl;
  mark = λ holds d before. refl;
  brings = λ g other before. refl;
  names = λ g h. refl;
  loop = λ g h. refl;
  call = λ other ne. refl;
  signal = λ other ne. other_meter x.0 m other e ne;
  live = λ other ne. refl;
}
only_reports (PingUp x) m e = record {
  known = λ g l. within x.0 m (length g.meters) e l;
  closed = λ d before. refl;
  mark = λ holds d before. refl;
  brings = λ g other before. refl;
  names = λ g h. refl;
  loop = λ g h. refl;
  call = λ other ne. refl;
  signal = λ other ne. other_meter x.0 m other e ne;
  live = λ other ne. other_meter x.0 m other e ne;
}
only_reports (Powerup x) m e = record {
  known = λ g l. within x.0 m (length g.meters) e l;
  closed = λ d before. refl;
  mark = λ holds d before. refl;
  brings = λ g other before. refl;
  names = λ g h. refl;
  loop = λ g h. refl;
  call = λ other ne. refl;
  signal = λ other ne. other_meter x.0 m other e ne;
  live = λ other ne. other_meter x.0 m other e ne;
}
only_reports _ m e = absurd (none-some m e)

-- the first of the three rules that refuses
abbrev first_rule : Bool → Bool → Bool → Option Refusal
first_rule backwards not_closed loop =
    if backwards then Some Backwards else (if not_closed then Some NotClosed else (if loop then Some Loop else None))

-- slots that nothing touches stay
abbrev slots_by : Bool → Bool → Bool → Bool → Event → Slots → Slots
slots_by signal call live brought e s = record {
  signal = if signal then Some e else s.signal;
  back = if signal then None else (if brought then Some e.time.0 else s.back);
  call = if call then Some e else (if live || brought then None else s.call);
}

untouched : (signal call live brought : Bool) (e : Event) (s : Slots)
    → signal ≡ false → call ≡ false → live ≡ false → brought ≡ false → slots_by signal call live brought e s ≡ s
untouched signal call live brought e s a b c d =
    ap (λ x. slots_by x call live brought e s) a
    ∙ ap (λ x. slots_by false x live brought e s) b
    ∙ ap (λ x. slots_by false false x brought e s) c
    ∙ ap (λ x. slots_by false false false x e s) d

module _ (g : Parts) where
  -- a report of another meter leaves the slots of a meter
  other_slots : (other m : ℕ) (e : Event) (h : List Event) → OnlyReports e.what m → m ≢ other → slots_of g other (e ∷ h) ≡ slots_of g other h
  other_slots other m e h only ne =
      untouched (is_signal_of other e.what) (is_call_of other e.what) (is_live_signal_of other e.what) (brings_back g other e.what h) e (slots_of g other h)
      (only.signal other ne) (only.call other ne) (only.live other ne) (only.brings g other h)

  -- so it may come before or after another report
  past_other : (other m n : ℕ) (e f : Event) (h : List Event) → OnlyReports e.what m → OnlyReports f.what n → n ≢ other
      → slots_of g other (f ∷ e ∷ h) ≡ slots_of g other (e ∷ f ∷ h)
  past_other other m n e f h first second ne =
      other_slots other n f (e ∷ h) second ne
      ∙ ap (λ b. slots_after other e b (slots_of g other h)) (first.brings g other h ∙ sym (first.brings g other (f ∷ h)))
      ∙ ap (slots_after other e (brings_back g other e.what (f ∷ h))) (sym (other_slots other n f h second ne))

  same_slots : (other m n : ℕ) (e f : Event) (h : List Event) → OnlyReports e.what m → OnlyReports f.what n → m ≢ n
      → slots_of g other (f ∷ e ∷ h) ≡ slots_of g other (e ∷ f ∷ h)
  same_slots other m n e f h first second two =
      ⊎_elim
      (λ s. sym (past_other other n m f e h second first (λ t. two (t ∙ sym s))))
      (λ ne. past_other other m n e f h first second ne)
      (cases_eq n other)

  -- all that weights, marks and refusals read of events
  record AreAlike (a b : List Event) : Type 0 where
    clock : now a ≡ now b
    closed : is_closed g a ≡ is_closed g b
    marks : (t : ℕ) → mark_at g t a ≡ mark_at g t b
    slots : (m : ℕ) → slots_of g m a ≡ slots_of g m b

  brings_same : (a b : List Event) → is_closed g a ≡ is_closed g b → (m : ℕ) (w : What) → brings_back g m w a ≡ brings_back g m w b
  brings_same a b e m (Restore x) = ap (λ c. is_below (network_in g c) x.0 (node_of g m)) e
  brings_same a b e m _ = refl

  names_same : (a b : List Event) → is_closed g a ≡ is_closed g b → (w : What) → names_open g a w ≡ names_open g b w
  names_same a b e (Confirm x c) = ap (λ k. not (k x.0)) e
  names_same a b e (Restore x) = ap (λ k. not (k x.0)) e
  names_same a b e _ = refl

  loops_same : (a b : List Event) → is_closed g a ≡ is_closed g b → (w : What) → loops g a w ≡ loops g b w
  loops_same a b e (Order x want.Opened) = refl
  loops_same a b e (Order x want.Closed) = ap (λ k. not (k x.0) && would_loop (network_in g k) x.0) e
  loops_same a b e _ = refl

  -- the same events are refused
  refused_same : (a b : List Event) → AreAlike a b → (x : Event) → refusal_of g a x ≡ refusal_of g b x
  unfolding refusal_of
  refused_same a b alike x =
      ap (λ t. first_rule (nat_lt x.time.0 t) (names_open g a x.what) (loops g a x.what)) alike.clock
      ∙ ap (λ k. first_rule (nat_lt x.time.0 (now b)) k (loops g a x.what)) (names_same a b alike.closed x.what)
      ∙ ap (first_rule (nat_lt x.time.0 (now b)) (names_open g b x.what)) (loops_same a b alike.closed x.what)

  -- and events that come later change that in the same way
  alike_after : (x : Event) (a b : List Event) → AreAlike a b → AreAlike (x ∷ a) (x ∷ b)
  alike_after x a b alike = record {
    clock = refl;
    closed = fun_ext (λ d. ap (λ k. closed_by x.what d (k d)) alike.closed);
    marks = λ t. fun_ext (λ d. ap (λ k. mark_by x.what (nat_lt t (x.time.0 + setting_of g OkHold)) d (k d)) (alike.marks t));
    slots = λ m. ap (λ k. slots_after m x k (slots_of g m a)) (brings_same a b alike.closed m x.what)
        ∙ ap (slots_after m x (brings_back g m x.what b)) (alike.slots m);
  }

  alike_later : (more a b : List Event) → AreAlike a b → AreAlike (more ++ a) (more ++ b)
  alike_later [] a b alike = alike
  alike_later (x ∷ more) a b alike = alike_after x (more ++ a) (more ++ b) (alike_later more a b alike)

  history_later : (more a b : List Event) → AreAlike a b → IsHistory g b → IsHistory g (more ++ a) → IsHistory g (more ++ b)
  history_later [] a b alike history before = history
  history_later (x ∷ more) a b alike history before =
      (before.0, sym (refused_same (more ++ a) (more ++ b) (alike_later more a b alike) x) ∙ before.1, history_later more a b alike history before.2)

  -- the outages, by the network and by what the reports tell
  abbrev meters_by : Network → Cut → ℕ → List ℕ
  meters_by net cut d = filter (λ m. is_at d (last_cut net cut (node_of g m))) (range_with_len 0 (length g.meters))

  abbrev outage_by : Network → (ℕ → Option ℕ) → (ℕ → Bool) → Cut → ℕ → Outage
  outage_by net since back cut d = record {
    device = device_id d;
    above = option_map device_id (cut_above net cut d);
    meters = length (meters_by net cut d);
    customers = sum_by (customers_of g) (meters_by net cut d);
    since = option_map as_stamp (fold (λ t m. earliest t (since m)) None (meters_by net cut d));
    nested = list_any back (meters_by net cut d);
  }

  abbrev outages_by : Network → (ℕ → Option ℕ) → (ℕ → Bool) → Cut → List Outage
  outages_by net since back cut = filter_map (λ d. if cut d then Some (outage_by net since back cut d) else None) (devices_of net)

  module _ (evidence : EvidenceIsKept) (timely : HistoryIsTimely) (a b : List Event) (alike : AreAlike a b) (first : IsHistory g a) (second : IsHistory g b) where
    dark_same : (m : ℕ) → dark_weight g a m ≡ dark_weight g b m
    dark_same m =
        (evidence g m a (timely g a first)).dark
        ∙ (ap (λ t. dark_in g m t (slots_of g m a)) alike.clock ∙ ap (dark_in g m (now b)) (alike.slots m))
        ∙ sym (evidence g m b (timely g b second)).dark

    live_same : (m : ℕ) → live_weight g a m ≡ live_weight g b m
    live_same m =
        (evidence g m a (timely g a first)).live
        ∙ (ap (λ t. live_in g m t (slots_of g m a)) alike.clock ∙ ap (live_in g m (now b)) (alike.slots m))
        ∙ sym (evidence g m b (timely g b second)).live

    since_same : (m : ℕ) → dark_since g a m ≡ dark_since g b m
    since_same m =
        (evidence g m a (timely g a first)).since
        ∙ (ap (λ t. since_in g m t (slots_of g m a)) alike.clock ∙ ap (since_in g m (now b)) (alike.slots m))
        ∙ sym (evidence g m b (timely g b second)).since

    came_back_same : (m : ℕ) → came_back g a m ≡ came_back g b m
    came_back_same m =
        (evidence g m a (timely g a first)).came_back
        ∙ (ap (λ t. came_back_in g m t (slots_of g m a)) alike.clock ∙ ap (came_back_in g m (now b)) (alike.slots m))
        ∙ sym (evidence g m b (timely g b second)).came_back

    marks_same : mark_of g a ≡ mark_of g b
    marks_same = ap (λ t. mark_at g t a) alike.clock ∙ alike.marks (now b)

    problem_same : problem_after g a ≡ problem_after g b
    unfolding problem_after
    problem_same =
        ap (λ k. posed g k (mark_of g a) (at_node g (dark_weight g a)) (at_node g (live_weight g a))) alike.closed
        ∙ ap (λ k. posed g (is_closed g b) k (at_node g (dark_weight g a)) (at_node g (live_weight g a))) marks_same
        ∙ ap (λ k. posed g (is_closed g b) (mark_of g b) (at_node g k) (at_node g (live_weight g a))) (fun_ext dark_same)
        ∙ ap (λ k. posed g (is_closed g b) (mark_of g b) (at_node g (dark_weight g b)) (at_node g k)) (fun_ext live_same)

    diagnosis_same : (d : ℕ) → diagnosis_after g a d ≡ diagnosis_after g b d
    unfolding diagnosis_after
    diagnosis_same d = ap (λ p. reference_cut p d) problem_same

    least_same : least_after g a ≡ least_after g b
    unfolding least_after
    least_same = ap least_cost problem_same

    outages_same : outages_after g a (diagnosis_after g a) ≡ outages_after g b (diagnosis_after g b)
    unfolding outages_after
    outages_same =
        ap (λ k. outages_by (network_in g k) (dark_since g a) (came_back g a) (diagnosis_after g a)) alike.closed
        ∙ ap (λ k. outages_by (network_after g b) k (came_back g a) (diagnosis_after g a)) (fun_ext since_same)
        ∙ ap (λ k. outages_by (network_after g b) (dark_since g b) k (diagnosis_after g a)) (fun_ext came_back_same)
        ∙ ap (λ k. outages_by (network_after g b) (dark_since g b) (came_back g b) k) (fun_ext diagnosis_same)

    say_the_same : SayTheSame g a b
    say_the_same = record {
      closed = λ d. ap (λ k. k d) alike.closed;
      marks = λ d. ap (λ k. k d) marks_same;
      dark = dark_same;
      live = live_same;
      dark_at = λ n. ap (λ k. at_node g k n) (fun_ext dark_same);
      live_at = λ n. ap (λ k. at_node g k n) (fun_ext live_same);
      problem = problem_same;
      diagnosis = diagnosis_same;
      least = least_same;
      outages = outages_same;
      refused = refused_same a b alike;
    }

  -- a report that isn't before the last event is applied
  applied : (h : List Event) (e : Event) (m : ℕ) → OnlyReports e.what m → now h ≤ e.time.0 → refusal_of g h e ≡ None
  unfolding refusal_of
  applied h e m only l =
      ap (λ k. first_rule k (names_open g h e.what) (loops g h e.what)) (le-ltb e.time.0 (now h) l)
      ∙ ap (λ k. first_rule false k (loops g h e.what)) (only.names g h)
      ∙ ap (first_rule false false) (only.loop g h)

  both_join : (h : List Event) (e f : Event) (m n : ℕ) → OnlyReports e.what m → OnlyReports f.what n → m < length g.meters → n < length g.meters
      → now h ≤ e.time.0 → e.time.0 ≡ f.time.0 → IsHistory g h → IsHistory g (f ∷ e ∷ h)
  both_join h e f m n first second lm ln l same history =
      (second.known g ln, applied (e ∷ h) f n second (omega arith), (first.known g lm, applied h e m first l, history))

  -- both reports leave the states and marks as they were
  both_alike : (h : List Event) (e f : Event) (m n : ℕ) → OnlyReports e.what m → OnlyReports f.what n → m ≢ n → e.time.0 ≡ f.time.0
      → AreAlike (f ∷ e ∷ h) (e ∷ f ∷ h)
  both_alike h e f m n first second two same = record {
    clock = sym same;
    closed = fun_ext (λ d. (second.closed d (is_closed g (e ∷ h) d) ∙ first.closed d (is_closed g h d))
        ∙ sym (first.closed d (is_closed g (f ∷ h) d) ∙ second.closed d (is_closed g h d)));
    marks = λ t. fun_ext (λ d. (second.mark _ d (mark_at g t (e ∷ h) d) ∙ first.mark _ d (mark_at g t h d))
        ∙ sym (first.mark _ d (mark_at g t (f ∷ h) d) ∙ second.mark _ d (mark_at g t h d)));
    slots = λ other. same_slots other m n e f h first second two;
  }

pub change_places : (g : Parts) (h : List Event) (e f : Event) (m n : ℕ) → IsHistory g h → AreReportsOfTwo g h e f m n
    → EvidenceIsKept → HistoryIsTimely → CanChangePlaces g h e f
change_places g h e f m n history reports evidence timely =
    let first = only_reports e.what m reports.first in
    let second = only_reports f.what n reports.second in
    let alike = both_alike g h e f m n first second reports.two reports.one_time in
    let same = reports.one_time in
    let l = reports.timely in
    let one = both_join g h e f m n first second reports.known.0 reports.known.1 reports.timely reports.one_time history in
    let other = both_join g h f e n m second first reports.known.1 reports.known.0 (omega arith) (sym reports.one_time) history in
    record {
      first_second = one;
      second_first = other;
      at_once = say_the_same g evidence timely (f ∷ e ∷ h) (e ∷ f ∷ h) alike one other;
      later = λ more before.
          let after = history_later g more (f ∷ e ∷ h) (e ∷ f ∷ h) alike other before in
          (after, say_the_same g evidence timely (more ++ f ∷ e ∷ h) (more ++ e ∷ f ∷ h) (alike_later g more (f ∷ e ∷ h) (e ∷ f ∷ h) alike) before after);
    }
