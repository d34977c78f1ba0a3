-- A history poses a sound problem, and the computed set of devices is its diagnosis.
use Rattle.std.proofs.Common.{◌≡◌, ℕ, ◌<◌, true, false, List, length, refl}
use Rattle.std.proofs.lemmas.Bool.{false≢true, and_left}
use Rattle.outage_rules.specs.Network.{Cut, IsSound}
use Rattle.outage_rules.specs.Diagnosis.{IsDiagnosis, IsLeastCost}
use Rattle.outage_rules.specs.Laws.{IsWithin}
use Rattle.outage_rules.specs.Reference.{table_of, greedy}
use Rattle.outage_rules.proofs.Computed.{exact_table, computed}
use Rattle.outage_rules.proofs.Exists.{greedy_opens}
use Rattle.outage_rules.proofs.Cautious.{only_one}
use Rattle.outage_rules.proofs.Least.{least_is_least}
use Rattle.grid_model.specs.Parts.{Parts}
use Rattle.grid_model.specs.Sound.{IsSoundParts}
use Rattle.grid_model.specs.Problem.{says_opened, says_fine}
use Rattle.grid_model.specs.declared.history.Event.{Event}
use Rattle.grid_model.specs.declared.history.Mark.{Mark}
use Rattle.grid_model.specs.declared.history.Mark.TheVariants as mark
use Rattle.history_rules.specs.State.{now, is_closed, mark_of}
use Rattle.history_rules.specs.Posed.{problem_after, diagnosis_after, least_after, IsHistory}
use Rattle.history_rules.specs.Laws.{IsDiagnosed}
use Rattle.history_rules.proofs.TimelyLemmas.{marked_is_closed, past_is_open}
use Rattle.history_rules.proofs.RadialLemmas.{sound_after, stays_radial}

one_mark : (m : Mark) → says_opened m ≡ true → says_fine m ≡ false
one_mark mark.Opened e = refl
one_mark mark.Nothing e = refl
one_mark mark.Fine e = absurd (false≢true e)

pub problem_is_sound : (g : Parts) (h : List Event) → IsSoundParts g → IsHistory g h → IsSound (problem_after g h)
unfolding problem_after
problem_is_sound g h sound a = record {
  net = sound_after g h sound;
  weights = λ d l. (sound.devices d l).weight;
  marks = λ d l e. (marked_is_closed g (now h) h d a e, one_mark (mark_of g h d) e);
}

is_diagnosis : (g : Parts) (h : List Event) → IsSoundParts g → IsHistory g h → IsDiagnosis (problem_after g h) (diagnosis_after g h)
unfolding problem_after diagnosis_after
is_diagnosis g h sound a = computed (problem_after g h) (problem_is_sound g h sound a) (stays_radial g h sound a)

is_only : (g : Parts) (h : List Event) → IsSoundParts g → IsHistory g h → (other : Cut) → IsDiagnosis (problem_after g h) other → (d : ℕ) → d < length g.devices → other d ≡ diagnosis_after g h d
unfolding problem_after
is_only g h sound a other is d l =
    let p = problem_after g h in
    let well : IsSound p = problem_is_sound g h sound a in
    let exact = exact_table p well (stays_radial g h sound a) in
    only_one p (table_of p) well exact.0 exact.1 (greedy p (table_of p)) (greedy_opens p (table_of p) well exact.0) other (diagnosis_after g h) is (is_diagnosis g h sound a) d l

is_within : (g : Parts) (h : List Event) → IsHistory g h → IsWithin (problem_after g h) (diagnosis_after g h)
unfolding problem_after diagnosis_after
is_within g h a d past = and_left (is_closed g h d) _ (past_is_open g h d a past)

is_least : (g : Parts) (h : List Event) → IsSoundParts g → IsHistory g h → IsLeastCost (problem_after g h) (least_after g h)
unfolding problem_after least_after
is_least g h sound a = least_is_least (problem_after g h) (problem_is_sound g h sound a) (stays_radial g h sound a)

pub history_is_diagnosed : (g : Parts) (h : List Event) → IsSoundParts g → IsHistory g h → IsDiagnosed g h
history_is_diagnosed g h sound a = record { diagnosis = is_diagnosis g h sound a; only = is_only g h sound a; within = is_within g h a; least = is_least g h sound a }
