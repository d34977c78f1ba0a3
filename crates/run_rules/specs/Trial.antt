-- What a trial is: the run over the network and the events that are made for it.
use Rattle.std.specs.Prelude.{◌≡◌, ◌⊎◌, ⊤, ℕ, List, [], Option}
use Rattle.std.specs.Io.KnownBytes.{Appends}
use Rattle.grid_model.specs.Parts.{Parts}
use Rattle.event_rules.specs.Lines.{lines}
use Rattle.grid_reader.specs.Text.{grid_text, IsGrid, IsRefusedAt}
use Rattle.grid_reader.specs.declared.fault.GridRule.{GridRule}
use Rattle.history_rules.specs.Run.{history_of}
use Rattle.history_rules.specs.Report.{summary_text, refused_in}
use Rattle.grid_maker.specs.NetworkText.{network_text}
use Rattle.grid_maker.specs.EventText.{event_text}
use Rattle.outage_ports.specs.Bytes.{AppendsPrefix}
use Rattle.run_rules.specs.declared.status.Status.{Status}
use Rattle.run_rules.specs.declared.status.Status.TheVariants.{Done, WriteFault, NetworkRefused, Memory}

-- the text that is made for n feeders says this network
abbrev pub MakesNetwork : ℕ → Parts → Type 0
MakesNetwork n g = grid_text (network_text n) ≡ IsGrid g

-- it says none, and this is its first line that breaks a rule, and the first rule that it breaks
abbrev pub MakesRefused : ℕ → ℕ → GridRule → Type 0
MakesRefused n line rule = grid_text (network_text n) ≡ IsRefusedAt line rule

-- all that a trial writes: the summary of the report after the events that are made for n feeders
unfoldable pub trial_text : Parts → ℕ → List ℕ
trial_text g n = summary_text g (refused_in g [] (lines (event_text n))) (history_of g (event_text n))

-- exactly the summary was written
pub record Tries (before now : Option (List ℕ)) (n : ℕ) : Type 0 where
  pub parts : Parts
  pub network : MakesNetwork n parts
  pub written : Appends before now (trial_text parts n)

-- a front part of it was written
pub record TriesPart (before now : Option (List ℕ)) (n : ℕ) : Type 0 where
  pub parts : Parts
  pub network : MakesNetwork n parts
  pub written : AppendsPrefix before now (trial_text parts n)

-- what each status of a trial says; no file is read, no limit is met and no report is read
abbrev pub EndsTrial : Option (List ℕ) → Option (List ℕ) → ℕ → Status → Type 0
EndsTrial before now n Done = Tries before now n
EndsTrial before now n WriteFault = TriesPart before now n
EndsTrial before now n (NetworkRefused line rule) = MakesRefused n line rule
EndsTrial before now n Memory = (now ≡ before) ⊎ TriesPart before now n
EndsTrial before now n status = ⊥

-- where a network is made and nothing failed, the trial is done, or memory ran out
abbrev pub CompletesTrial : ℕ → Status → Type 0
CompletesTrial n status = (parts : Parts) → MakesNetwork n parts → (status ≡ Done) ⊎ (status ≡ Memory)

-- the status of a trial after which nothing was written
abbrev pub IsSilentTrial : Status → Type 0
IsSilentTrial (NetworkRefused line rule) = ⊤
IsSilentTrial status = ⊥
