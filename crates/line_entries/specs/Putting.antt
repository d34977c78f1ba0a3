-- What writing a text to a sink does.
use Rattle.std.specs.Prelude.{ℕ, ◌<◌, ◌≤◌, List, Option, Result, OnOk, OnErr, IsErrOf}
use Rattle.std.specs.Io.KnownBytes.{Appends}
use Rattle.outage_ports.specs.Bytes.{AppendsPrefix}
use Rattle.outage_ports.specs.Causes.{HasCause, Rose}
use Rattle.line_entries.specs.declared.fault.PutFault.{PutFault}
use Rattle.line_entries.specs.declared.fault.PutFault.TheVariants.{Write}

-- the whole text was written, or a prefix of it where the sink failed
pub record DidPut {T E : Type 0} (before now : Option (List ℕ)) (faults_before faults_now : ℕ) (result : Result T E) (text : List ℕ) : Type 0 where
  pub whole : OnOk result (Appends before now text)
  pub part : OnErr result (AppendsPrefix before now text)
  pub cause : HasCause faults_before faults_now result

-- the whole text was written, or a prefix of it; the sink's count of faults never falls, has risen where the answer is Write, and is
-- greater than before only there
pub record PutsText {T : Type 0} (before now : Option (List ℕ)) (faults_before faults_now : ℕ) (result : Result T PutFault) (text : List ℕ) : Type 0 where
  pub whole : OnOk result (Appends before now text)
  pub part : AppendsPrefix before now text
  pub later : faults_before ≤ faults_now
  pub failed : IsErrOf result Write → Rose faults_before faults_now
  pub only_failed : faults_before < faults_now → IsErrOf result Write
