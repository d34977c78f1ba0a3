-- A failure of the sink is Write.
use Rattle.line_entries.proofs.Puts.{puts_ok, puts_err}
use Rattle.line_entries.proofs.fault.fault_of.Goals as goal

pub returns-in-Ok-clause-puts : goal.returns-in-Ok-clause-puts
returns-in-Ok-clause-puts c = λ before now faults_before faults_now text did. puts_ok _ _ _ _ _ _ _ (rw c.in-Ok.is at did)

pub returns-in-Err-clause-puts : goal.returns-in-Err-clause-puts
returns-in-Err-clause-puts c = λ before now faults_before faults_now text did. puts_err _ _ _ _ _ _ (rw c.in-Err.is at did)
