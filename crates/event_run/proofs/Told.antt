-- What is told of faults, and of the engine, by calls one after the other.
use Rattle.std.proofs.Common.{◌≡◌, ℕ, true, refl, sym, ◌∙◌, subst, List, Option, Result, Ok, Err}
use Rattle.std.specs.Prelude.{is_err, IfOk, IsErrOf}
use Rattle.std.specs.Result.{IsErrAnd}
use Rattle.outage_engine.specs.Engined.{Engined}
use Rattle.grid_model.specs.Parts.{Parts}
use Rattle.outage_ports.specs.Bytes.{Files}
use Rattle.outage_ports.specs.Causes.{HasCause}
use Rattle.run_rules.specs.Faults.{TellsFaults}
use Rattle.run_rules.proofs.FaultsTold.{no_fault, tells_last, tells_as}
use Rattle.event_run.specs.declared.reading.EventsStop.{EventsStop}
use Rattle.event_run.specs.Entering.{StaysEngine}
use Rattle.event_run.specs.Pieces.{GoesOn, StopsAmong}
use Rattle.event_run.specs.Reached.{ReadsOn}
use Rattle.event_run.specs.declared.reading.EventsStop.TheVariants.{ReadFailed, WriteFailed, TooManyLines, TooManyBytes, Memory}
use Rattle.event_run.proofs.PutLines.{at_done, at_failed}

-- a call that failed, and one that didn't
pub failed_told : {E : Type 0} (a b : ℕ) (r : Result (Unit {0}) E) (failed : Type 0) → HasCause a b r → is_err r ≡ true → failed → TellsFaults a b failed
failed_told a b r failed cause err here = record {
  later = cause.later;
  rose = λ _. at_failed r _ cause.failed err;
  told = λ _. here;
}

pub done_told : {E : Type 0} (a b : ℕ) (r : Result (Unit {0}) E) (failed : Type 0) → HasCause a b r → r ≡ Ok tt → (failed → ⊥) → TellsFaults a b failed
done_told a b r failed cause ok fine = no_fault a b failed (at_done r _ cause.kept ok) fine

-- an answer is no stop, and a stop no other one
pub ok_is_no_stop : {T : Type 0} (x : T) (stop : EventsStop) → IsErrOf {T = T} (Ok x) stop → ⊥
ok_is_no_stop x stop e = cc

pub read_is_no_write : {T : Type 0} → IsErrOf {T = T} (Err ReadFailed) WriteFailed → ⊥
read_is_no_write e = cc

pub memory_is_no_write : {T : Type 0} → IsErrOf {T = T} (Err Memory) WriteFailed → ⊥
memory_is_no_write e = cc

pub many_is_no_write : {T : Type 0} → IsErrOf {T = T} (Err TooManyLines) WriteFailed → ⊥
many_is_no_write e = cc

pub bytes_are_no_write : {T : Type 0} → IsErrOf {T = T} (Err TooManyBytes) WriteFailed → ⊥
bytes_are_no_write e = cc

pub bytes_are_no_read : {T : Type 0} → IsErrOf {T = T} (Err TooManyBytes) ReadFailed → ⊥
bytes_are_no_read e = cc

-- a stop that is passed on
pub stop_passed : {T : Type 0} (r : Result T EventsStop) (stop : EventsStop) → IsErrAnd r (λ s. s ≡ stop) → r ≡ Err stop
stop_passed (Ok x) stop h = absurd h
stop_passed (Err s) stop h = cc

pub passed_told : {T U : Type 0} (a b : ℕ) (q : Result U EventsStop) (r : Result T EventsStop) (stop named : EventsStop) → q ≡ Err stop → r ≡ Err stop → TellsFaults a b (IsErrOf q named) → TellsFaults a b (IsErrOf r named)
passed_told a b q r stop named was is tells = tells_as a b (IsErrOf q named) (IsErrOf r named) (λ e. cc) (λ e. cc) tells

pub stop_any : {T : Type 0} (r : Result T EventsStop) (stop : EventsStop) (P : T → Type 0) → r ≡ Err stop → IfOk r P
stop_any r stop P is = subst (λ x. IfOk x P) (sym is) tt

-- the engine stays one through two calls
pub stays_on : (e mid more : Engined) → mid.grid ≡ e.grid → StaysEngine mid more → StaysEngine e more
stays_on e mid more grid stays = record { grid = stays.grid ∙ grid; engine = stays.engine }

-- and the run goes on, where the first didn't fail
pub goes_last : (e mid more : Engined) (a b c : ℕ) (failed : Type 0) → mid.grid ≡ e.grid → b ≡ a → GoesOn mid more b c failed → GoesOn e more a c failed
goes_last e mid more a b c failed grid same goes = record {
  engine = stays_on e mid more grid goes.engine;
  faults = tells_last a b c failed same goes.faults;
}

-- a stop that is passed on says the same of the engine and of faults
pub goes_passed : {T U : Type 0} (e more : Engined) (a b : ℕ) (q : Result U EventsStop) (r : Result T EventsStop) (stop named : EventsStop) → q ≡ Err stop → r ≡ Err stop → GoesOn e more a b (IsErrOf q named)
    → GoesOn e more a b (IsErrOf r named)
goes_passed e more a b q r stop named was is goes = record {
  engine = goes.engine;
  faults = passed_told a b q r stop named was is goes.faults;
}

-- what is said of one failure is said of another one, which comes exactly then
pub goes_as : (e more : Engined) (a b : ℕ) (failed named : Type 0) → (failed → named) → (named → failed) → GoesOn e more a b failed → GoesOn e more a b named
goes_as e more a b failed named into from goes = record {
  engine = goes.engine;
  faults = tells_as a b failed named into from goes.faults;
}

-- a run goes on where the engine stays one and nothing was written
pub goes_still : (e more : Engined) (a : ℕ) (failed : Type 0) → StaysEngine e more → (failed → ⊥) → GoesOn e more a a failed
goes_still e more a failed stays fine = record { engine = stays; faults = no_fault a a failed refl fine }

-- no read failed where a run stops among lines
pub read_well : {T : Type 0} (all : List (List ℕ)) (before now : Option (List ℕ)) (g : Parts) (r : Result T EventsStop) (stop : EventsStop) → r ≡ Err stop → StopsAmong all before now g stop → IsErrOf r ReadFailed → ⊥
read_well all before now g r stop is stops failed = let same : stop ≡ ReadFailed = cc in subst (StopsAmong all before now g) same stops

-- and none where the read didn't
pub reads_on : (shelf more : Option Files) (a b : ℕ) (failed : Type 0) → more ≡ shelf → b ≡ a → (failed → ⊥) → ReadsOn shelf more a b failed
reads_on shelf more a b failed files same fine = record { files = files; faults = no_fault a b failed same fine }
