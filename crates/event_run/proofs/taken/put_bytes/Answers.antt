-- Bytes that are written, and handed on.
use Rattle.std.proofs.Common.{◌≡◌, ℕ, sym, subst, List, Option, Result, Ok, Err}
use Rattle.std.specs.Prelude.{OnErr}
use Rattle.std.specs.Result.{IsErrAnd}
use Rattle.std.specs.Io.KnownBytes.{Appends}
use Rattle.outage_ports.specs.Bytes.{AppendsPrefix}
use Rattle.outage_ports.specs.Causes.{Rose, HasCause}
use Rattle.line_entries.specs.Putting.{DidPut}
use Rattle.event_run.proofs.Written.{prefix_whole}
use Rattle.event_run.proofs.taken.put_bytes.Goals as goal

-- the write failed
stopped : {E : Type 0} (before now : Option (List ℕ)) (a b : ℕ) (r q : Result (Unit {0}) E) (fault : E) (text : List ℕ) → r ≡ Err fault → IsErrAnd q (λ e. e ≡ fault) → OnErr r (AppendsPrefix before now text) → HasCause a b r
    → DidPut before now a b q text
stopped before now a b r (Ok x) fault text was passed part cause = absurd passed
stopped before now a b r (Err e) fault text was passed part cause = record {
  whole = tt;
  part = subst (λ x. OnErr x (AppendsPrefix before now text)) was part;
  cause = record { later = cause.later; kept = tt; failed = subst (λ x. OnErr x (Rose a b)) was cause.failed };
}

-- what was written is handed on
handed : (E : Type 0) (before now same : Option (List ℕ)) (a b c : ℕ) (q : Result (Unit {0}) E) (text : List ℕ) → Appends before now text → same ≡ now → b ≡ a → HasCause b c q → DidPut before same a c q text
handed E before now same a b c (Ok x) text whole kept fine cause = record {
  whole = subst (λ (s : Option (List ℕ)). Appends before s text) (sym kept) whole;
  part = tt;
  cause = subst (λ n. HasCause {T = Unit {0}} {E = E} n c (Ok x)) fine cause;
}
handed E before now same a b c (Err e) text whole kept fine cause = record {
  whole = tt;
  part = subst (λ (s : Option (List ℕ)). AppendsPrefix before s text) (sym kept) (prefix_whole before now text whole);
  cause = subst (λ n. HasCause {T = Unit {0}} {E = E} n c (Err e)) fine cause;
}

pub returns-in_err-put_all : goal.returns-in_err-put_all
returns-in_err-put_all g c =
    stopped (g.K.Sink.written c.args.out.now) (g.K.Sink.written c.put_all.new.out) (g.K.Sink.faults c.args.out.now) (g.K.Sink.faults c.put_all.new.out) c.put_all.result c.from_residual.result c.in_err-put_all.field-0.0
    c.args.bytes.now c.in_err-put_all.was c.from_residual.ensures.1 c.put_all.ensures.part c.put_all.ensures.cause

pub returns-then-not-is_empty : goal.returns-then-not-is_empty
returns-then-not-is_empty g c =
    handed _ (g.K.Sink.written c.args.out.now) (g.K.Sink.written c.put_all.new.out) (g.K.Sink.written c.flush.new.self) (g.K.Sink.faults c.args.out.now) (g.K.Sink.faults c.put_all.new.out) (g.K.Sink.faults c.flush.new.self) c.flush.result
    c.args.bytes.now c.in_ok-put_all.ensures.whole c.flush.ensures.bytes c.in_ok-put_all.ensures.cause.kept c.flush.ensures.cause

pub returns : goal.returns
returns g c = record { whole = c.in_ok-put_all.ensures.whole; part = tt; cause = c.in_ok-put_all.ensures.cause }
