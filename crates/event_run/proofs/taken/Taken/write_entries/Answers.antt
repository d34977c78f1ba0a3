-- What comes of writing the entries that are kept.
use Rattle.std.proofs.Common.{ℕ, List, refl, sym, ◌∙◌, subst}
use Rattle.std.specs.Io.KnownBytes.{Appends}
use Rattle.outage_ports.specs.Bytes.{AppendsPrefix}
use Rattle.event_run.specs.declared.reading.EventsStop.TheVariants.{WriteFailed}
use Rattle.event_run.proofs.PutLines.{done, at_done, at_failed}
use Rattle.event_run.proofs.Told.{ok_is_no_stop, failed_told, done_told}
use Rattle.event_run.proofs.taken.Taken.write_entries.Goals as goal

pub returns-then-is_err-clause-writes : goal.returns-then-is_err-clause-writes
returns-then-is_err-clause-writes g c =
    subst (λ (xs : List ℕ). AppendsPrefix (g.K.Sink.written c.args.out.now) (g.K.Sink.written c.put_bytes.new.out) xs) c.deref.ensures.value
    (at_failed c.put_bytes.result _ c.put_bytes.ensures.part (sym c.is_err.ensures.value ∙ c.if-is_err.true))

pub returns-then-is_err-clause-faults : goal.returns-then-is_err-clause-faults
returns-then-is_err-clause-faults g c = failed_told (g.K.Sink.faults c.args.out.now) (g.K.Sink.faults c.put_bytes.new.out) c.put_bytes.result _ c.put_bytes.ensures.cause (sym c.is_err.ensures.value ∙ c.if-is_err.true) refl

pub returns : goal.returns
returns g c =
    let ok = done c.put_bytes.result (sym c.is_err.ensures.value ∙ c.if-is_err.false) in record {
      writes = (
        subst (λ (xs : List ℕ). Appends (g.K.Sink.written c.args.out.now) (g.K.Sink.written c.put_bytes.new.out) xs) c.deref.ensures.value (at_done c.put_bytes.result _ c.put_bytes.ensures.whole ok),
        record { number = refl; counted = refl; entries = c.clear.ensures },
      );
      faults = done_told (g.K.Sink.faults c.args.out.now) (g.K.Sink.faults c.put_bytes.new.out) c.put_bytes.result _ c.put_bytes.ensures.cause ok (λ e. ok_is_no_stop _ WriteFailed e);
    }
