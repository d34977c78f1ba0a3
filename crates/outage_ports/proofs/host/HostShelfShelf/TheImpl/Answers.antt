use Rattle.std.proofs.Common.{refl}
use Rattle.outage_ports.proofs.Results.{always_ok, always_err}
use Rattle.outage_ports.proofs.host.HostShelfShelf.TheImpl.Goals as goal

pub start-tells : goal.start-tells
start-tells g c = record {
  files = refl;
  whole = always_ok _ c.result (λ _. tt);
  begun = c.ensures.begun;
  same_left = always_err c.result refl;
  same_started = c.ensures.same_started;
  cause = c.ensures.cause;
}

pub read-tells : goal.read-tells
read-tells g c = record {
  files = refl;
  begun = c.ensures.begun;
  bound = c.ensures.bound;
  bytes = always_ok _ c.result (λ _. tt);
  same_left = always_err c.result refl;
  cause = c.ensures.cause;
}
