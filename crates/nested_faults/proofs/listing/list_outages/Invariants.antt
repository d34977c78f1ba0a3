use Rattle.std.proofs.Common.{◌≡◌}
use Rattle.nested_faults.specs.Listing.{outages_in}
use Rattle.nested_faults.proofs.listing.list_outages.Given as goal

abbrev pub invariant-loop-d : goal.invariant-loop-d
invariant-loop-d l = l.outages.items ≡ outages_in l.grid l.costs l.judged l.last l.tallies l.d
