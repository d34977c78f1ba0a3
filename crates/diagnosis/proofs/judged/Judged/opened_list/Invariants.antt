use Rattle.std.proofs.Common.{◌≡◌, false, map, get_or}
use Rattle.std.specs.List.{filter, range_with_len}
use Rattle.diagnosis.proofs.judged.Judged.opened_list.Given as goal

abbrev pub invariant-loop-d : goal.invariant-loop-d
invariant-loop-d l = map (λ x. x.0) l.list.items ≡ filter (λ k. get_or l.self.opened k false) (range_with_len 0 l.d)
