use Rattle.std.proofs.Common.{◌≡◌, [], length, get_or, map, take}
use Rattle.std.specs.List.{range_with_len}
use Rattle.csv.specs.Records.{fields_of}
use Rattle.grid_reader.proofs.shapes.first_fields.Given as goal

-- the fields so far
abbrev pub invariant-loop-i : goal.invariant-loop-i
invariant-loop-i l = record {
  seven : length l.fields ≡ 7;
  so_far : map (λ f. f.now) (take l.i l.fields) ≡ map (λ k. get_or (fields_of l.row) k []) (range_with_len 0 l.i);
}
