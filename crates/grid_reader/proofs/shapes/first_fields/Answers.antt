use Rattle.std.proofs.Common.{rules, refl, arith}
use Rattle.csv.specs.Records.{fields_of}
use Rattle.grid_reader.proofs.FieldPlaces.{next_field}
use Rattle.grid_reader.proofs.shapes.first_fields.Goals as goal

pub loop-i-preserved : goal.loop-i-preserved
loop-i-preserved c = record {
  seven = search rules;
  so_far = next_field c.loop-i.fields (fields_of c.args.row.now) c.get.result _ c.unwrap_or.result c.loop-i.i (omega arith) c.loop-i.invariant.so_far c.get.ensures.value refl c.unwrap_or.ensures;
}
