-- The fields that were read are those of the row.
use Rattle.std.proofs.Common.{ℕ, [], List, Bor, refl, sym, ◌∙◌}
use Rattle.csv.specs.Records.{fields_of}
use Rattle.grid_reader.proofs.FieldPlaces.{listed, read_at}
use Rattle.grid_reader.proofs.shapes.shape_of.Goals as goal

-- what stands where no field is
nothing : Bor (List ℕ)
nothing = record { ref_ptr = (0, 0); now = [] }

pub returns-in-2 : goal.returns-in-2
unfolding nothing
returns-in-2 c =
    let at = read_at c.first_fields.result _ nothing c.first_fields.ensures refl in
    rw (listed (fields_of c.args.row.now) 2 (sym c.len.ensures ∙ c.in-2.is)) (rw (at 0, at 1) at c.source_shape.ensures)

pub returns-in-3 : goal.returns-in-3
unfolding nothing
returns-in-3 c =
    let at = read_at c.first_fields.result _ nothing c.first_fields.ensures refl in
    rw (listed (fields_of c.args.row.now) 3 (sym c.len.ensures ∙ c.in-3.is)) (rw (at 0, at 1, at 2) at c.setting_shape.ensures)

pub returns-in-4 : goal.returns-in-4
unfolding nothing
returns-in-4 c =
    let at = read_at c.first_fields.result _ nothing c.first_fields.ensures refl in
    rw (listed (fields_of c.args.row.now) 4 (sym c.len.ensures ∙ c.in-4.is)) (rw (at 0, at 1, at 2, at 3) at c.meter_shape.ensures)

pub returns-in-7 : goal.returns-in-7
unfolding nothing
returns-in-7 c =
    let at = read_at c.first_fields.result _ nothing c.first_fields.ensures refl in
    rw (listed (fields_of c.args.row.now) 7 (sym c.len.ensures ∙ c.in-7.is)) (rw (at 0, at 1, at 2, at 3, at 4, at 5, at 6) at c.device_shape.ensures)
