-- A text, and a comma.
use Rattle.std.proofs.Common.{[], ◌∷◌}
use Rattle.line_entries.proofs.Puts.{put_behind, put_stops}
use Rattle.line_entries.proofs.rows.put_field.Goals as goal

pub returns-in_err-put_text : goal.returns-in_err-put_text
returns-in_err-put_text g c = put_stops _ _ _ _ c.args.text.now (44 ∷ []) _ _ c.from_residual.ensures.0 c.in_err-put_text.ensures

pub returns : goal.returns
returns g c = put_behind _ _ _ _ _ _ c.args.text.now (44 ∷ []) _ c.in_ok-put_text.ensures.whole c.in_ok-put_text.ensures.cause.kept c.put_text-2.ensures
