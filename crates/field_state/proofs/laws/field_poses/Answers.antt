use Rattle.field_state.proofs.Posing.{field_poses}
use Rattle.field_state.proofs.laws.field_poses.Goals as goal

pub returns : goal.returns
returns c = field_poses c.history_is_within_grid.ensures c.problem_is_sound.ensures
