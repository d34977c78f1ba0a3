-- A plan as lists.
use Rattle.std.specs.Prelude.{List}
use Rattle.grid_model.specs.declared.parts.MeterId.{MeterId}
use Rattle.restore_plan.specs.declared.moves.Move.{Move}

-- the moves in their order, and the meters that nothing feeds after them
pub record Planned : Type 0 where
  pub moves : List Move
  pub unfed : List MeterId
