use Rattle.field_state.proofs.Acting.{at_after}
use Rattle.field_state.proofs.Ruling.{applied_by}
use Rattle.field_state.proofs.state.State.act.Goals as goal

pub perform-requires-clause-allowed : goal.perform-requires-clause-allowed
perform-requires-clause-allowed g c =
    let at = c.requires.at in
    (applied_by c.args.grid.now at.0 c.args.self.now.forest.closed c.args.event at.1.kept.closed at.2).1

pub returns-clause-at : goal.returns-clause-at
returns-clause-at g c h at applied =
    at_after c.args.grid.now h c.args.event c.args.self.now c.perform.new.self at c.perform.ensures.done c.requires.of_grid applied
