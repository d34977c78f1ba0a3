-- What was found is said.
use Rattle.command_words.specs.Seen.{places_view}
use Rattle.check_run.proofs.CheckEnds.{said_end}
use Rattle.check_run.proofs.check.run_check.Goals as goal

pub returns-in-Ok-clause-ended : goal.returns-in-Ok-clause-ended
returns-in-Ok-clause-ended g c =
    said_end (places_view c.args.places) c.args.report.now (g.S.Shelf.left c.args.shelf.now) (g.S.Shelf.left c.find.new.shelf) (g.K.Sink.written c.args.out.now) (g.K.Sink.written c.say.new.out)
    c.bounds_are_shown.ensures (g.S.Shelf.files c.args.shelf.now) c.in-Ok.found.verdict c.in-Ok.found.text.items c.say.result c.in-Ok.ensures.found c.say.ensures.said
