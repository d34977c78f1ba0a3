-- What a replay that is done has printed.
use Rattle.std.proofs.Common.{map, string_bytes}
use Rattle.command_words.specs.Forms.{command_of}
use Rattle.run_tests.proofs.CallerKnows.{prints_least}
use Rattle.run_tests.proofs.caller.run_words.Goals as goal

pub returns : goal.returns
returns g c =
    prints_least (g.S.Shelf.files c.args.shelf.now) (g.S.Shelf.left c.args.shelf.now) (g.S.Shelf.left c.outage_main.new.shelf) (g.K.Sink.written c.args.out.now) (g.K.Sink.written c.outage_main.new.out) (command_of (map string_bytes c.args.words.now)) c.outage_main.result c.outage_main.ensures.ends
