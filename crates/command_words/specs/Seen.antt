-- What a contract sees of a command.
use Rattle.command_words.specs.Forms as form
use Rattle.command_words.specs.declared.words.Places.{Places}
use Rattle.command_words.specs.declared.words.Command.{Command}
use Rattle.command_words.specs.declared.words.Command.TheVariants as command

abbrev pub places_view : Places → form.Places
places_view p = record { net = p.net.now; events = p.events.now }

abbrev pub command_view : Command → form.Command
command_view (command.Replay places wish) = form.Replay (places_view places) wish
command_view (command.Check places report) = form.Check (places_view places) report.now
command_view (command.Trial feeders) = form.Trial feeders
