-- The command line, as the ported crate `clap` is told of it.
use Rattle.std.specs.Prelude.{true, Some, codes}
use Rattle.clap.specs.Words.{App, Rule, Text, new_app, new_rule, with_rule, with_subcommand}
use Rattle.clap.specs.Simple.{Shape, on_top}
use Rattle.clap.specs.declared.builder.action.ArgAction.TheVariants.{Set, SetTrue}

-- a required place
abbrev pub place_rule : Text → Rule
place_rule id = record (new_rule id) { required = true; action = Some Set }

-- an option that takes a value
abbrev pub option_rule : Text → Rule
option_rule id = record (new_rule id) { long = Some id; action = Some Set }

-- a flag
abbrev pub flag_rule : Text → Rule
flag_rule id = record (new_rule id) { long = Some id; action = Some SetTrue }

abbrev pub replay_places_app : App
replay_places_app = with_rule (with_rule (new_app (codes "replay")) (place_rule (codes "net"))) (place_rule (codes "events"))

abbrev pub replay_app : App
replay_app = with_rule (with_rule (with_rule replay_places_app (flag_rule (codes "bounds"))) (option_rule (codes "from"))) (option_rule (codes "to"))

abbrev pub check_app : App
check_app = with_rule (with_rule (with_rule (new_app (codes "check")) (place_rule (codes "net"))) (place_rule (codes "events"))) (place_rule (codes "report"))

-- a command of one place
abbrev pub one_place_app : Text → Text → App
one_place_app name id = with_rule (new_app name) (place_rule id)

abbrev pub trial_app : App
trial_app = one_place_app (codes "trial") (codes "n")

abbrev pub follow_app : App
follow_app = one_place_app (codes "follow") (codes "net")

abbrev pub bare_app : App
bare_app = on_top (λ (s : Shape). record s { disable_help_flag = true; disable_help_subcommand = true; disable_version_flag = true; subcommand_required = true }) (new_app (codes "outage"))

abbrev pub replays_app : App
replays_app = with_subcommand bare_app replay_app.top

abbrev pub checks_app : App
checks_app = with_subcommand replays_app check_app.top

abbrev pub trials_app : App
trials_app = with_subcommand checks_app trial_app.top

unfoldable pub outage_app : App
outage_app = with_subcommand trials_app follow_app.top
