-- The commands that the program has, as `clap` sees them.
use Rattle.std.specs.Prelude.{codes, true, Some}
use Rattle.clap.specs.Words.{App, Rule, Text, new_app, new_rule, with_rule, with_subcommand}
use Rattle.clap.specs.Simple.{on_top}
use Rattle.clap.specs.declared.builder.action.ArgAction.TheVariants.{Append, SetTrue}
use Rattle.clap.specs.declared.builder.value_parser.ValueParser.TheVariants.{Unsigned}

-- an option with a whole number, which is required
abbrev pub number_rule : Text → Rule
number_rule name = record (new_rule name) { long = Some name; value_names = 1; required = true; parser = Some (Unsigned 0 18446744073709551615) }

-- an argument in its place, which is required
abbrev pub path_rule : Text → Rule
path_rule name = record (new_rule name) { required = true }

-- an option without a value, which is set if it is there
abbrev pub flag_rule : Text → Rule
flag_rule name = record (new_rule name) { long = Some name; action = Some SetTrue }

-- the form of what is written
abbrev pub csv_rule : Rule
csv_rule = flag_rule (codes "csv")

-- an option with a text
abbrev pub text_rule : Text → Rule
text_rule name = record (new_rule name) { long = Some name; value_names = 1 }

-- an option with a whole number
abbrev pub optional_rule : Text → Rule
optional_rule name = record (text_rule name) { parser = Some (Unsigned 0 18446744073709551615) }

-- a command with the arguments TABLE IN OUT
abbrev pub files_app : Text → App
files_app name = with_rule (with_rule (with_rule (new_app name) (path_rule (codes "TABLE"))) (path_rule (codes "IN"))) (path_rule (codes "OUT"))

-- an option with the number of a link, which may be there more than once
abbrev pub links_rule : Text → Rule
links_rule name = record (new_rule name) { long = Some name; value_names = 1; action = Some Append; parser = Some (Unsigned 0 65535) }

-- afdx alone --id N --bag MS --jitter US --size N
unfoldable pub alone_app : App
alone_app =
    with_rule (with_rule (with_rule (with_rule (new_app (codes "alone")) (number_rule (codes "id"))) (number_rule (codes "bag")))
    (number_rule (codes "jitter"))) (number_rule (codes "size"))

-- afdx check TABLE [--csv]
unfoldable pub check_app : App
check_app = with_rule (with_rule (new_app (codes "check")) (path_rule (codes "TABLE"))) csv_rule

-- afdx size TABLE [--csv]
unfoldable pub size_app : App
size_app = with_rule (with_rule (new_app (codes "size")) (path_rule (codes "TABLE"))) csv_rule

-- a command with TABLE IN OUT [--unchecked], to which run and trace add their own
unfoldable pub paths_app : Text → App
paths_app name = with_rule (files_app name) (flag_rule (codes "unchecked"))

-- afdx run TABLE IN OUT [--unchecked] [--verdict] [--fail-on WORDS] [--csv]
unfoldable pub run_app : App
run_app = with_rule (with_rule (with_rule (paths_app (codes "run")) (flag_rule (codes "verdict"))) (text_rule (codes "fail-on"))) csv_rule

-- afdx trace TABLE IN OUT [--unchecked] [--link N].. [--relative]
unfoldable pub trace_app : App
trace_app = with_rule (with_rule (paths_app (codes "trace")) (links_rule (codes "link"))) (flag_rule (codes "relative"))

-- afdx measure TABLE IN [--unchecked] [--csv], and survey with the same arguments
unfoldable pub inputs_app : Text → App
inputs_app name =
    with_rule (with_rule (with_rule (with_rule (new_app name) (path_rule (codes "TABLE"))) (path_rule (codes "IN"))) (flag_rule (codes "unchecked"))) csv_rule

-- afdx explain CODE
unfoldable pub explain_app : App
explain_app = with_rule (new_app (codes "explain")) (path_rule (codes "CODE"))

-- .. [--least-latency US] [--tolerance NS] [--stamps end|free] [--offset PORT=NS]
abbrev pub with_stamps : App → App
with_stamps app =
    with_rule (with_rule (with_rule (with_rule app (optional_rule (codes "least-latency"))) (optional_rule (codes "tolerance"))) (text_rule (codes "stamps")))
    (text_rule (codes "offset"))

-- .. [--rest] [--from STAMP] [--until STAMP]
abbrev pub with_span : App → App
with_span app = with_rule (with_rule (with_rule app (flag_rule (codes "rest"))) (optional_rule (codes "from"))) (optional_rule (codes "until"))

-- afdx compare TABLE IN OUT with these, and [--ports PORT] [--rows FOLDER] [--csv]
unfoldable pub compare_app : App
compare_app = with_rule (with_rule (with_rule (with_span (with_stamps (files_app (codes "compare")))) (text_rule (codes "ports"))) (text_rule (codes "rows"))) csv_rule

-- afdx network, whose own arguments are read by the program below
abbrev pub network_app : App
network_app = new_app (codes "network")

-- afdx [--explain], which wants a subcommand and prints its version
abbrev pub bare_program : App
bare_program = with_rule (on_top (λ s. record s { subcommand_required = true; has_version = true }) (new_app (codes "afdx"))) (flag_rule (codes "explain"))

-- afdx COMMAND: all commands but those of networks, which are there by their name alone
unfoldable pub program : App
program =
    with_subcommand
    (with_subcommand
    (with_subcommand
    (with_subcommand
    (with_subcommand
    (with_subcommand
    (with_subcommand (with_subcommand (with_subcommand (with_subcommand bare_program alone_app.top) check_app.top) size_app.top) run_app.top)
    (inputs_app (codes "measure")).top)
    (inputs_app (codes "survey")).top)
    trace_app.top)
    explain_app.top)
    compare_app.top)
    network_app.top

-- ---- networks

-- network check NET [--csv], and size and jitter with the same arguments
unfoldable pub network_path_app : Text → App
network_path_app name = with_rule (with_rule (new_app name) (path_rule (codes "NET"))) csv_rule

-- network NAME NET IN OUT [--unchecked]
unfoldable pub network_paths_app : Text → App
network_paths_app name =
    with_rule (with_rule (with_rule (with_rule (new_app name) (path_rule (codes "NET"))) (path_rule (codes "IN"))) (path_rule (codes "OUT")))
    (flag_rule (codes "unchecked"))

-- network run NET IN OUT [--unchecked] [--csv]
unfoldable pub network_run_app : App
network_run_app = with_rule (network_paths_app (codes "run")) csv_rule

-- network measure NET IN [--unchecked] [--csv], and survey with the same arguments
unfoldable pub network_inputs_app : Text → App
network_inputs_app name =
    with_rule (with_rule (with_rule (with_rule (new_app name) (path_rule (codes "NET"))) (path_rule (codes "IN"))) (flag_rule (codes "unchecked"))) csv_rule

-- network, which wants a subcommand
abbrev pub bare_network : App
bare_network = on_top (λ s. record s { subcommand_required = true }) (new_app (codes "network"))

-- afdx network check and size
abbrev pub network_checks : App
network_checks = with_subcommand (with_subcommand bare_network (network_path_app (codes "check")).top) (network_path_app (codes "size")).top

-- afdx network check, size, jitter and run
abbrev pub network_runs : App
network_runs = with_subcommand (with_subcommand network_checks (network_path_app (codes "jitter")).top) network_run_app.top

-- afdx network check, size, jitter, run, measure and survey
abbrev pub network_answers : App
network_answers = with_subcommand (with_subcommand network_runs (network_inputs_app (codes "measure")).top) (network_inputs_app (codes "survey")).top

-- all commands of afdx network
unfoldable pub network_program : App
network_program = with_subcommand network_answers (network_paths_app (codes "trace")).top
