use Rattle.std.proofs.Common.{rules, codes}
use Rattle.clap.specs.Words.{new_app}
use Rattle.of_arguments.specs.CommandLine.{client_app, console_app, debug_app, detok_app, needing_subcommand, run_app}
use Rattle.of_arguments.specs.CommandLine.{IsBuilt, check_app, pci_app, tok_app, versioned}
use Rattle.of_arguments.proofs.arguments.command.Goals as goal

pub returns : goal.returns
returns c =
    let base : IsBuilt (needing_subcommand (versioned (new_app (codes "ofw")))) c.subcommand_required-command.result =
    (search rules, search rules) in
    let with_run = c.in_ok-command.ensures _ run_app base c.run_command.ensures in
    let with_client = c.in_ok-command-2.ensures _ client_app with_run c.client_command.ensures in
    let with_console = c.in_ok-command-3.ensures _ console_app with_client c.console_command.ensures in
    let with_debug = c.in_ok-command-4.ensures _ debug_app with_console c.debug_command.ensures in
    let with_tok = c.in_ok-command-5.ensures _ tok_app with_debug c.tok_command.ensures in
    let with_detok = c.in_ok-command-6.ensures _ detok_app with_tok c.detok_command.ensures in
    let with_check = c.in_ok-command-7.ensures _ check_app with_detok c.check_command.ensures in
    c.with_subcommand-8.ensures _ pci_app with_check c.pci_command.ensures
