use Rattle.std.proofs.Common.{rules}
use Rattle.of_commands.specs.Debugs.{Shows, debugging_of}
use Rattle.of_commands.proofs.Debugged.{states_part}
use Rattle.of_commands.proofs.debugs.print_states.Goals as goal

pub returns-in-Ok : goal.returns-in-Ok
returns-in-Ok g c =
    let d = debugging_of c.args.asked in
    let played = c.in-Ok.played in
    let shows : Shows d played.text.items played.wrong = search rules in
    states_part d played.text.items played.wrong _ _ c.in-Err-print_played.fault shows
    c.in-Err-print_played.ensures.err
