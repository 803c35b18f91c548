use Rattle.std.proofs.Common.{rules}
use Rattle.of_commands.proofs.Faults.{listing_given_up, listing_printed}
use Rattle.of_commands.proofs.engine.detok.Goals as goal

pub returns-in-Ok : goal.returns-in-Ok
returns-in-Ok g c =
    listing_printed (g.R.Read.remaining c.args.file.now) c.args.listing c.args.partial _ _ c.in-Ok.wrong _ _
    c.print_lines.result c.deref.ensures.value c.in-Ok.ensures.ok c.print_lines.ensures.ok c.print_lines.ensures.err

pub returns-in-Err : goal.returns-in-Err
returns-in-Err g c =
    listing_given_up (g.R.Read.remaining c.args.file.now) c.args.listing c.args.partial _ _ c.in-Err.fault
    (search rules) c.in-Err.ensures.err
