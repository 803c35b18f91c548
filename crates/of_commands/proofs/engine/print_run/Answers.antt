use Rattle.std.proofs.Common.{rules}
use Rattle.of_arguments.specs.Asked.{appendix_of}
use Rattle.of_commands.proofs.Faults.{ends_begin, run_printed, run_unrun}
use Rattle.of_commands.proofs.engine.print_run.Goals as goal

pub returns-in-Ok-clause-printed : goal.returns-in-Ok-clause-printed
returns-in-Ok-clause-printed g c =
    run_printed (appendix_of c.args.run.listings) (g.R.Read.remaining c.args.file.now) c.args.run.outside
    c.args.run.limit _ c.in-Ok.end _ _ _ c.print_end.result c.in-Ok.ensures.ok c.in-Ok.ensures.printed
    c.print_end.ensures.ok c.print_end.ensures.err

pub returns-in-Ok-clause-unsaid : goal.returns-in-Ok-clause-unsaid
returns-in-Ok-clause-unsaid g c =
    ends_begin (appendix_of c.args.run.listings) c.in-Ok.machine c.in-Ok.end (g.W.Write.contents c.run_file.new.out)
    (g.W.Write.contents c.print_end.new.out) c.print_end.result _ c.print_end.ensures.err

pub returns-in-Err-clause-printed : goal.returns-in-Err-clause-printed
returns-in-Err-clause-printed g c =
    run_unrun (appendix_of c.args.run.listings) (g.R.Read.remaining c.args.file.now) c.args.run.outside
    c.args.run.limit _ _ c.in-Err.fault c.in-Err.ensures.err
