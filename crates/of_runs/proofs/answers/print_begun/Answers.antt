use Rattle.std.proofs.Common.{rules}
use Rattle.of_files.specs.Messages.{AppendsPart}
use Rattle.of_runs.specs.Runs.{console_of}
use Rattle.of_runs.proofs.Kept.{part_stops}
use Rattle.of_runs.proofs.answers.print_begun.Goals as goal

pub returns-in-Err-clause-err : goal.returns-in-Err-clause-err
returns-in-Err-clause-err g c =
    let f = c.args.run.now in
    let old = g.W.Write.contents c.args.out.now in
    let new = g.W.Write.contents c.print_since.new.out in
    let part : AppendsPart old new (console_of f.machine) = search rules in
    part_stops c.args.limit f old new c.in-Err.fault c.requires.calm c.requires.few part (search rules)
