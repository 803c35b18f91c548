use Rattle.std.proofs.Common.{rules, map, inr}
use Rattle.of_compile.specs.Coding.{Coding}
use Rattle.of_machine.specs.Runs.{Feed}
use Rattle.of_runs.specs.Printing.{StopsAll}
use Rattle.of_runs.proofs.Kept.{breaks}
use Rattle.of_runs.proofs.answers.print_answered.Goals as goal

pub returns-in-Err-print_begun-clause-given_up : goal.returns-in-Err-print_begun-clause-given_up
returns-in-Err-print_begun-clause-given_up g c =
    let start : Feed Coding = c.in-Ok.run' in
    let old = g.W.Write.contents c.args.out.now in
    let new = g.W.Write.contents c.print_begun.new.out in
    let fault = c.in-Err-print_begun.fault in
    let s : StopsAll c.args.limit start old new fault = search rules in
    inr
    (breaks c.stretches_join.ensures c.args.image.now (map (λ l. l.items) c.args.lines.now) c.args.answers.now
    c.args.limit start old new fault c.ranges.limit.fits c.in-Ok.ensures.begun s)
