use Rattle.std.proofs.Common.{rules, map, inr, [], ◌≡◌, subst, sym}
use Rattle.of_compile.specs.Coding.{Coding}
use Rattle.of_devices.specs.Racks.{Meant}
use Rattle.of_machine.specs.Racks.{answers_of}
use Rattle.of_machine.specs.Runs.{Feed, RunsTo}
use Rattle.of_runs.specs.Printing.{PrintsAllWith, StopsAllWith}
use Rattle.of_runs.proofs.Kept.{breaks_with, ends_first_with}
use Rattle.of_runs.proofs.boards.print_on_rack.Goals as goal

pub returns-in-Ok-print_begun-clause-run : goal.returns-in-Ok-print_begun-clause-run
returns-in-Ok-print_begun-clause-run g c =
    let f : _ → Meant = λ d. (goal.Device-dyn g (d.vtable, d.value)).meant d.value in
    let ds = map f c.args.rack.now.items in
    let es = map f c.print_begun.new.rack.items in
    let image = c.args.image.now in
    let lines = map (λ l. l.items) c.args.lines.now in
    let limit = c.args.limit in
    let start : Feed Coding = c.in-Ok.run' in
    let last : Feed Coding = c.print_begun.new.run in
    let end = c.in-Ok-print_begun.end in
    let old = g.W.Write.contents c.args.out.now in
    let new = g.W.Write.contents c.print_begun.new.out in
    let s : PrintsAllWith limit ds es start last old new end = search rules in
    let same : c.into_machine.result ≡ last.machine = search rules in
    let ended = ends_first_with c.stretches_join.ensures image lines limit ds es start last end c.ranges.limit.fits
    c.in-Ok.ensures.begun s.0 in
    subst (λ m. RunsTo image lines (answers_of ds m.asked) [] limit m end) (sym same) ended

pub returns-in-Err-print_begun-clause-given_up : goal.returns-in-Err-print_begun-clause-given_up
returns-in-Err-print_begun-clause-given_up g c =
    let f : _ → Meant = λ d. (goal.Device-dyn g (d.vtable, d.value)).meant d.value in
    let ds = map f c.args.rack.now.items in
    let start : Feed Coding = c.in-Ok.run' in
    let old = g.W.Write.contents c.args.out.now in
    let new = g.W.Write.contents c.print_begun.new.out in
    let fault = c.in-Err-print_begun.fault in
    let s : StopsAllWith c.args.limit ds start old new fault = search rules in
    inr
    (breaks_with c.stretches_join.ensures c.args.image.now (map (λ l. l.items) c.args.lines.now) c.args.limit ds start
    old new fault c.ranges.limit.fits c.in-Ok.ensures.begun s)
