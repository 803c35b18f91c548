use Rattle.std.proofs.Common.{rules, map}
use Rattle.std.specs.Io.KnownBytes.{Appends}
use Rattle.of_devices.specs.Racks.{Meant}
use Rattle.of_files.specs.Messages.{AppendsPart}
use Rattle.of_runs.specs.Printing.{StopsAllWith, StopsWith}
use Rattle.of_runs.specs.Runs.{console_of}
use Rattle.of_runs.proofs.Kept.{if_err, part_stops_with, stops_all_with}
use Rattle.of_runs.proofs.boards.print_begun.Goals as goal

pub returns-in-Ok-clause-err : goal.returns-in-Ok-clause-err
returns-in-Ok-clause-err g c =
    let m : _ → Meant = λ d. (goal.Device-dyn g (d.vtable, d.value)).meant d.value in
    let ds = map m c.args.rack.now.items in
    let f = c.args.run.now in
    let limit = c.args.limit in
    let old = g.W.Write.contents c.args.out.now in
    let mid = g.W.Write.contents c.print_since.new.out in
    let new = g.W.Write.contents c.print_rest.new.out in
    let before : Appends old mid (console_of f.machine) = search rules in
    if_err c.print_rest.result (λ y. StopsWith limit ds f mid new y) (λ y. StopsAllWith limit ds f old new y)
    (λ y s. stops_all_with limit ds f old mid new y before s) c.print_rest.ensures.err

pub returns-in-Err-clause-err : goal.returns-in-Err-clause-err
returns-in-Err-clause-err g c =
    let m : _ → Meant = λ d. (goal.Device-dyn g (d.vtable, d.value)).meant d.value in
    let ds = map m c.args.rack.now.items in
    let f = c.args.run.now in
    let old = g.W.Write.contents c.args.out.now in
    let new = g.W.Write.contents c.print_since.new.out in
    let part : AppendsPart old new (console_of f.machine) = search rules in
    part_stops_with c.args.limit ds f old new c.in-Err.fault c.requires.calm c.requires.none c.requires.few part
    (search rules)
