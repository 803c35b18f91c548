use Rattle.std.proofs.Common.{rules, refl, length, drop, map}
use Rattle.std.specs.Io.KnownBytes.{Appends}
use Rattle.of_devices.specs.Racks.{Meant}
use Rattle.of_files.specs.Messages.{AppendsPart}
use Rattle.of_files.specs.declared.fault.Fault.TheVariants as fault
use Rattle.of_machine.specs.Stretches.{StretchesWith}
use Rattle.of_runs.specs.Runs.{console_of}
use Rattle.of_runs.proofs.Kept.{prints_with, stays_with, stops_with}
use Rattle.of_runs.proofs.boards.print_stretch.Goals as goal

pub returns-in_default-clause-err : goal.returns-in_default-clause-err
returns-in_default-clause-err g c =
    let f : _ → Meant = λ d. (goal.Device-dyn g (d.vtable, d.value)).meant d.value in
    stays_with c.args.limit (map f c.args.rack.now.items) c.args.run.now (g.W.Write.contents c.args.out.now)
    fault.NoMemory c.requires.calm c.requires.none c.requires.few refl

pub returns-in-Ok-print_since-clause-ok : goal.returns-in-Ok-print_since-clause-ok
returns-in-Ok-print_since-clause-ok g c =
    let f : _ → Meant = λ d. (goal.Device-dyn g (d.vtable, d.value)).meant d.value in
    let ds = map f c.args.rack.now.items in
    let es = map f c.go_with.new.rack.items in
    let start = c.args.run.now in
    let h = c.go_with.new.run in
    let old = g.W.Write.contents c.args.out.now in
    let new = g.W.Write.contents c.print_since.new.out in
    let gone : StretchesWith c.args.limit ds es start h c.in-Ok.end = search rules in
    let rest : Appends old new (drop (length (console_of start.machine)) (console_of h.machine)) = search rules in
    prints_with c.printed_stays.ensures.cells c.args.limit ds es start h old new c.in-Ok.end gone rest

pub returns-in-Err-clause-err : goal.returns-in-Err-clause-err
returns-in-Err-clause-err g c =
    let f : _ → Meant = λ d. (goal.Device-dyn g (d.vtable, d.value)).meant d.value in
    let ds = map f c.args.rack.now.items in
    let es = map f c.go_with.new.rack.items in
    let start = c.args.run.now in
    let h = c.go_with.new.run in
    let old = g.W.Write.contents c.args.out.now in
    let new = g.W.Write.contents c.print_since.new.out in
    let gone : StretchesWith c.args.limit ds es start h c.in-Ok.end = search rules in
    let part : AppendsPart old new (drop (length (console_of start.machine)) (console_of h.machine)) =
    search rules in
    stops_with c.printed_stays.ensures.cells c.args.limit ds es start h old new c.in-Ok.end c.in-Err.fault gone part
    (search rules)
