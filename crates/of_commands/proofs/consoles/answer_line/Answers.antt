use Rattle.std.proofs.Common.{◌++◌, ap, drop, length, map, subst}
use Rattle.of_compile.specs.Coding.{Coding}
use Rattle.of_devices.specs.Racks.{Meant}
use Rattle.of_files.specs.Messages.{AppendsPart}
use Rattle.of_monitor.specs.Turns.{Attended}
use Rattle.of_commands.specs.Consoles.{printed_since}
use Rattle.of_commands.specs.Listings.{newline_behind}
use Rattle.of_commands.proofs.Parts.{part_of}
use Rattle.of_commands.proofs.Stopped.{unmade}
use Rattle.of_commands.proofs.consoles.answer_line.Goals as goal

pub returns-in-Err-NoMemory-clause-err : goal.returns-in-Err-NoMemory-clause-err
returns-in-Err-NoMemory-clause-err g c =
    let f : _ → Meant = λ d. (goal.Device-dyn g (d.vtable, d.value)).meant d.value in
    let x : Attended Coding = (c.args.machine.now, map f c.args.rack.now.items) in
    let y : Attended Coding = (c.enter.new.machine, map f c.enter.new.rack.items) in
    let old = g.W.Write.contents c.args.out.now in
    let new = g.W.Write.contents c.print_since.new.out in
    let text = c.enter.new.machine.eval.board.console.text in
    let part : AppendsPart old new (printed_since c.args.machine.now c.enter.new.machine) =
    subst (λ n. let t = drop n text in AppendsPart old new (t ++ newline_behind t)) (ap length c.console-before.ensures)
    (part_of c.print_since.result old new _ c.print_since.ensures.ok c.print_since.ensures.err) in
    unmade c.args.limit c.args.line.now x y old new part c.in-Err-NoMemory.ensures.broken
