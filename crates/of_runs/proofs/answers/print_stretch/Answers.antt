use Rattle.std.proofs.Common.{rules, refl, length, drop}
use Rattle.std.specs.Io.KnownBytes.{Appends}
use Rattle.of_files.specs.Messages.{AppendsPart}
use Rattle.of_files.specs.declared.fault.Fault.TheVariants as fault
use Rattle.of_machine.specs.Stretches.{Stretches}
use Rattle.of_runs.specs.Runs.{console_of}
use Rattle.of_runs.proofs.Kept.{prints, stays, stops}
use Rattle.of_runs.proofs.answers.print_stretch.Goals as goal

pub returns-in_default-clause-err : goal.returns-in_default-clause-err
returns-in_default-clause-err g c =
    stays c.args.limit c.args.run.now (g.W.Write.contents c.args.out.now) fault.NoMemory c.requires.calm
    c.requires.few refl

pub returns-in-Ok-print_since-clause-ok : goal.returns-in-Ok-print_since-clause-ok
returns-in-Ok-print_since-clause-ok g c =
    let f = c.args.run.now in
    let h = c.go.new.self in
    let old = g.W.Write.contents c.args.out.now in
    let new = g.W.Write.contents c.print_since.new.out in
    let gone : Stretches c.args.limit f h c.in-Ok.end = search rules in
    let rest : Appends old new (drop (length (console_of f.machine)) (console_of h.machine)) = search rules in
    prints c.printed_stays.ensures.cells c.args.limit f h old new c.in-Ok.end gone rest

pub returns-in-Err-clause-err : goal.returns-in-Err-clause-err
returns-in-Err-clause-err g c =
    let f = c.args.run.now in
    let h = c.go.new.self in
    let old = g.W.Write.contents c.args.out.now in
    let new = g.W.Write.contents c.print_since.new.out in
    let gone : Stretches c.args.limit f h c.in-Ok.end = search rules in
    let part : AppendsPart old new (drop (length (console_of f.machine)) (console_of h.machine)) = search rules in
    stops c.printed_stays.ensures.cells c.args.limit f h old new c.in-Ok.end c.in-Err.fault gone part (search rules)
