use Rattle.std.proofs.Common.{rules, map, ap, subst, sym}
use Rattle.of_compile.specs.Coding.{Coding}
use Rattle.of_machine.specs.Runs.{Feed, RunsTo, due_of}
use Rattle.of_machine.specs.Stretches.{Stretches, stands}
use Rattle.of_machine.proofs.AgreeLemmas.{run_ends}
use Rattle.of_machine.proofs.run.run_script.Goals as goal

pub returns-clause-ok : goal.returns-clause-ok
returns-clause-ok c =
    let image = c.args.image.now in
    let lines = map (λ l. l.items) c.args.lines.now in
    let answers = c.args.answers.now in
    let calls = map due_of c.args.calls.now in
    let start : Feed Coding = c.in_ok-run.run' in
    let f : Feed Coding = c.go.new.self in
    let same = ap (λ (x : Feed Coding). x.machine) c.run.view_is in
    let gone : Stretches c.args.limit start f c.in-Ok.end = search rules in
    let ended =
    run_ends c.runs_agree.ensures image lines answers calls c.args.limit start f c.in_ok-run.ensures.begun
    c.ranges.limit.fits c.in_ok-run.ensures.none gone.0 in
    subst (λ e. RunsTo image lines answers calls c.args.limit c.run.inside.machine e) (sym gone.1)
    (subst (λ m. RunsTo image lines answers calls c.args.limit m (stands f)) (sym same) ended)
