use Rattle.std.proofs.Common.{rules, ◌≡◌, map, None, ap, ◌∙◌}
use Rattle.of_compile.specs.Coding.{Coding}
use Rattle.of_eval_laws.specs.Structured.{no_definitions}
use Rattle.of_machine.specs.States.{MachineState, flat_machine, idle, loaded, slot}
use Rattle.of_machine.specs.Runs.{Feed, due_of, settled}
use Rattle.of_machine.proofs.RunLemmas.{same_answers, same_steps, same_waiting, settled_is}
use Rattle.of_machine.proofs.run.begin_run.Goals as goal

pub returns-clause-calm : goal.returns-clause-calm
returns-clause-calm c =
    let m = c.in_ok-machine.machine in
    let calls = map due_of c.args.calls.now in
    let lines = map (λ l. l.items) c.args.lines.now in
    let g : Feed Coding = record { machine = m; lines = lines; answers = c.args.answers.now; calls = calls } in
    let f = c.serve.new.self in
    let begun : m ≡ loaded (flat_machine (idle no_definitions)) c.args.image.now slot = search rules in
    let served : f ≡ settled g = search rules in
    let quiet : f.machine.waiting ≡ None =
    same_waiting g f served ∙ ap (λ (x : MachineState Coding). x.waiting) begun in
    (c.in-Ok.ensures.later, quiet, settled_is g f served)

pub returns-clause-none : goal.returns-clause-none
returns-clause-none c =
    let m = c.in_ok-machine.machine in
    let calls = map due_of c.args.calls.now in
    let lines = map (λ l. l.items) c.args.lines.now in
    let g : Feed Coding = record { machine = m; lines = lines; answers = c.args.answers.now; calls = calls } in
    let f = c.serve.new.self in
    let begun : m ≡ loaded (flat_machine (idle no_definitions)) c.args.image.now slot = search rules in
    let served : f ≡ settled g = search rules in
    same_steps g f served ∙ ap (λ (x : MachineState Coding). x.steps) begun

pub returns-clause-answers : goal.returns-clause-answers
returns-clause-answers c =
    let m = c.in_ok-machine.machine in
    let calls = map due_of c.args.calls.now in
    let lines = map (λ l. l.items) c.args.lines.now in
    let g : Feed Coding = record { machine = m; lines = lines; answers = c.args.answers.now; calls = calls } in
    let f = c.serve.new.self in
    let served : f ≡ settled g = search rules in
    same_answers g f served
