use Rattle.std.proofs.Common.{rules, ◌≡◌, [], map, ap, subst, sym}
use Rattle.of_compile.specs.Coding.{Coding}
use Rattle.of_devices.specs.Racks.{Meant, told_all}
use Rattle.of_machine.specs.Racks.{IsLeftWith, answers_of}
use Rattle.of_compile.specs.Structured.{flat_of}
use Rattle.of_eval_laws.specs.Structured.{no_definitions}
use Rattle.of_machine.specs.States.{idle, is_running, loaded, slot}
use Rattle.of_machine.proofs.RunLemmas.{same_answers}
use Rattle.of_machine.specs.Runs.{Feed, RunsTo, due_of, end_of}
use Rattle.of_machine.proofs.RackLemmas.{never_begun, on_err, run_ends_with, run_left, run_told}
use Rattle.of_machine.proofs.racks.run_rack.Goals as goal

-- ---- where the rack answers, no answer is given

pub run_with-requires-clause-none : goal.run_with-requires-clause-none
run_with-requires-clause-none g c =
    let first : Feed Coding = record {
      machine = loaded (idle (flat_of no_definitions)) c.args.image.now slot;
      lines = map (λ l. l.items) c.args.lines.now;
      answers = [];
      calls = map due_of c.args.calls.now;
    } in
    same_answers first c.in_ok-run.run' c.in_ok-run.ensures.begun

-- ---- no memory

pub returns-in_err-run-clause-left : goal.returns-in_err-run-clause-left
returns-in_err-run-clause-left g c =
    let f : _ → Meant = λ d. (goal.Device-dyn g (d.vtable, d.value)).meant d.value in
    on_err _
    (never_begun c.runs_agree.ensures c.args.image.now (map (λ l. l.items) c.args.lines.now)
    (map due_of c.args.calls.now) c.args.limit
    (map f c.args.rack.now.items))

pub returns-in_default-clause-left : goal.returns-in_default-clause-left
returns-in_default-clause-left g c =
    let f : _ → Meant = λ d. (goal.Device-dyn g (d.vtable, d.value)).meant d.value in
    let ds = map f c.args.rack.now.items in
    let es = map f c.run_with.new.rack.items in
    let start : Feed Coding = c.in_ok-run.run' in
    let left : IsLeftWith c.args.limit ds es start = search rules in
    run_left c.runs_agree.ensures c.args.image.now (map (λ l. l.items) c.args.lines.now)
    (map due_of c.args.calls.now) c.args.limit ds es start
    c.in_ok-run.ensures.begun left

-- ---- a machine

pub returns-clause-ok : goal.returns-clause-ok
returns-clause-ok g c =
    let f : _ → Meant = λ d. (goal.Device-dyn g (d.vtable, d.value)).meant d.value in
    let ds = map f c.args.rack.now.items in
    let es = map f c.run_with.new.rack.items in
    let image = c.args.image.now in
    let lines = map (λ l. l.items) c.args.lines.now in
    let calls = map due_of c.args.calls.now in
    let start : Feed Coding = c.in_ok-run.run' in
    let end : Feed Coding = c.run_with.new.run in
    let same = ap (λ (x : Feed Coding). x.machine) c.run.view_is in
    let ended = run_ends_with c.runs_agree.ensures image lines calls ds es c.args.limit start end
    c.in_ok-run.ensures.begun c.ranges.limit.fits c.in_ok-run.ensures.none c.in-Ok.ensures.over in
    subst (λ e. RunsTo image lines (answers_of ds c.run.inside.machine.asked) calls c.args.limit
    c.run.inside.machine e)
    (sym c.end_of-end.ensures)
    (subst
    (λ m. RunsTo image lines (answers_of ds m.asked) calls c.args.limit m (end_of m.waiting (is_running m)))
    (sym same) ended)

pub returns-clause-told : goal.returns-clause-told
returns-clause-told g c =
    let f : _ → Meant = λ d. (goal.Device-dyn g (d.vtable, d.value)).meant d.value in
    let ds = map f c.args.rack.now.items in
    let es = map f c.run_with.new.rack.items in
    let same = ap (λ (x : Feed Coding). x.machine) c.run.view_is in
    let lines = map (λ l. l.items) c.args.lines.now in
    let told = run_told c.args.image.now lines (map due_of c.args.calls.now) ds es c.in_ok-run.run'
    c.run_with.new.run c.in_ok-run.ensures.begun c.in-Ok.ensures.over.0 in
    subst (λ m. es ≡ told_all ds m.asked) (sym same) told
