use Rattle.std.proofs.Common.{rules, ◌≡◌, ◌≤◌, ◌+◌, map}
use Rattle.of_compile.specs.Coding.{Coding}
use Rattle.of_devices.specs.Racks.{Meant}
use Rattle.of_machine.specs.Runs.{Feed}
use Rattle.of_machine.specs.Stretches.{StretchesWith}
use Rattle.of_machine.specs.declared.answers.End.TheVariants.{AnswersOut, Done, LimitReached}
use Rattle.of_trace.proofs.Gone.{done_is_over, ends_behind_with, goes_on_with, if_ok, none_gone_with, out_is_over}
use Rattle.of_trace.proofs.runs.trace_rest_with.Goals as goal

pub loop-run-init : goal.loop-run-init
loop-run-init g c =
    let m : _ → Meant = λ d. (goal.Device-dyn g (d.vtable, d.value)).meant d.value in
    record {
      gone = none_gone_with (map m c.args.rack.now.items) c.args.run.now c.requires.calm c.requires.none;
      few = c.requires.few;
    }

pub loop-run-preserved : goal.loop-run-preserved
loop-run-preserved g c =
    let m : _ → Meant = λ d. (goal.Device-dyn g (d.vtable, d.value)).meant d.value in
    let ds = map m c.args.rack.now.items in
    let es = map m c.loop-run.rack.items in
    let hs = map m c.trace_stretch_with.new.rack.items in
    let f : Feed Coding = c.args.run.now in
    let x : Feed Coding = c.loop-run.run in
    let h : Feed Coding = c.trace_stretch_with.new.run in
    let until = c.steps-until.result + 1 in
    let s : StretchesWith until es hs x h LimitReached = search rules in
    let made : h.machine.steps ≡ until = search rules in
    record {
      gone = goes_on_with c.stretches_join.ensures until ds es hs f x h LimitReached c.loop-run.invariant.gone s;
      few = search rules;
    }

pub returns-in-Ok-Done : goal.returns-in-Ok-Done
returns-in-Ok-Done g c =
    let m : _ → Meant = λ d. (goal.Device-dyn g (d.vtable, d.value)).meant d.value in
    let ds = map m c.args.rack.now.items in
    let es = map m c.loop-run.rack.items in
    let hs = map m c.trace_stretch_with.new.rack.items in
    let f : Feed Coding = c.args.run.now in
    let x : Feed Coding = c.loop-run.run in
    let h : Feed Coding = c.trace_stretch_with.new.run in
    let until = c.steps-until.result + 1 in
    let s : StretchesWith until es hs x h Done = search rules in
    let few : until ≤ c.args.limit = search rules in
    ends_behind_with c.stretches_join.ensures until c.args.limit ds es hs f x h Done few done_is_over
    c.loop-run.invariant.gone s

pub returns-in-Ok-AnswersOut : goal.returns-in-Ok-AnswersOut
returns-in-Ok-AnswersOut g c =
    let m : _ → Meant = λ d. (goal.Device-dyn g (d.vtable, d.value)).meant d.value in
    let ds = map m c.args.rack.now.items in
    let es = map m c.loop-run.rack.items in
    let hs = map m c.trace_stretch_with.new.rack.items in
    let f : Feed Coding = c.args.run.now in
    let x : Feed Coding = c.loop-run.run in
    let h : Feed Coding = c.trace_stretch_with.new.run in
    let until = c.steps-until.result + 1 in
    let s : StretchesWith until es hs x h AnswersOut = search rules in
    let few : until ≤ c.args.limit = search rules in
    ends_behind_with c.stretches_join.ensures until c.args.limit ds es hs f x h AnswersOut few out_is_over
    c.loop-run.invariant.gone s

pub returns : goal.returns
returns g c =
    let m : _ → Meant = λ d. (goal.Device-dyn g (d.vtable, d.value)).meant d.value in
    let ds = map m c.args.rack.now.items in
    let es = map m c.loop-run.rack.items in
    let hs = map m c.trace_stretch_with-2.new.rack.items in
    let f : Feed Coding = c.args.run.now in
    let x : Feed Coding = c.loop-run.run in
    let h : Feed Coding = c.trace_stretch_with-2.new.run in
    let limit = c.args.limit in
    if_ok c.trace_stretch_with-2.result (λ e. StretchesWith limit es hs x h e) (λ e. StretchesWith limit ds hs f h e)
    (λ e s. c.stretches_join.ensures.behind_with limit ds es hs f x h e c.loop-run.invariant.gone s)
    c.trace_stretch_with-2.ensures.ok
