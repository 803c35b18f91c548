use Rattle.std.proofs.Common.{rules, ◌≡◌, ◌≤◌, ◌+◌}
use Rattle.of_compile.specs.Coding.{Coding}
use Rattle.of_machine.specs.Runs.{Feed}
use Rattle.of_machine.specs.Stretches.{Stretches}
use Rattle.of_machine.specs.declared.answers.End.TheVariants.{AnswersOut, Done, LimitReached}
use Rattle.of_trace.proofs.Gone.{done_is_over, ends_behind, goes_on, if_ok, none_gone, out_is_over}
use Rattle.of_trace.proofs.runs.trace_rest.Goals as goal

pub loop-run-init : goal.loop-run-init
loop-run-init g c = record { gone = none_gone c.args.run.now c.requires.calm; few = c.requires.few }

pub loop-run-preserved : goal.loop-run-preserved
loop-run-preserved g c =
    let f : Feed Coding = c.args.run.now in
    let x : Feed Coding = c.loop-run.run in
    let h : Feed Coding = c.trace_stretch.new.run in
    let until = c.steps-until.result + 1 in
    let s : Stretches until x h LimitReached = search rules in
    let made : h.machine.steps ≡ until = search rules in
    record { gone = goes_on c.stretches_join.ensures until f x h c.loop-run.invariant.gone s; few = search rules }

pub returns-in-Ok-Done : goal.returns-in-Ok-Done
returns-in-Ok-Done g c =
    let f : Feed Coding = c.args.run.now in
    let x : Feed Coding = c.loop-run.run in
    let h : Feed Coding = c.trace_stretch.new.run in
    let until = c.steps-until.result + 1 in
    let s : Stretches until x h Done = search rules in
    let few : until ≤ c.args.limit = search rules in
    ends_behind c.stretches_join.ensures until c.args.limit f x h Done few done_is_over c.loop-run.invariant.gone s

pub returns-in-Ok-AnswersOut : goal.returns-in-Ok-AnswersOut
returns-in-Ok-AnswersOut g c =
    let f : Feed Coding = c.args.run.now in
    let x : Feed Coding = c.loop-run.run in
    let h : Feed Coding = c.trace_stretch.new.run in
    let until = c.steps-until.result + 1 in
    let s : Stretches until x h AnswersOut = search rules in
    let few : until ≤ c.args.limit = search rules in
    ends_behind c.stretches_join.ensures until c.args.limit f x h AnswersOut few out_is_over
    c.loop-run.invariant.gone s

pub returns : goal.returns
returns g c =
    let f : Feed Coding = c.args.run.now in
    let x : Feed Coding = c.loop-run.run in
    let h : Feed Coding = c.trace_stretch-2.new.run in
    let limit = c.args.limit in
    if_ok c.trace_stretch-2.result (λ e. Stretches limit x h e) (λ e. Stretches limit f h e)
    (λ e s. c.stretches_join.ensures.behind limit f x h e c.loop-run.invariant.gone s)
    c.trace_stretch-2.ensures.ok
