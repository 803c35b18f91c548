use Rattle.std.proofs.Common.{rules, arith, ◌≡◌, ◌≤◌, ◌+◌, map}
use Rattle.of_compile.specs.Coding.{Coding}
use Rattle.of_devices.specs.Racks.{Meant}
use Rattle.of_machine.specs.Runs.{Feed}
use Rattle.of_machine.specs.declared.answers.End.TheVariants.{AnswersOut, Done, LimitReached}
use Rattle.of_runs.specs.Printing.{PrintsWith, StopsWith}
use Rattle.of_runs.proofs.Kept.{done_is_over, ends_behind_with, goes_on_with, if_err, if_ok, none_gone_with}
use Rattle.of_runs.proofs.Kept.{out_is_over, prints_behind_with, stops_behind_with}
use Rattle.of_runs.proofs.boards.print_rest.Goals as goal

pub loop-run-init : goal.loop-run-init
loop-run-init g c =
    let m : _ → Meant = λ d. (goal.Device-dyn g (d.vtable, d.value)).meant d.value in
    record {
      gone = none_gone_with (map m c.args.rack.now.items) c.args.run.now c.requires.calm c.requires.none;
      kept = λ first before. before;
      few = c.requires.few;
    }

pub loop-run-preserved : goal.loop-run-preserved
loop-run-preserved g c =
    let m : _ → Meant = λ d. (goal.Device-dyn g (d.vtable, d.value)).meant d.value in
    let ds = map m c.args.rack.now.items in
    let es = map m c.loop-run.rack.items in
    let f : Feed Coding = c.args.run.now in
    let x : Feed Coding = c.loop-run.run in
    let mid = g.W.Write.contents c.loop-run.out in
    let new = g.W.Write.contents c.print_stretch.new.out in
    let until = c.steps-until.result + 1000000 in
    let hs = map m c.print_stretch.new.rack.items in
    let h : Feed Coding = c.print_stretch.new.run in
    let s : PrintsWith until es hs x h mid new LimitReached = search rules in
    let made : h.machine.steps ≡ until = search rules in
    record {
      gone = goes_on_with c.stretches_join.ensures until ds es hs f x h LimitReached c.loop-run.invariant.gone s.0;
      kept = λ first before. s.1 first (c.loop-run.invariant.kept first before);
      few = search rules;
    }

pub returns-in-Ok-Done-clause-ok : goal.returns-in-Ok-Done-clause-ok
returns-in-Ok-Done-clause-ok g c =
    let m : _ → Meant = λ d. (goal.Device-dyn g (d.vtable, d.value)).meant d.value in
    let ds = map m c.args.rack.now.items in
    let es = map m c.loop-run.rack.items in
    let f : Feed Coding = c.args.run.now in
    let x : Feed Coding = c.loop-run.run in
    let old = g.W.Write.contents c.args.out.now in
    let mid = g.W.Write.contents c.loop-run.out in
    let new = g.W.Write.contents c.print_stretch.new.out in
    let until = c.steps-until.result + 1000000 in
    let hs = map m c.print_stretch.new.rack.items in
    let h : Feed Coding = c.print_stretch.new.run in
    let s : PrintsWith until es hs x h mid new Done = search rules in
    let few : until ≤ c.args.limit = search rules in
    ends_behind_with c.stretches_join.ensures until c.args.limit ds es hs f x h old mid new Done few done_is_over
    c.loop-run.invariant.gone c.loop-run.invariant.kept s

pub returns-in-Ok-AnswersOut-clause-ok : goal.returns-in-Ok-AnswersOut-clause-ok
returns-in-Ok-AnswersOut-clause-ok g c =
    let m : _ → Meant = λ d. (goal.Device-dyn g (d.vtable, d.value)).meant d.value in
    let ds = map m c.args.rack.now.items in
    let es = map m c.loop-run.rack.items in
    let f : Feed Coding = c.args.run.now in
    let x : Feed Coding = c.loop-run.run in
    let old = g.W.Write.contents c.args.out.now in
    let mid = g.W.Write.contents c.loop-run.out in
    let new = g.W.Write.contents c.print_stretch.new.out in
    let until = c.steps-until.result + 1000000 in
    let hs = map m c.print_stretch.new.rack.items in
    let h : Feed Coding = c.print_stretch.new.run in
    let s : PrintsWith until es hs x h mid new AnswersOut = search rules in
    let few : until ≤ c.args.limit = search rules in
    ends_behind_with c.stretches_join.ensures until c.args.limit ds es hs f x h old mid new AnswersOut few out_is_over
    c.loop-run.invariant.gone c.loop-run.invariant.kept s

pub returns-in-Err-clause-err : goal.returns-in-Err-clause-err
returns-in-Err-clause-err g c =
    let m : _ → Meant = λ d. (goal.Device-dyn g (d.vtable, d.value)).meant d.value in
    let ds = map m c.args.rack.now.items in
    let es = map m c.loop-run.rack.items in
    let f : Feed Coding = c.args.run.now in
    let x : Feed Coding = c.loop-run.run in
    let old = g.W.Write.contents c.args.out.now in
    let mid = g.W.Write.contents c.loop-run.out in
    let new = g.W.Write.contents c.print_stretch.new.out in
    let until = c.steps-until.result + 1000000 in
    let s : StopsWith until es x mid new c.in-Err.fault = search rules in
    let few : until ≤ c.args.limit = search rules in
    stops_behind_with c.stretches_join.ensures until c.args.limit ds es f x old mid new c.in-Err.fault few
    c.loop-run.invariant.gone c.loop-run.invariant.kept s

pub returns-clause-ok : goal.returns-clause-ok
returns-clause-ok g c =
    let m : _ → Meant = λ d. (goal.Device-dyn g (d.vtable, d.value)).meant d.value in
    let ds = map m c.args.rack.now.items in
    let es = map m c.loop-run.rack.items in
    let f : Feed Coding = c.args.run.now in
    let x : Feed Coding = c.loop-run.run in
    let old = g.W.Write.contents c.args.out.now in
    let mid = g.W.Write.contents c.loop-run.out in
    let limit = c.args.limit in
    let new = g.W.Write.contents c.print_stretch-2.new.out in
    let hs = map m c.print_stretch-2.new.rack.items in
    let h : Feed Coding = c.print_stretch-2.new.run in
    if_ok c.print_stretch-2.result (λ e. PrintsWith limit es hs x h mid new e)
    (λ e. PrintsWith limit ds hs f h old new e)
    (λ e s. prints_behind_with c.stretches_join.ensures limit ds es hs f x h old mid new e c.loop-run.invariant.gone
    c.loop-run.invariant.kept s)
    c.print_stretch-2.ensures.ok

pub returns-clause-err : goal.returns-clause-err
returns-clause-err g c =
    let m : _ → Meant = λ d. (goal.Device-dyn g (d.vtable, d.value)).meant d.value in
    let ds = map m c.args.rack.now.items in
    let es = map m c.loop-run.rack.items in
    let f : Feed Coding = c.args.run.now in
    let x : Feed Coding = c.loop-run.run in
    let old = g.W.Write.contents c.args.out.now in
    let mid = g.W.Write.contents c.loop-run.out in
    let limit = c.args.limit in
    let new = g.W.Write.contents c.print_stretch-2.new.out in
    if_err c.print_stretch-2.result (λ y. StopsWith limit es x mid new y) (λ y. StopsWith limit ds f old new y)
    (λ y s. stops_behind_with c.stretches_join.ensures limit limit ds es f x old mid new y (omega arith)
    c.loop-run.invariant.gone c.loop-run.invariant.kept s)
    c.print_stretch-2.ensures.err
