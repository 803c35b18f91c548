use Rattle.std.proofs.Common.{rules, arith, ◌≡◌, ◌<◌, ◌+◌, length, map, sym}
use Rattle.std.proofs.lemmas.Result.{err_from_is_err_and}
use Rattle.of_devices.specs.Racks.{Meant}
use Rattle.of_monitor.specs.Turns.{Attended}
use Rattle.of_compile.specs.Coding.{Coding}
use Rattle.of_commands.proofs.Sessions.{begins, ends, entered_as, goes_on}
use Rattle.of_commands.proofs.Stopped.{endless, unanswered, unawaited, unended}
use Rattle.of_commands.proofs.consoles.session.Goals as goal

pub loop-init : goal.loop-init
loop-init g c =
    let f : _ → Meant = λ d. (goal.Device-dyn g (d.vtable, d.value)).meant d.value in
    record {
      at = begins c.args.limit (g.L.Read.remaining c.args.lines.now) (g.W.Write.contents c.args.out.now)
          (c.args.machine.now, map f c.args.rack.now.items);
      calm = c.requires.calm;
    }

pub loop-preserved : goal.loop-preserved
loop-preserved g c =
    let some : 0 < length c.await_line.new.line.items = search rules in
    let f : _ → Meant = λ d. (goal.Device-dyn g (d.vtable, d.value)).meant d.value in
    let x : Attended Coding = (c.args.machine.now, map f c.args.rack.now.items) in
    let y : Attended Coding = (c.loop.machine, map f c.loop.rack.items) in
    let z : Attended Coding = (c.answer_line.new.machine, map f c.answer_line.new.rack.items) in
    record {
      at =
          goes_on c.args.limit c.loop.counter (c.loop.counter + 1) (g.L.Read.remaining c.args.lines.now)
          (g.L.Read.remaining c.loop.lines)
          (g.L.Read.remaining c.await_line.new.lines) (g.W.Write.contents c.args.out.now)
          (g.W.Write.contents c.loop.out) (g.W.Write.contents c.await_line.new.out)
          (g.W.Write.contents c.answer_line.new.out) c.await_line.new.line.items x y z (omega arith) c.loop.invariant.at
          some c.in_ok-await_line.ensures.read c.in_ok-await_line.ensures.rest c.in_ok-await_line.ensures.prompted
          (entered_as c.args.limit c.await_line.new.line.items c.deref.result.now c.without_end.result.now y z
          c.deref.ensures.value c.without_end.ensures c.in_ok-answer_line.ensures.entered)
          c.in_ok-answer_line.ensures.printed;
      calm = c.in_ok-answer_line.ensures.calm;
    }

pub returns-then-not-branch-clause-ok : goal.returns-then-not-branch-clause-ok
returns-then-not-branch-clause-ok g c =
    let none : length c.await_line.new.line.items ≡ 0 = search rules in
    let f : _ → Meant = λ d. (goal.Device-dyn g (d.vtable, d.value)).meant d.value in
    let x : Attended Coding = (c.args.machine.now, map f c.args.rack.now.items) in
    let y : Attended Coding = (c.loop.machine, map f c.loop.rack.items) in
    ends c.args.limit c.loop.counter (g.L.Read.remaining c.args.lines.now) (g.L.Read.remaining c.loop.lines)
    (g.W.Write.contents c.args.out.now) (g.W.Write.contents c.loop.out) (g.W.Write.contents c.await_line.new.out)
    (g.W.Write.contents c.write_whole.new.out) c.await_line.new.line.items x y c.loop.invariant.at none
    c.in_ok-await_line.ensures.read c.in_ok-await_line.ensures.prompted c.in_ok-write_whole.ensures.ok

pub returns-in_err-await_line-clause-err : goal.returns-in_err-await_line-clause-err
returns-in_err-await_line-clause-err g c =
    let f : _ → Meant = λ d. (goal.Device-dyn g (d.vtable, d.value)).meant d.value in
    let x : Attended Coding = (c.args.machine.now, map f c.args.rack.now.items) in
    let y : Attended Coding = (c.loop.machine, map f c.loop.rack.items) in
    let error = c.in_err-await_line.field-0.0 in
    let p = err_from_is_err_and c.from_residual.result c.from_residual.ensures.1 in
    let same : error ≡ p.0 = search rules in
    rw (p.1, sym same)
    (unawaited c.args.limit c.loop.counter (g.L.Read.remaining c.args.lines.now) (g.L.Read.remaining c.loop.lines)
    (g.W.Write.contents c.args.out.now) (g.W.Write.contents c.loop.out) (g.W.Write.contents c.await_line.new.out)
    error x y c.loop.invariant.at c.in_err-await_line.ensures.err)

pub returns-in_err-write_whole-clause-err : goal.returns-in_err-write_whole-clause-err
returns-in_err-write_whole-clause-err g c =
    let none : length c.await_line.new.line.items ≡ 0 = search rules in
    let f : _ → Meant = λ d. (goal.Device-dyn g (d.vtable, d.value)).meant d.value in
    let x : Attended Coding = (c.args.machine.now, map f c.args.rack.now.items) in
    let y : Attended Coding = (c.loop.machine, map f c.loop.rack.items) in
    let error = c.in_err-write_whole.field-0.0 in
    let p = err_from_is_err_and c.from_residual-in_err-write_whole.result
    c.from_residual-in_err-write_whole.ensures.1 in
    let same : error ≡ p.0 = search rules in
    rw (p.1, sym same)
    (unended c.args.limit c.loop.counter (g.L.Read.remaining c.args.lines.now) (g.L.Read.remaining c.loop.lines)
    (g.W.Write.contents c.args.out.now) (g.W.Write.contents c.loop.out) (g.W.Write.contents c.await_line.new.out)
    (g.W.Write.contents c.write_whole.new.out) c.await_line.new.line.items error x y c.loop.invariant.at none
    c.in_ok-await_line.ensures.read c.in_ok-await_line.ensures.prompted c.in_err-write_whole.ensures.err
    c.in_err-write_whole.ensures.fault)

pub returns-in_err-answer_line-clause-err : goal.returns-in_err-answer_line-clause-err
returns-in_err-answer_line-clause-err g c =
    let some : 0 < length c.await_line.new.line.items = search rules in
    let f : _ → Meant = λ d. (goal.Device-dyn g (d.vtable, d.value)).meant d.value in
    let x : Attended Coding = (c.args.machine.now, map f c.args.rack.now.items) in
    let y : Attended Coding = (c.loop.machine, map f c.loop.rack.items) in
    let z : Attended Coding = (c.answer_line.new.machine, map f c.answer_line.new.rack.items) in
    let error = c.in_err-answer_line.field-0.0 in
    let p = err_from_is_err_and c.from_residual-in_err-answer_line.result
    c.from_residual-in_err-answer_line.ensures.1 in
    let same : error ≡ p.0 = search rules in
    rw (p.1, sym same)
    (unanswered c.args.limit c.loop.counter (g.L.Read.remaining c.args.lines.now) (g.L.Read.remaining c.loop.lines)
    (g.W.Write.contents c.args.out.now) (g.W.Write.contents c.loop.out) (g.W.Write.contents c.await_line.new.out)
    (g.W.Write.contents c.answer_line.new.out) c.await_line.new.line.items c.deref.result.now
    c.without_end.result.now error x y z c.loop.invariant.at some c.in_ok-await_line.ensures.read
    c.in_ok-await_line.ensures.prompted c.deref.ensures.value c.without_end.ensures
    c.in_err-answer_line.ensures.err)

pub returns-clause-err : goal.returns-clause-err
returns-clause-err g c =
    let f : _ → Meant = λ d. (goal.Device-dyn g (d.vtable, d.value)).meant d.value in
    let x : Attended Coding = (c.args.machine.now, map f c.args.rack.now.items) in
    let y : Attended Coding = (c.loop.machine, map f c.loop.rack.items) in
    endless c.args.limit c.loop.counter (g.L.Read.remaining c.args.lines.now) (g.L.Read.remaining c.loop.lines)
    (g.W.Write.contents c.args.out.now) (g.W.Write.contents c.loop.out) x y (omega (arith, c.loop-test.false))
    c.loop.invariant.at
