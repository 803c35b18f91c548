use Rattle.std.proofs.Common.{rules, arith, ◌≡◌, ◌≢◌, ◌∙◌, ◌<◌, ◌+◌, codes, length, sym}
use Rattle.std.proofs.lemmas.Result.{err_from_is_err_and}
use Rattle.of_commands.proofs.Prompted.{ends, goes_on, quits, some_line}
use Rattle.of_commands.proofs.Unled.{endless, unawaited, undone, unended}
use Rattle.of_commands.proofs.prompts.follow.Goals as goal

pub loop-preserved : goal.loop-preserved
loop-preserved g c =
    let some : 0 < length c.await_command.new.line.items =
    some_line (length c.await_command.new.line.items)
    (sym c.if-not-branch.false ∙ c.in_ok-await_command.ensures.some) in
    let other : c.without_end-said.result.now ≢ codes "quit" = λ quit. search rules in
    goes_on c.loop.counter (c.loop.counter + 1) (g.L.Read.remaining c.args.lines.now) (g.L.Read.remaining c.loop.lines)
    (g.L.Read.remaining c.await_command.new.lines) (g.W.Write.contents c.args.out.now) (g.W.Write.contents c.loop.out)
    (g.W.Write.contents c.await_command.new.out) (g.W.Write.contents c.obey.new.out) c.await_command.new.line.items
    c.deref.result.now c.without_end-said.result.now c.args.debugger.now c.loop.debugger c.obey.new.debugger
    (omega arith) c.loop.invariant some c.in_ok-await_command.ensures.read c.in_ok-await_command.ensures.rest
    c.in_ok-await_command.ensures.prompted c.deref.ensures.value c.without_end-said.ensures other
    c.in_ok-obey.ensures.ok

pub returns-then-not-branch-clause-ok : goal.returns-then-not-branch-clause-ok
returns-then-not-branch-clause-ok g c =
    let none : length c.await_command.new.line.items ≡ 0 = search rules in
    ends c.loop.counter (g.L.Read.remaining c.args.lines.now) (g.L.Read.remaining c.loop.lines)
    (g.W.Write.contents c.args.out.now)
    (g.W.Write.contents c.loop.out) (g.W.Write.contents c.await_command.new.out)
    (g.W.Write.contents c.write_whole.new.out) c.await_command.new.line.items c.args.debugger.now c.loop.debugger
    c.loop.invariant none c.in_ok-await_command.ensures.read c.in_ok-await_command.ensures.prompted
    c.in_ok-write_whole.ensures.ok

pub returns-then-eq-clause-ok : goal.returns-then-eq-clause-ok
returns-then-eq-clause-ok g c =
    let quit : c.without_end-said.result.now ≡ codes "quit" = search rules in
    quits c.loop.counter (g.L.Read.remaining c.args.lines.now) (g.L.Read.remaining c.loop.lines)
    (g.W.Write.contents c.args.out.now)
    (g.W.Write.contents c.loop.out) (g.W.Write.contents c.await_command.new.out) c.await_command.new.line.items
    c.deref.result.now c.without_end-said.result.now c.args.debugger.now c.loop.debugger c.loop.invariant
    c.in_ok-await_command.ensures.read c.in_ok-await_command.ensures.prompted c.deref.ensures.value
    c.without_end-said.ensures quit

pub returns-in_err-await_command-clause-err : goal.returns-in_err-await_command-clause-err
returns-in_err-await_command-clause-err g c =
    let error = c.in_err-await_command.field-0.0 in
    let p = err_from_is_err_and c.from_residual.result c.from_residual.ensures.1 in
    let same : error ≡ p.0 = search rules in
    rw (p.1, sym same)
    (unawaited c.loop.counter (g.L.Read.remaining c.args.lines.now) (g.L.Read.remaining c.loop.lines)
    (g.W.Write.contents c.args.out.now) (g.W.Write.contents c.loop.out) (g.W.Write.contents c.await_command.new.out)
    error c.args.debugger.now c.loop.debugger c.loop.invariant c.in_err-await_command.ensures.err)

pub returns-in_err-write_whole-clause-err : goal.returns-in_err-write_whole-clause-err
returns-in_err-write_whole-clause-err g c =
    let none : length c.await_command.new.line.items ≡ 0 = search rules in
    let error = c.in_err-write_whole.field-0.0 in
    let p = err_from_is_err_and c.from_residual-in_err-write_whole.result
    c.from_residual-in_err-write_whole.ensures.1 in
    let same : error ≡ p.0 = search rules in
    rw (p.1, sym same)
    (unended c.loop.counter (g.L.Read.remaining c.args.lines.now) (g.L.Read.remaining c.loop.lines)
    (g.W.Write.contents c.args.out.now) (g.W.Write.contents c.loop.out) (g.W.Write.contents c.await_command.new.out)
    (g.W.Write.contents c.write_whole.new.out) c.await_command.new.line.items error c.args.debugger.now
    c.loop.debugger c.loop.invariant none c.in_ok-await_command.ensures.read c.in_ok-await_command.ensures.prompted
    c.in_err-write_whole.ensures.err c.in_err-write_whole.ensures.fault)

pub returns-in_err-obey-clause-err : goal.returns-in_err-obey-clause-err
returns-in_err-obey-clause-err g c =
    let some : 0 < length c.await_command.new.line.items =
    some_line (length c.await_command.new.line.items)
    (sym c.if-not-branch.false ∙ c.in_ok-await_command.ensures.some) in
    let other : c.without_end-said.result.now ≢ codes "quit" = λ quit. search rules in
    let error = c.in_err-obey.field-0.0 in
    let p = err_from_is_err_and c.from_residual-in_err-obey.result c.from_residual-in_err-obey.ensures.1 in
    let same : error ≡ p.0 = search rules in
    rw (p.1, sym same)
    (undone c.loop.counter (g.L.Read.remaining c.args.lines.now) (g.L.Read.remaining c.loop.lines)
    (g.W.Write.contents c.args.out.now) (g.W.Write.contents c.loop.out) (g.W.Write.contents c.await_command.new.out)
    (g.W.Write.contents c.obey.new.out) c.await_command.new.line.items c.deref.result.now
    c.without_end-said.result.now error c.args.debugger.now c.loop.debugger c.obey.new.debugger c.loop.invariant some
    c.in_ok-await_command.ensures.read c.in_ok-await_command.ensures.prompted c.deref.ensures.value
    c.without_end-said.ensures other c.in_err-obey.ensures.err)

pub returns-clause-err : goal.returns-clause-err
returns-clause-err g c =
    endless c.loop.counter (g.L.Read.remaining c.args.lines.now) (g.L.Read.remaining c.loop.lines)
    (g.W.Write.contents c.args.out.now) (g.W.Write.contents c.loop.out) c.args.debugger.now c.loop.debugger
    (omega (arith, c.loop-test.false)) c.loop.invariant
