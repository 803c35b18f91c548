use Rattle.std.proofs.Common.{rules, ◌≡◌, ◌++◌, map, sym}
use Rattle.std.proofs.lemmas.Result.{IfErr-weaker, err_from_is_err_and, on_ok_weaker}
use Rattle.std.specs.Io.KnownBytes.{Appends}
use Rattle.of_calls.specs.Scripts.{command_of}
use Rattle.of_files.specs.Messages.{AppendsPart}
use Rattle.of_commands.specs.Consoles.{printed_since}
use Rattle.of_commands.specs.Prompts.{wrong_text}
use Rattle.of_commands.proofs.Prompted.{carried, printed_between}
use Rattle.of_commands.proofs.Unled.{uncarried, unsaid_behind, unsaid_text}
use Rattle.of_commands.proofs.prompts.carry_out.Goals as goal

pub returns-in_err-print_since-clause-err : goal.returns-in_err-print_since-clause-err
returns-in_err-print_since-clause-err g c =
    let old = c.args.debugger.now in
    let new = c.play-played.new.debugger in
    let wrong = c.play-played.result.wrong in
    let text = c.play-played.result.text.items in
    let a = g.W.Write.contents c.args.out.now in
    let b = g.W.Write.contents c.print_since.new.out in
    let part : AppendsPart a b (printed_since old.feed.machine new.feed.machine) =
    printed_between (AppendsPart a b) old.feed.machine new.feed.machine c.shown.result.1.now c.shown-2.result.1.now
    c.console-before.result.now c.shown.ensures.machine c.console-before.ensures c.shown-2.ensures.machine
    c.in_err-print_since.ensures.err in
    let error = c.in_err-print_since.field-0.0 in
    let p = err_from_is_err_and c.from_residual.result c.from_residual.ensures.1 in
    let same : error ≡ p.0 = search rules in
    rw (p.1, sym same)
    (uncarried (map command_of c.args.commands.now) old new text wrong a b error c.play-played.ensures
    (unsaid_text (printed_since old.feed.machine new.feed.machine) (text ++ wrong_text wrong) wrong a b error part
    c.in_err-print_since.ensures.fault))

pub returns-clause-ok : goal.returns-clause-ok
returns-clause-ok g c =
    let old = c.args.debugger.now in
    let new = c.play-played.new.debugger in
    let wrong = c.play-played.result.wrong in
    let text = c.play-played.result.text.items in
    let a = g.W.Write.contents c.args.out.now in
    let b = g.W.Write.contents c.print_since.new.out in
    let d = g.W.Write.contents c.say_played.new.out in
    let first : Appends a b (printed_since old.feed.machine new.feed.machine) =
    printed_between (Appends a b) old.feed.machine new.feed.machine c.shown.result.1.now c.shown-2.result.1.now
    c.console-before.result.now c.shown.ensures.machine c.console-before.ensures c.shown-2.ensures.machine
    c.in_ok-print_since.ensures.ok in
    on_ok_weaker c.say_played.result
    (carried (map command_of c.args.commands.now) old new text wrong a b d c.play-played.ensures first)
    c.say_played.ensures.ok

pub returns-clause-err : goal.returns-clause-err
returns-clause-err g c =
    let old = c.args.debugger.now in
    let new = c.play-played.new.debugger in
    let wrong = c.play-played.result.wrong in
    let text = c.play-played.result.text.items in
    let console = printed_since old.feed.machine new.feed.machine in
    let a = g.W.Write.contents c.args.out.now in
    let b = g.W.Write.contents c.print_since.new.out in
    let d = g.W.Write.contents c.say_played.new.out in
    let first : Appends a b console =
    printed_between (Appends a b) old.feed.machine new.feed.machine c.shown.result.1.now c.shown-2.result.1.now
    c.console-before.result.now c.shown.ensures.machine c.console-before.ensures c.shown-2.ensures.machine
    c.in_ok-print_since.ensures.ok in
    IfErr-weaker c.say_played.result _ _
    (λ f h. uncarried (map command_of c.args.commands.now) old new text wrong a d f c.play-played.ensures
    (unsaid_behind console (text ++ wrong_text wrong) wrong a b d f first h))
    c.say_played.ensures.err
