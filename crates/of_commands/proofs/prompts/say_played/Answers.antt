use Rattle.std.proofs.Common.{rules, ◌≡◌, ◌∙◌, subst, sym}
use Rattle.std.proofs.lemmas.Result.{err_from_is_err_and}
use Rattle.std.specs.Io.KnownBytes.{Appends}
use Rattle.of_files.specs.Messages.{AppendsPart}
use Rattle.of_commands.specs.Prompts.{wrong_text}
use Rattle.of_commands.proofs.Unled.{unsaid_text, unsaid_wrong}
use Rattle.of_commands.proofs.prompts.say_played.Goals as goal

pub returns-in_err-write_whole-clause-err : goal.returns-in_err-write_whole-clause-err
returns-in_err-write_whole-clause-err g c =
    let old = g.W.Write.contents c.args.out.now in
    let new = g.W.Write.contents c.write_whole.new.out in
    let played = c.args.played.now in
    let part = subst (AppendsPart old new) c.deref.ensures.value c.in_err-write_whole.ensures.err in
    let error = c.in_err-write_whole.field-0.0 in
    let p = err_from_is_err_and c.from_residual.result c.from_residual.ensures.1 in
    let same : error ≡ p.0 = search rules in
    rw (p.1, sym same)
    (unsaid_text played.text.items (wrong_text played.wrong) played.wrong old new error part
    c.in_err-write_whole.ensures.fault)

pub returns-in_err-write_whole-2-clause-err : goal.returns-in_err-write_whole-2-clause-err
returns-in_err-write_whole-2-clause-err g c =
    let old = g.W.Write.contents c.args.out.now in
    let mid = g.W.Write.contents c.write_whole.new.out in
    let new = g.W.Write.contents c.write_whole-2.new.out in
    let played = c.args.played.now in
    let first = subst (Appends old mid) c.deref.ensures.value c.in_ok-write_whole.ensures.ok in
    let part : AppendsPart mid new (wrong_text played.wrong) =
    subst (AppendsPart mid new) (c.as_bytes.ensures.value ∙ c.wrong_text.ensures) c.in_err-write_whole-2.ensures.err in
    let error = c.in_err-write_whole-2.field-0.0 in
    let p = err_from_is_err_and c.from_residual-in_err-write_whole-2.result
    c.from_residual-in_err-write_whole-2.ensures.1 in
    let same : error ≡ p.0 = search rules in
    rw (p.1, sym same)
    (unsaid_wrong played.text.items (wrong_text played.wrong) played.wrong old mid new error first part
    c.in_err-write_whole-2.ensures.fault)
