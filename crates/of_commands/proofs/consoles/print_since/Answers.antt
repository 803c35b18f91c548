use Rattle.std.proofs.Common.{rules, ◌≡◌, [], ◌∷◌, ◌++◌, false, subst}
use Rattle.of_files.specs.Messages.{AppendsPart}
use Rattle.of_commands.specs.Listings.{ends_line, newline_behind}
use Rattle.of_commands.proofs.Parts.{line_part, on_err, part_before, so_err}
use Rattle.of_commands.proofs.consoles.print_since.Goals as goal

pub returns-in_err-write_whole-clause-err : goal.returns-in_err-write_whole-clause-err
returns-in_err-write_whole-clause-err g c =
    let old = g.W.Write.contents c.args.out.now in
    let new = g.W.Write.contents c.write_whole.new.out in
    let text = c.text_since-text.result.now in
    on_err c.from_residual.result
    (subst (λ t. AppendsPart old new (t ++ newline_behind t)) c.text_since-text.ensures
    (part_before old new text (newline_behind text) c.in_err-write_whole.ensures.err))

pub returns-clause-err : goal.returns-clause-err
returns-clause-err g c =
    let old = g.W.Write.contents c.args.out.now in
    let mid = g.W.Write.contents c.write_whole.new.out in
    let new = g.W.Write.contents c.write_whole-2.new.out in
    let text = c.text_since-text.result.now in
    let unclosed : ends_line text ≡ false = search rules in
    so_err c.write_whole-2.result
    (λ (part : AppendsPart mid new (10 ∷ [])).
    subst (λ t. AppendsPart old new (t ++ newline_behind t)) c.text_since-text.ensures
    (line_part old mid new text unclosed c.in_ok-write_whole.ensures.ok part))
    c.write_whole-2.ensures.err
