use Rattle.std.proofs.Common.{sym, ◌∙◌}
use Rattle.of_source.proofs.Whole.{parsed_two, parsed_one}
use Rattle.of_source.proofs.source.parts_of.Goals as goal

pub returns-then-is_same_name-clause-ok : goal.returns-then-is_same_name-clause-ok
returns-then-is_same_name-clause-ok c =
    rw (
      parsed_two c.in-Word.word.at c.args.text.now c.in-Word.word.bytes.now c.in-Word.rest
          (rw c.new.ensures at c.in-Word.ensures)
          (sym c.is_same_name.ensures ∙ c.if-is_same_name.true),
      ← c.new-then-is_same_name.ensures,
    ) c.words.ensures.ok

pub returns-then-is_same_name-clause-err : goal.returns-then-is_same_name-clause-err
returns-then-is_same_name-clause-err c =
    rw (
      parsed_two c.in-Word.word.at c.args.text.now c.in-Word.word.bytes.now c.in-Word.rest
          (rw c.new.ensures at c.in-Word.ensures)
          (sym c.is_same_name.ensures ∙ c.if-is_same_name.true),
      ← c.new-then-is_same_name.ensures,
    ) c.words.ensures.err

pub returns-then-is_same_name-2-clause-ok : goal.returns-then-is_same_name-2-clause-ok
returns-then-is_same_name-2-clause-ok c =
    rw (
      parsed_one c.in-Word.word.at c.args.text.now c.in-Word.word.bytes.now c.in-Word.rest
          (rw c.new.ensures at c.in-Word.ensures)
          (sym c.is_same_name.ensures ∙ c.if-is_same_name.false)
          (sym c.is_same_name-in-Word.ensures ∙ c.if-is_same_name-2.true),
      ← c.new-then-is_same_name-2.ensures,
    )
    c.words-then-is_same_name-2.ensures.ok

pub returns-then-is_same_name-2-clause-err : goal.returns-then-is_same_name-2-clause-err
returns-then-is_same_name-2-clause-err c =
    rw (
      parsed_one c.in-Word.word.at c.args.text.now c.in-Word.word.bytes.now c.in-Word.rest
          (rw c.new.ensures at c.in-Word.ensures)
          (sym c.is_same_name.ensures ∙ c.if-is_same_name.false)
          (sym c.is_same_name-in-Word.ensures ∙ c.if-is_same_name-2.true),
      ← c.new-then-is_same_name-2.ensures,
    )
    c.words-then-is_same_name-2.ensures.err
