use Rattle.std.proofs.Common.{length, ◌∙◌}
use Rattle.of_source.proofs.Whole.{words_refused_by, words_more_by, words_end_by, all_refused}
use Rattle.of_source.proofs.source.words.Goals as goal

pub returns-in-Err-clause-err : goal.returns-in-Err-clause-err
returns-in-Err-clause-err c =
    rw (← c.loop.invariant) (
    words_refused_by c.args.text.now c.args.size
    (length c.args.text.now) c.loop.counter c.last_place-last.result c.loop.parser c.next.new.self c.in-Err.fault
    c.loop-test.true
    c.last_place-last.ensures c.in-Err.ensures)

pub loop-preserved : goal.loop-preserved
loop-preserved c =
    words_more_by c.args.text.now c.args.size (length c.args.text.now) c.loop.counter
    c.last_place-last.result c.loop.parser c.next.new.self _ c.loop-test.true
    c.last_place-last.ensures c.in-Ok-true.field-0-test c.in-Ok-true.ensures
    ∙ c.loop.invariant

pub returns-in-Ok-false-clause-ok : goal.returns-in-Ok-false-clause-ok
returns-in-Ok-false-clause-ok c =
    rw (
      ← c.loop.invariant,
      ← words_end_by c.args.text.now c.args.size (length c.args.text.now) c.loop.counter
          c.last_place-last.result c.loop.parser c.next.new.self _ c.loop-test.true
          c.last_place-last.ensures c.in-Ok-false.field-0-test c.in-Ok-false.ensures,
    ) c.trailed.ensures.ok

pub returns-in-Ok-false-clause-err : goal.returns-in-Ok-false-clause-err
returns-in-Ok-false-clause-err c =
    rw (
      ← c.loop.invariant,
      ← words_end_by c.args.text.now c.args.size (length c.args.text.now) c.loop.counter
          c.last_place-last.result c.loop.parser c.next.new.self _ c.loop-test.true
          c.last_place-last.ensures c.in-Ok-false.field-0-test c.in-Ok-false.ensures,
    ) (all_refused _ _ c.trailed.ensures.err)
