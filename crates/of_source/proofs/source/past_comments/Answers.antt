use Rattle.std.proofs.Common.{sym, ◌∙◌}
use Rattle.of_source.proofs.Whole.{comment_more, line_more}
use Rattle.of_source.proofs.source.past_comments.Goals as goal

pub loop-preserved-then-is_same_name : goal.loop-preserved-then-is_same_name
loop-preserved-then-is_same_name c =
    comment_more c.args.most c.loop.counter c.loop.rest c.word.new.self c.skip_comment.new.self c.in-Some.word.bytes.now
    c.loop-test.true c.in-Some.ensures.some
    (sym c.is_same_name.ensures ∙ c.if-is_same_name.true) c.if-not-skip_comment.ensures.past
    ∙ c.loop.invariant

pub loop-preserved : goal.loop-preserved
loop-preserved c =
    rw c.skip_line.ensures (
    line_more c.args.most c.loop.counter c.loop.rest c.word.new.self c.in-Some.word.bytes.now c.loop-test.true
    c.in-Some.ensures.some
    (sym c.is_same_name.ensures ∙ c.if-is_same_name.false) (sym c.is_same_name-in-loop.ensures
    ∙ c.if-is_same_name-2.true)
    ∙ c.loop.invariant)
