use Rattle.std.proofs.Common.{length, not, sym, ap, ◌∙◌}
use Rattle.of_stream.specs.Decoding.{token_shown}
use Rattle.of_check.specs.Tokens.{tokens_from}
use Rattle.of_check.proofs.Judging.{judged_broken, judged_cut, judged_end, judged_more, judged_none, judged_whole}
use Rattle.of_check.proofs.definition.is_unnested.Goals as goal

pub returns-in-Err : goal.returns-in-Err
returns-in-Err c =
    let image = c.args.stream.image.now in
    sym (judged_cut c.loop.control image (length image) c.loop.counter c.loop.position c.loop.size c.loop-test.true
    c.in-Err.ensures.err.0)
    ∙ c.loop.invariant
    ∙ judged_whole c.closed_is_read.ensures (tokens_from image (length image) c.args.position c.args.size).tokens

pub returns-then-is_semicolon : goal.returns-then-is_semicolon
returns-then-is_semicolon c =
    let image = c.args.stream.image.now in
    ap not c.is_closed.ensures
    ∙ sym (judged_end c.loop.control image (length image) c.loop.counter c.loop.position c.loop.size
    (token_shown c.in-Ok.read.0, c.in-Ok.read.1) c.loop-test.true c.in-Ok.ensures.ok
    (sym c.is_semicolon.ensures ∙ c.if-is_semicolon.true))
    ∙ c.loop.invariant
    ∙ judged_whole c.closed_is_read.ensures (tokens_from image (length image) c.args.position c.args.size).tokens

pub returns-then-breaks_off : goal.returns-then-breaks_off
returns-then-breaks_off c =
    let image = c.args.stream.image.now in
    sym (judged_broken c.loop.control image (length image) c.loop.counter c.loop.position c.loop.size
    (token_shown c.in-Ok.read.0, c.in-Ok.read.1) c.loop-test.true c.in-Ok.ensures.ok
    (sym c.is_semicolon.ensures ∙ c.if-is_semicolon.false) (sym c.breaks_off.ensures ∙ c.if-breaks_off.true))
    ∙ c.loop.invariant
    ∙ judged_whole c.closed_is_read.ensures (tokens_from image (length image) c.args.position c.args.size).tokens

pub loop-preserved : goal.loop-preserved
loop-preserved c =
    let image = c.args.stream.image.now in
    rw (c.size_behind-size.ensures, c.note.ensures) (
    sym (judged_more c.loop.control image (length image) c.loop.counter c.loop.position c.loop.size
    (token_shown c.in-Ok.read.0, c.in-Ok.read.1) c.loop-test.true c.in-Ok.ensures.ok
    (sym c.is_semicolon.ensures ∙ c.if-is_semicolon.false) (sym c.breaks_off.ensures ∙ c.if-breaks_off.false))
    ∙ c.loop.invariant
    )

pub returns : goal.returns
returns c =
    let image = c.args.stream.image.now in
    sym (judged_none c.loop.control image (length image) c.loop.counter c.loop.position c.loop.size c.loop-test.false)
    ∙ c.loop.invariant
    ∙ judged_whole c.closed_is_read.ensures (tokens_from image (length image) c.args.position c.args.size).tokens
