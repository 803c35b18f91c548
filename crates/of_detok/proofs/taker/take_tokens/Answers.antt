use Rattle.std.proofs.Common.{length, sym, ◌∙◌}
use Rattle.of_stream.specs.Decoding.{token_shown}
use Rattle.of_detok.proofs.Taking.{taken_cut, taken_end, taken_more}
use Rattle.of_detok.proofs.taker.take_tokens.Goals as goal

pub returns-in-Err : goal.returns-in-Err
returns-in-Err c =
    let image = c.args.stream.image.now in
    rw c.in-Err.ensures.err.1 (
    sym (taken_cut c.loop.out.items image (length image) c.loop.counter c.loop.is_open c.loop.position c.loop.size
    c.loop-test.true c.in-Err.ensures.err.0)
    ∙ c.loop.invariant
    )

pub returns-then-is_end : goal.returns-then-is_end
returns-then-is_end c =
    let image = c.args.stream.image.now in
    sym (taken_end c.loop.out.items image (length image) c.loop.counter c.loop.is_open c.loop.position c.loop.size
    (token_shown c.in-Ok.read.0, c.in-Ok.read.1)
    c.loop-test.true c.in-Ok.ensures.ok (sym c.is_end.ensures ∙ c.if-is_end.true))
    ∙ c.loop.invariant

pub loop-preserved : goal.loop-preserved
loop-preserved c =
    let image = c.args.stream.image.now in
    rw (
      c.size_behind-size.ensures,
      c.is_open_behind-is_open.ensures,
      c.in_ok-push_taken.ensures,
    ) (
    sym (taken_more c.loop.out.items image (length image) c.loop.counter c.loop.is_open c.loop.position c.loop.size
    (token_shown c.in-Ok.read.0, c.in-Ok.read.1)
    c.loop-test.true c.in-Ok.ensures.ok (sym c.is_end.ensures ∙ c.if-is_end.false))
    ∙ c.loop.invariant
    )
