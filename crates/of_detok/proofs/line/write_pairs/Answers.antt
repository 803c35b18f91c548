use Rattle.std.proofs.Common.{sym, ◌∙◌}
use Rattle.of_detok.proofs.Loops.{pairs_more, pairs_end}
use Rattle.of_detok.proofs.line.write_pairs.Goals as goal

pub loop-byte-preserved : goal.loop-byte-preserved
loop-byte-preserved c =
    rw (c.in_ok-push-2.ensures.items, c.in_ok-push.ensures.items, c.digit.ensures, c.digit-in-loop-byte.ensures) (
    pairs_more c.loop-byte.out.items c.args.bytes.now c.loop-byte.byte-index 0 c.loop-byte-test.true
    ∙ c.loop-byte.invariant
    )

pub returns : goal.returns
returns c = sym (pairs_end c.loop-byte.out.items c.args.bytes.now c.loop-byte.byte-index c.loop-byte-test.false)
    ∙ c.loop-byte.invariant
