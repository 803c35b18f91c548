use Rattle.std.proofs.Common.{sym, ◌∙◌}
use Rattle.of_detok.proofs.Loops.{shown_more, shown_end}
use Rattle.of_detok.proofs.labels.write_shown.Goals as goal

pub loop-byte-preserved : goal.loop-byte-preserved
loop-byte-preserved c =
    rw (c.in_ok-push.ensures.items, c.shown.ensures) (
    shown_more c.loop-byte.out.items c.args.text.now c.loop-byte.byte-index 0 c.loop-byte-test.true
    ∙ c.loop-byte.invariant
    )

pub returns : goal.returns
returns c =
    sym (shown_end c.loop-byte.out.items c.args.text.now c.loop-byte.byte-index c.loop-byte-test.false)
    ∙ c.loop-byte.invariant
