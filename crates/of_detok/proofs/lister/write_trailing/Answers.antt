use Rattle.std.proofs.Common.{◌∙◌}
use Rattle.of_detok.proofs.Loops.{trailing_more}
use Rattle.of_detok.proofs.lister.write_trailing.Goals as goal

pub loop-k-preserved : goal.loop-k-preserved
loop-k-preserved c =
    rw (c.in_ok-write_trailing_line.ensures, c.bytes_from.ensures) (
    trailing_more c.loop-k.out.items c.args.image.now _ c.loop-k.k c.args.position c.loop-k-test.true
    ∙ c.loop-k.invariant
    )
