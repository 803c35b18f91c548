use Rattle.of_detok.proofs.Loops.{spaces_more}
use Rattle.of_detok.proofs.labels.write_spaces.Goals as goal

pub loop-preserved : goal.loop-preserved
loop-preserved c =
    rw (c.in_ok-extend_from_slice.ensures.items, c.loop.invariant) (
    spaces_more c.args.out.now.items c.loop.counter
    )
