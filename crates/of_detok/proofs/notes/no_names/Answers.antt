use Rattle.of_detok.proofs.Loops.{no_names}
use Rattle.of_detok.proofs.notes.no_names.Goals as goal

pub returns : goal.returns
returns c =
    rw c.if-not-are_said.false (
    no_names 4096 _ _ _ c.new-names.ensures.items c.new-names.ensures.len c.in_ok-resize.ensures.items
    )
