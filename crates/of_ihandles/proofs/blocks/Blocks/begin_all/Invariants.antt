use Rattle.std.proofs.Common.{◌≡◌, drop}
use Rattle.of_ihandles.specs.Blocks.{all_begun}
use Rattle.of_ihandles.proofs.blocks.Blocks.begin_all.Given as goal

abbrev pub invariant-loop-block : goal.invariant-loop-block
invariant-loop-block l =
    all_begun l.memory (drop l.block-index l.self) l.template
    ≡ all_begun l.fn.memory l.self l.template
