use Rattle.std.proofs.Common.{◌≡◌, drop}
use Rattle.of_ihandles.specs.Blocks.{given_all}
use Rattle.of_ihandles.proofs.blocks.Blocks.give.Given as goal

abbrev pub invariant-loop-block : goal.invariant-loop-block
invariant-loop-block l =
    given_all l.memory (drop l.block-index l.self) ≡ given_all l.fn.memory l.self
