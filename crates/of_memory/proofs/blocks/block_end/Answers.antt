use Rattle.std.proofs.Common.{◌≡◌, find, drop, None, refl, sym, ◌∙◌}
use Rattle.of_memory.specs.Regions.{heap_start, heap_limit}
use Rattle.of_memory.specs.Blocks.{holds}
use Rattle.of_memory.specs.declared.blocks.Block.{Block}
use Rattle.of_memory.proofs.Reach.{laid_drop, find_below}
use Rattle.of_memory.proofs.blocks.block_end.Goals as goal

pub returns-then-addr-b : goal.returns-then-addr-b
returns-then-addr-b c =
    let bs = c.args.blocks.now in
    let i = c.loop-i.i in
    let d : Block = record { at = 0; size = 0 } in
    let laid = laid_drop heap_start heap_limit bs i d c.requires c.loop-i-test.true in
    let none : find (holds c.args.addr) bs ≡ None =
    sym c.loop-i.invariant ∙ find_below _ heap_limit (drop i bs) c.args.addr laid c.if-addr-b.true in
    rw none refl
