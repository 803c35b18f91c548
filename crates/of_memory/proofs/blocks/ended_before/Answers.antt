use Rattle.std.proofs.Common.{◌+◌, ◌-◌, ◌/◌, arith}
use Rattle.of_memory.specs.Regions.{heap_start, heap_limit}
use Rattle.of_memory.specs.declared.blocks.Block.{Block}
use Rattle.of_memory.proofs.Reach.{reach_drop, find_drop}
use Rattle.of_memory.proofs.blocks.ended_before.Goals as goal

pub loop-low-preserved-then-addr-b : goal.loop-low-preserved-then-addr-b
loop-low-preserved-then-addr-b c =
    let bs = c.args.blocks.now in
    let d : Block = record { at = 0; size = 0 } in
    let i = c.loop-low.low + (c.loop-low.high - c.loop-low.low) / 2 in
    record {
      order = omega arith;
      within = omega arith;
      reach = reach_drop heap_start heap_limit bs i c.args.addr d c.requires (omega arith) (omega arith);
      holder = find_drop heap_start heap_limit bs i c.args.addr d c.requires (omega arith) (omega arith);
    }
