use Rattle.std.proofs.Common.{◌+◌, ◌-◌, ◌/◌, ◌^◌, arith}
use Rattle.of_memory.specs.declared.blocks.Block.{Block}
use Rattle.of_memory.proofs.Begun.{begun_beyond, begun_count, begun_within}
use Rattle.of_memory.proofs.blocks.begun_before.Goals as goal

pub loop-low-init : goal.loop-low-init
loop-low-init c = record {
  from = omega arith;
  to = begun_count c.args.addr c.args.blocks.now;
  within = omega arith;
}

pub loop-low-preserved-then-blocks-middle : goal.loop-low-preserved-then-blocks-middle
loop-low-preserved-then-blocks-middle c =
    let d : Block = record { at = 0; size = 0 } in
    let i = c.loop-low.low + (c.loop-low.high - c.loop-low.low) / 2 in
    let inv = c.loop-low.invariant in
    record {
      from = begun_beyond 0 (2 ^ 32) c.args.blocks.now c.args.addr i d c.requires (omega arith) c.if-blocks-middle.true;
      to = inv.to;
      within = inv.within;
    }

pub loop-low-preserved : goal.loop-low-preserved
loop-low-preserved c =
    let d : Block = record { at = 0; size = 0 } in
    let i = c.loop-low.low + (c.loop-low.high - c.loop-low.low) / 2 in
    let inv = c.loop-low.invariant in
    record {
      from = inv.from;
      to = begun_within 0 (2 ^ 32) c.args.blocks.now c.args.addr i d c.requires (omega arith) c.if-blocks-middle.false;
      within = omega arith;
    }
