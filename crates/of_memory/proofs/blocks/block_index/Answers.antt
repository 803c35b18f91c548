use Rattle.std.proofs.Common.{◌≡◌, ◌<◌, ◌^◌, false, length, get_or, sym, arith}
use Rattle.of_memory.specs.Blocks.{is_block}
use Rattle.of_memory.specs.BlockSearch.{begun}
use Rattle.of_memory.specs.declared.blocks.Block.{Block}
use Rattle.of_memory.proofs.Begun.{found_nowhere, found_there, is_at, not_at, not_long}
use Rattle.of_memory.proofs.blocks.block_index.Goals as goal
use Rattle.of_memory.proofs.blocks.block_index.Goals.{else-i-blocks-via-then-i-blocks+then-blocks-i+else-blocks-i-2}
use Rattle.of_memory.proofs.blocks.block_index.Goals.{else-i-blocks-via-then-i-blocks+else-blocks-i}
use Rattle.of_memory.proofs.blocks.block_index.Goals.{else-i-blocks-via-else-i-blocks}

pub returns-then-blocks-i-2-clause-value : goal.returns-then-blocks-i-2-clause-value
returns-then-blocks-i-2-clause-value c =
    let bs = c.args.blocks.now in
    let d : Block = record { at = 0; size = 0 } in
    let i = c.begun_before-i.result in
    let here = is_at (get_or bs i d) c.args.addr c.args.size c.if-blocks-i.true c.if-blocks-i-2.true in
    let is = c.begun_before-i.ensures in
    rw is (sym (found_there 0 (2 ^ 32) bs c.args.addr c.args.size d c.requires (rw is at c.if-i-blocks.true)
    (rw is at here)))

pub returns-clause-value : goal.returns-clause-value
returns-clause-value c =
    let bs = c.args.blocks.now in
    let a = c.args.addr in
    let s = c.args.size in
    let d : Block = record { at = 0; size = 0 } in
    let is = c.begun_before-i.ensures in
    let b = get_or bs (begun a bs) d in
    let other : begun a bs < length bs → is_block a s b ≡ false =
    elim c.else-i-blocks.branch [
      | else-i-blocks-via-then-i-blocks+then-blocks-i+else-blocks-i-2 w ↦
          λ _. not_long b a s (rw is at w.if-blocks-i-2.false)
      | else-i-blocks-via-then-i-blocks+else-blocks-i w ↦ λ _. not_at b a s (rw is at w.if-blocks-i.false)
      | else-i-blocks-via-else-i-blocks w ↦ λ l. absurd (omega (arith, l, is, w.if-i-blocks.false))
    ] in
    sym (found_nowhere 0 (2 ^ 32) bs a s d c.requires other)
