use Rattle.std.proofs.Common.{◌≡◌, ◌≤◌, ◌+◌, drop, None, add-zero, refl, sym, ◌∙◌, arith}
use Rattle.of_memory.specs.Blocks.{least_free}
use Rattle.of_memory.specs.BlockSearch.{IsGap, first_end}
use Rattle.of_memory.specs.declared.blocks.Block.{Block}
use Rattle.of_memory.proofs.Laid.{laid_at, laid_ordered}
use Rattle.of_memory.proofs.Filled.{end_of, filled_before, filled_count, filled_here, filled_on, gap_behind}
use Rattle.of_memory.proofs.Filled.{laid_behind, none_behind, rest_of}
use Rattle.of_memory.proofs.blocks.first_room.Goals as goal

pub first_end-next-requires-clause-within : goal.first_end-next-requires-clause-within
first_end-next-requires-clause-within c = filled_count c.args.low c.args.blocks.now c.args.filled c.requires.filled

pub first_end-next-requires-clause-fits : goal.first_end-next-requires-clause-fits
first_end-next-requires-clause-fits c =
    let bs = c.args.blocks.now in
    let within = filled_count c.args.low bs c.args.filled c.requires.filled in
    let behind = laid_behind c.args.low c.args.high bs c.args.filled within c.requires.laid in
    let below : first_end c.args.low bs c.args.filled ≤ c.args.high = laid_ordered _ c.args.high _ behind in
    omega (arith, below, c.requires.fits)

pub loop-count-init : goal.loop-count-init
loop-count-init c = record {
  within = filled_count c.args.low c.args.blocks.now c.args.filled c.requires.filled;
  filled = c.requires.filled;
  end = c.first_end-next.ensures;
}

pub overflow_add-next : goal.overflow_add-next
overflow_add-next c =
    let d : Block = record { at = 0; size = 0 } in
    let w = laid_at c.args.low c.args.high c.args.blocks.now c.loop-count.count d c.requires.laid (omega arith) in
    omega (arith, w.high, c.if-blocks-count.true, c.requires.fits)

pub loop-count-preserved : goal.loop-count-preserved
loop-count-preserved c =
    let bs = c.args.blocks.now in
    let d : Block = record { at = 0; size = 0 } in
    let n = c.loop-count.count in
    let at = c.if-blocks-count.true ∙ c.loop-count.invariant.end in
    let on = end_of c.args.low bs n d c.loop-count-test.true in
    record {
      within = omega arith;
      filled = filled_on c.args.low bs n d c.loop-count-test.true at c.loop-count.invariant.filled;
      end = rw (← c.if-blocks-count.true) (sym on);
    }

pub first_gap-requires-clause-laid : goal.first_gap-requires-clause-laid
first_gap-requires-clause-laid c =
    let n = c.loop-count.count in
    let inv = c.loop-count.invariant in
    rw (rest_of c.args.blocks.now n, inv.end)
    (laid_behind c.args.low c.args.high c.args.blocks.now n inv.within c.requires.laid)

pub returns-in_err-gap-clause-none : goal.returns-in_err-gap-clause-none
returns-in_err-gap-clause-none c _ =
    let bs = c.args.blocks.now in
    let n = c.loop-count.count in
    let inv = c.loop-count.invariant in
    let none : least_free (first_end c.args.low bs n) c.args.high (drop n bs) c.args.size ≡ None =
    rw (rest_of bs n, inv.end) at (c.in_err-gap.ensures.none refl) in
    none_behind c.args.low c.args.high c.args.size bs n c.requires.laid inv.filled c.requires.some c.requires.eighths
    none

pub returns-then-gap-gt0-clause-some : goal.returns-then-gap-gt0-clause-some
returns-then-gap-gt0-clause-some c =
    let bs = c.args.blocks.now in
    let n = c.loop-count.count in
    let inv = c.loop-count.invariant in
    let g = c.in_ok-gap.gap in
    let gap : IsGap (first_end c.args.low bs n) c.args.high (drop n bs) c.args.size g.index g.at =
    rw (rest_of bs n, inv.end) at c.in_ok-gap.ensures.some in
    gap_behind c.args.low c.args.high c.args.size bs n g.index g.at c.requires.laid inv.filled c.requires.some
    c.requires.eighths gap

pub returns-then-gap-gt0-clause-filled : goal.returns-then-gap-gt0-clause-filled
returns-then-gap-gt0-clause-filled c =
    let n = c.loop-count.count in
    filled_before c.args.low c.args.blocks.now n (n + c.in_ok-gap.gap.index) _ (omega arith)
    c.loop-count.invariant.filled

pub returns-clause-some : goal.returns-clause-some
returns-clause-some c =
    let bs = c.args.blocks.now in
    let n = c.loop-count.count in
    let inv = c.loop-count.invariant in
    let g = c.in_ok-gap.gap in
    let first : g.index ≡ 0 = omega arith in
    let gap : IsGap (first_end c.args.low bs n) c.args.high (drop n bs) c.args.size 0 g.at =
    rw (rest_of bs n, inv.end, first) at c.in_ok-gap.ensures.some in
    rw add-zero at (gap_behind c.args.low c.args.high c.args.size bs n 0 g.at c.requires.laid inv.filled c.requires.some
    c.requires.eighths gap)

pub returns-clause-filled : goal.returns-clause-filled
returns-clause-filled c =
    let at = c.in_ok-gap.ensures.first (omega arith) ∙ c.loop-count.invariant.end in
    filled_here c.args.low c.args.blocks.now c.loop-count.count _ at c.loop-count.invariant.filled
