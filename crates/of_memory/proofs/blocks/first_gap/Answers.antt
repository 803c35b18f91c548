use Rattle.std.proofs.Common.{◌≡◌, length, refl, sym, ◌∙◌, arith}
use Rattle.std.proofs.lemmas.List.{drop_more, drop_all}
use Rattle.of_memory.proofs.Laid.{laid_at, laid_ordered}
use Rattle.of_memory.proofs.Gap.{gap_step, gap_here, gap_last, gap_full, is_gap, no_gap}
use Rattle.of_memory.proofs.blocks.first_gap.Goals as goal

pub loop-i-init : goal.loop-i-init
loop-i-init c = record {
  on = laid_ordered c.args.low c.args.high c.args.blocks.now c.requires.laid;
  first = λ _. refl;
  rest = refl;
}

pub overflow_add-next-in-loop-i : goal.overflow_add-next-in-loop-i
overflow_add-next-in-loop-i c =
    let w =
    laid_at c.args.low c.args.high c.args.blocks.now c.loop-i.i
    (record { at = 0; size = 0 }) c.requires.laid c.loop-i-test.true in
    omega (arith, w.high)

pub loop-i-preserved : goal.loop-i-preserved
loop-i-preserved c =
    let bs = c.args.blocks.now in
    let w =
    laid_at c.args.low c.args.high bs c.loop-i.i (record { at = 0; size = 0 }) c.requires.laid c.loop-i-test.true in
    record {
      on = w.high;
      first = λ e. absurd (omega (arith, e));
      rest = gap_step c.args.high c.args.size c.loop-i.i c.loop-i.next _ _ _
          (drop_more bs c.loop-i.i (record { at = 0; size = 0 }) c.loop-i-test.true) c.if-next-size.false
          ∙ c.loop-i.invariant.rest;
    }

pub returns-then-next-size-clause-some : goal.returns-then-next-size-clause-some
returns-then-next-size-clause-some c =
    let bs = c.args.blocks.now in
    is_gap c.args.low c.args.high c.args.size c.loop-i.i c.loop-i.next bs c.requires.laid c.requires.some
    c.requires.eighths
    (sym c.loop-i.invariant.rest ∙ gap_here c.args.high c.args.size c.loop-i.i c.loop-i.next _ _ _
    (drop_more bs c.loop-i.i (record { at = 0; size = 0 }) c.loop-i-test.true) c.if-next-size.true)

pub returns-then-next-size-2-clause-some : goal.returns-then-next-size-2-clause-some
returns-then-next-size-2-clause-some c =
    let bs = c.args.blocks.now in
    let end : c.loop-i.i ≡ length bs = omega arith in
    rw (← end) (is_gap c.args.low c.args.high c.args.size c.loop-i.i c.loop-i.next bs c.requires.laid c.requires.some
    c.requires.eighths
    (sym c.loop-i.invariant.rest ∙ gap_last c.args.high c.args.size c.loop-i.i c.loop-i.next _
    (drop_all c.loop-i.i bs c.loop-i-test.false) c.if-next-size-2.true))

pub returns-else-next-size-2-clause-none : goal.returns-else-next-size-2-clause-none
returns-else-next-size-2-clause-none c _ =
    let bs = c.args.blocks.now in
    no_gap c.args.low c.args.high c.args.size bs c.requires.laid c.requires.some
    (sym c.loop-i.invariant.rest ∙ gap_full c.args.high c.args.size c.loop-i.i c.loop-i.next _
    (drop_all c.loop-i.i bs c.loop-i-test.false) c.if-next-size-2.false)
