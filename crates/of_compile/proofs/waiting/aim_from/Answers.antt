use Rattle.std.proofs.Common.{arith, ◌∙◌, ◌-◌, inl}
use Rattle.of_compile.proofs.Scanning.{aimed_step}
use Rattle.of_compile.proofs.waiting.aim_from.Goals as goal

pub loop-cell-preserved : goal.loop-cell-preserved
loop-cell-preserved g c =
    let code = g.C.CodeStore.code in
    let more = c.loop-cell-test.true in
    let within = c.loop-cell.invariant.within in
    record {
      code =
          aimed_step c.args.waiting c.args.to (code c.args.code.now) (code c.loop-cell.code) (code c.aim.new.code)
          c.loop-cell.cell (c.loop-cell.cell - 1) (omega (arith, more)) (omega (arith, more, within))
          c.loop-cell.invariant.code c.aim.ensures.code;
      spare = c.aim.ensures.spare ∙ c.loop-cell.invariant.spare;
      within = omega (arith, within);
      reached = inl (omega (arith, more));
    }
