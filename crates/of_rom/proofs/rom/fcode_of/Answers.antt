use Rattle.std.proofs.Common.{length, sym, ◌∙◌}
use Rattle.of_rom.proofs.Walks.{program_more}
use Rattle.of_rom.proofs.rom.fcode_of.Goals as goal

pub loop-preserved : goal.loop-preserved
loop-preserved c = record {
  within = rw c.end-at.ensures c.in-Ok.ensures.within;
  program =
      let rom = c.args.rom.now in
      rw c.end-at.ensures (
      sym (program_more rom (length rom) c.loop.counter c.loop.at c.in-Ok.image c.loop-test.true
      (sym c.in-Ok.ensures.image) c.in_default.is c.if-image.false)
      ∙ c.loop.invariant.program
      );
}
