use Rattle.std.proofs.Common.{length, sym, ◌∙◌}
use Rattle.of_rom.proofs.Walks.{images_last, images_more, images_stop}
use Rattle.of_rom.proofs.rom.rom_images.Goals as goal

pub returns-in-Err : goal.returns-in-Err
returns-in-Err c =
    let rom = c.args.rom.now in
    sym (images_stop c.loop.images.items rom (length rom) c.loop.counter c.loop.at c.in-Err.fault c.loop-test.true
    (sym c.in-Err.ensures.image))
    ∙ c.loop.invariant.images

pub returns-then-image : goal.returns-then-image
returns-then-image c =
    let rom = c.args.rom.now in
    rw c.in_ok-push.ensures.items (
    sym (images_last c.loop.images.items rom (length rom) c.loop.counter c.loop.at c.in-Ok.image c.loop-test.true
    (sym c.in-Ok.ensures.image) c.if-image.true)
    ∙ c.loop.invariant.images
    )

pub loop-preserved : goal.loop-preserved
loop-preserved c = record {
  within = rw c.end-at.ensures c.in-Ok.ensures.within;
  images =
      let rom = c.args.rom.now in
      rw (c.in_ok-push.ensures.items, c.end-at.ensures) (
      sym (images_more c.loop.images.items rom (length rom) c.loop.counter c.loop.at c.in-Ok.image c.loop-test.true
      (sym c.in-Ok.ensures.image) c.if-image.false)
      ∙ c.loop.invariant.images
      );
}
