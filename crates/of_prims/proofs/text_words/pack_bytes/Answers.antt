use Rattle.std.proofs.Common.{ap}
use Rattle.of_cells.specs.declared.cells.Cell.{Cell}
use Rattle.of_prims.proofs.Packing.{packed}
use Rattle.of_prims.proofs.text_words.pack_bytes.Goals as goal

pub returns : goal.returns
returns c =
    packed c.parts_are_good.ensures c.ranges_are_placed.ensures c.faults_stay.ensures c.writes_join.ensures
    c.args.memory.now _ _ c.args.from.0 c.args.n.0 c.args.a.0 _ _ _ c.requires.sound c.requires.read
    c.requires.write c.requires.short (ap (λ (x : Cell). x.0) c.add.ensures) c.copy.ensures.value
    c.write_bytes.ensures.value
