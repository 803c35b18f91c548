use Rattle.std.proofs.Common.{◌≡◌, ◌++◌, drop}
use Rattle.std.specs.List.{flat_map}
use Rattle.of_rom.specs.Texts.{line_text}
use Rattle.of_rom.proofs.text.rom_text.Given as goal

abbrev pub invariant-loop-image : goal.invariant-loop-image
invariant-loop-image l = l.out.items ++ flat_map line_text (drop l.image-index l.image-items)
    ≡ flat_map line_text l.image-items
