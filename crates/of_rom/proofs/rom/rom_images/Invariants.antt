use Rattle.std.proofs.Common.{◌≡◌, ◌-◌, ◌≤◌, length}
use Rattle.of_rom.specs.Roms.{images_from, images_of}
use Rattle.of_rom.proofs.Walks.{images_behind}
use Rattle.of_rom.proofs.rom.rom_images.Given as goal

abbrev pub invariant-loop : goal.invariant-loop
invariant-loop l = record {
  within : l.at ≤ length l.rom;
  images : images_behind l.images.items (images_from l.rom (length l.rom - l.counter) l.at) ≡ images_of l.rom;
}
