use Rattle.std.proofs.Common.{◌≡◌, ◌-◌, ◌≤◌, length}
use Rattle.of_rom.specs.Roms.{fcode_of}
use Rattle.of_rom.proofs.Walks.{program_from}
use Rattle.of_rom.proofs.rom.fcode_of.Given as goal

abbrev pub invariant-loop : goal.invariant-loop
invariant-loop l = record {
  within : l.at ≤ length l.rom;
  program : program_from l.rom (length l.rom - l.counter) l.at ≡ fcode_of l.rom;
}
