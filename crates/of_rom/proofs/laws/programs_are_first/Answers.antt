use Rattle.of_rom.proofs.Programs.{programs_are_first}
use Rattle.of_rom.proofs.laws.programs_are_first.Goals as goal

pub returns : goal.returns
returns c = programs_are_first
