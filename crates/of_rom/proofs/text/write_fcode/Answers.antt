-- The goal at which a wrong body is refused.
use Rattle.std.proofs.Common.{rules}
use Rattle.of_rom.proofs.text.write_fcode.Goals as goal

pub returns-in-Some : goal.returns-in-Some
returns-in-Some c = search rules
