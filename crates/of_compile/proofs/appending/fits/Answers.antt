use Rattle.std.proofs.Common.{rules}
use Rattle.of_compile.proofs.appending.fits.Goals as goal

pub returns-in-Some : goal.returns-in-Some
returns-in-Some g c = search rules
