use Rattle.std.proofs.Common.{arith}
use Rattle.std.proofs.lemmas.Grind.{common_steps}
use Rattle.of_scan.proofs.scan.Rest.behind.Goals as goal

pub returns : goal.returns
returns c = grind (arith, common_steps)
