use Rattle.std.proofs.Common.{rules}
use Rattle.of_scan.proofs.scan.Rest.string.Goals as goal

pub returns-clause-some : goal.returns-clause-some
returns-clause-some c = search rules
