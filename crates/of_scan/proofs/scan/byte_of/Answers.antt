use Rattle.std.proofs.Common.{rules}
use Rattle.of_scan.proofs.scan.byte_of.Goals as goal

pub returns : goal.returns
returns c = search rules
