use Rattle.std.proofs.Common.{rules}
use Rattle.of_scan.proofs.scan.Rest.skip_line.Goals as goal

pub returns : goal.returns
returns c = search rules
