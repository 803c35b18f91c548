use Rattle.std.proofs.Common.{rules}
use Rattle.of_scan.proofs.scan.Rest.new.Goals as goal

pub returns : goal.returns
returns c = search rules
