use Rattle.std.proofs.Common.{rules}
use Rattle.of_nodes.proofs.phandles.Phandle.of.Goals as goal

pub returns : goal.returns
returns c = search rules
