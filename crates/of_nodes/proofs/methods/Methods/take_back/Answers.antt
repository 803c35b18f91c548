use Rattle.std.proofs.Common.{rules}
use Rattle.of_nodes.proofs.methods.Methods.take_back.Goals as goal

pub returns-in-None : goal.returns-in-None
returns-in-None c = search rules
