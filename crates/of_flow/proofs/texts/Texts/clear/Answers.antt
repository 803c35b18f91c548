use Rattle.std.proofs.Common.{rules}
use Rattle.of_flow.proofs.texts.Texts.clear.Goals as goal

pub returns : goal.returns
returns c = search rules
