use Rattle.std.proofs.Common.{rules}
use Rattle.of_source.proofs.source.Source.size.Goals as goal

pub returns : goal.returns
returns c = search rules
