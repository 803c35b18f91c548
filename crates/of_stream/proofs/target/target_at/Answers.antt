use Rattle.std.proofs.Common.{rules}
use Rattle.of_stream.proofs.target.target_at.Goals as goal

pub returns : goal.returns
returns c = search rules
