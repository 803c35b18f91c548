use Rattle.std.proofs.Common.{rules}
use Rattle.of_stream.proofs.stream.Stream.landing.Goals as goal

pub returns : goal.returns
returns c = search rules
