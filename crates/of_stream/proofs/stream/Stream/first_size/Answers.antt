use Rattle.std.proofs.Common.{rules}
use Rattle.of_stream.proofs.stream.Stream.first_size.Goals as goal

pub returns-in-253 : goal.returns-in-253
returns-in-253 c = search rules
