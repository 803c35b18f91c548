use Rattle.std.proofs.Common.{rules}
use Rattle.of_stream.proofs.stream.Stream.token_at.Goals as goal

pub returns-in-None-clause-err : goal.returns-in-None-clause-err
returns-in-None-clause-err c = search rules
