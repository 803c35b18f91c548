use Rattle.std.proofs.Common.{rules}
use Rattle.of_stream.proofs.token.Token.size_behind.Goals as goal

pub returns-in-204 : goal.returns-in-204
returns-in-204 c = search rules
