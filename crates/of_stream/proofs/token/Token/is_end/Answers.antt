use Rattle.std.proofs.Common.{rules}
use Rattle.of_stream.proofs.token.Token.is_end.Goals as goal

pub returns-in_default : goal.returns-in_default
returns-in_default c = search rules
