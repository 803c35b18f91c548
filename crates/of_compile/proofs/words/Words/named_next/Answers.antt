use Rattle.std.proofs.Common.{rules}
use Rattle.of_compile.proofs.words.Words.named_next.Goals as goal

pub returns-clause-next : goal.returns-clause-next
returns-clause-next c = search rules
