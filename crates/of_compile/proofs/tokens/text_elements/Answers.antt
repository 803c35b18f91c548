use Rattle.std.proofs.Common.{rules}
use Rattle.of_compile.proofs.tokens.text_elements.Goals as goal

pub returns-in-Else : goal.returns-in-Else
returns-in-Else c = search rules
