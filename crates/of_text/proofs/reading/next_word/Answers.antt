use Rattle.std.proofs.Common.{rules}
use Rattle.of_text.proofs.reading.next_word.Goals as goal

pub returns-in-None : goal.returns-in-None
returns-in-None c = search rules
